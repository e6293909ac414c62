use Rattle.bounding.proofs.Seen.{fair_field}
use Rattle.bounding.proofs.scene_fair.Goals as goal

pub returns : goal.returns
returns g c r =
    let m = c.args.measure.now in
    let laws = g.met.M.Measure in
    fair_field _ _ (laws.weigh_rises m) (laws.join_rises m) c.args.field.now r
