use Rattle.measure.proofs.Joins.{monotone}
use Rattle.measure.proofs.weight.Goals as goal

pub returns-clause-monotone : goal.returns-clause-monotone
returns-clause-monotone g c =
    let m = c.args.m.now in
    let laws = g.met.M.Measure in
    monotone _ _ (laws.weigh_rises m) (laws.join_rises m)
