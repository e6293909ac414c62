use Rattle.std.proofs.Common.{Ok, ap, ◌∙◌}
use Rattle.histories.proofs.Lawful.{known_of}
use Rattle.reader.proofs.Finishing.{fewer_left}
use Rattle.reader.proofs.query.Query.finish.Goals as goal

pub loop-smaller : goal.loop-smaller
loop-smaller g c =
    let q = c.loop.self in
    let m = q.reader.measure in
    let known = known_of (g.M.Measure.weighed m) (g.M.Measure.joined m) (g.met.M.Measure.weigh_rises m) (g.met.M.Measure.join_rises m) in
    rw c.step.ensures.stays.field
    (fewer_left _ _ known q.reader.store.value.field q.question q.reader.store.value.walk q.walked c.step.result _ (c.in-Ok-Going.is ∙ ap Ok c.in-Ok-Going.field-0-is) c.step.ensures.answer c.step.ensures.steps)
