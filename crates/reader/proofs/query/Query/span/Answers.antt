use Rattle.std.proofs.Common.{rules}
use Rattle.histories.proofs.Lawful.{known_of}
use Rattle.reader.specs.Views.{field_in, steps_in}
use Rattle.reader.proofs.Righted.{span_right}
use Rattle.reader.proofs.query.Query.span.Goals as goal

pub returns-clause-value : goal.returns-clause-value
returns-clause-value g c = search rules

pub returns-clause-right : goal.returns-clause-right
returns-clause-right g c =
    let q = c.args.self.now in
    let m = q.reader.measure in
    let known = known_of (g.M.Measure.weighed m) (g.M.Measure.joined m) (g.met.M.Measure.weigh_rises m) (g.met.M.Measure.join_rises m) in
    span_right _ _ known (field_in q.reader) q.question q.reader.store.value.walk q.walked (steps_in q) _ (returns-clause-value g c)
