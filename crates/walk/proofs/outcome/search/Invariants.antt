use Rattle.std.proofs.Common.{◌-◌}
use Rattle.walk.specs.Asked.{asked_of}
use Rattle.walk.specs.Stands.{Stands}
use Rattle.walk.proofs.outcome.search.Given as goal

abbrev pub invariant-loop-walk : goal.invariant-loop-walk
invariant-loop-walk g l = Stands (g.M.Measure.weighed l.measure) (g.M.Measure.joined l.measure) l.field (asked_of l.question) l.walk

abbrev pub decreases-loop-walk : goal.decreases-loop-walk
decreases-loop-walk g l = 1022 - l.walk.steps
