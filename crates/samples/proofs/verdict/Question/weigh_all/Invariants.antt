use Rattle.samples.specs.Questions.{weights}
use Rattle.samples.specs.Slots.{table, held}
use Rattle.samples.proofs.Gathered.{Gathered}
use Rattle.samples.proofs.verdict.Question.weigh_all.Given as goal

abbrev pub invariant-loop-slot : goal.invariant-loop-slot
invariant-loop-slot g l = Gathered l.heap (weights g.M.Measure.weighed g.M.Measure.joined l.self) (held (table l.self.slots.now)) l.slot
