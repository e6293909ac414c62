use Rattle.samples.specs.Candidates.{by_weight}
use Rattle.entries.specs.Singles.{candidate_in}
use Rattle.entries.proofs.Queueing.{Queueing}
use Rattle.entries.proofs.table.Table.queue_samples.Given as goal

abbrev pub invariant-loop-entry : goal.invariant-loop-entry
invariant-loop-entry l = Queueing by_weight (candidate_in l.span) l.self.entries.items l.heap l.entry-index
