use Rattle.entries.specs.OpenNodes.{open_node, by_depth}
use Rattle.entries.proofs.Queueing.{Queueing}
use Rattle.entries.proofs.table.Table.queue.Given as goal

abbrev pub invariant-loop-entry : goal.invariant-loop-entry
invariant-loop-entry l = Queueing by_depth (open_node l.span) l.self.entries.items l.heap l.entry-index
