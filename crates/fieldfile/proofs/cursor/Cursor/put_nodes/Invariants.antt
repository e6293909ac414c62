use Rattle.field.specs.Fields.{tree, counts}
use Rattle.fieldfile.specs.Cursors.{Adds}
use Rattle.records.specs.Format.{nodes_bytes}
use Rattle.fieldfile.proofs.cursor.Cursor.put_nodes.Given as goal

abbrev pub invariant-loop-node : goal.invariant-loop-node
invariant-loop-node l = Adds l.initial.self l.self (nodes_bytes (tree l.field) (counts l.field) l.node-index)
