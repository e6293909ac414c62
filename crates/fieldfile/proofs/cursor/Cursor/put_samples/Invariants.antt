use Rattle.std.proofs.Common.{◌≡◌, ◌≤◌}
use Rattle.field.specs.Fields.{holds, tree, node_count}
use Rattle.fieldfile.specs.Cursors.{Adds}
use Rattle.records.specs.Format.{samples_bytes}
use Rattle.fieldfile.proofs.cursor.Cursor.put_samples.Given as goal

abbrev pub invariant-loop-slot : goal.invariant-loop-slot
invariant-loop-slot l =
    goal.iterator-loop-slot.can_next l.slot-iterator
    × goal.iterator-loop-slot.is_finite l.slot-iterator
    × (l.slot-iterator.slots.now ≡ l.field.slots)
    × (l.slot-iterator.from ≤ 256)
    × Adds l.initial.self l.self (samples_bytes (holds l.field) (node_count l.field) (tree l.field) l.slot-iterator.from)
