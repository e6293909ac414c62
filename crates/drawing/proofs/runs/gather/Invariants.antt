use Rattle.std.proofs.Common.{◌≡◌, ◌≤◌, length}
use Rattle.trees.specs.Boxes.{everything}
use Rattle.trees.specs.Drawing.{lodged}
use Rattle.drawing.specs.Held.{held_in}
use Rattle.drawing.specs.Runs.{Holds}
use Rattle.drawing.proofs.runs.gather.Given as goal

abbrev pub invariant-loop-slot : goal.invariant-loop-slot
invariant-loop-slot l =
    goal.iterator-loop-slot.can_next l.slot-iterator
    × goal.iterator-loop-slot.is_finite l.slot-iterator
    × (l.slot-iterator.slots.now ≡ l.slots)
    × (l.slot-iterator.from ≤ 256)
    × (length l.run.items ≤ l.slot-iterator.from)
    × Holds (lodged (held_in l.slots) everything) l.slot-iterator.from l.run.items
