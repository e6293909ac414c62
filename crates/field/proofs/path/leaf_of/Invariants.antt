use Rattle.std.proofs.Common.{◌≡◌, ◌-◌, ◌<◌, true, length}
use Rattle.boxes.specs.Views.{entries, node_at}
use Rattle.trees.specs.Trees.{under}
use Rattle.field.proofs.path.leaf_of.Given as goal

abbrev pub invariant-loop-next : goal.invariant-loop-next
invariant-loop-next l = (l.at < length l.nodes) × (under (node_at l.nodes) (entries l.values) l.at ≡ true)

abbrev pub decreases-loop-next : goal.decreases-loop-next
decreases-loop-next l = length l.nodes - l.at
