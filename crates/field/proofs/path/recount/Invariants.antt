use Rattle.std.proofs.Common.{◌≡◌, ◌-◌, ◌<◌, ◌&&◌, true, ltb, length}
use Rattle.boxes.specs.Views.{entries, node_at}
use Rattle.trees.specs.Trees.{under}
use Rattle.field.proofs.Marked.{Marks}
use Rattle.field.proofs.path.recount.Given as goal

abbrev pub invariant-loop-next : goal.invariant-loop-next
invariant-loop-next g l =
    let os = l.initial.nodes in
    record {
      within : l.at < length l.nodes;
      on_path : under (node_at os) (entries l.sample.reading.values) l.at ≡ true;
      shape : node_at l.nodes ≡ node_at os;
      marks : Marks (goal.F-post g l.change) l.sample.fibre (λ y. under (node_at os) (entries l.sample.reading.values) y && ltb y l.at) os l.nodes;
    }

abbrev pub decreases-loop-next : goal.decreases-loop-next
decreases-loop-next g l = length l.nodes - l.at
