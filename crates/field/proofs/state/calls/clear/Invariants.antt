use Rattle.std.proofs.Common.{◌≡◌, ℕ, ◌<◌, length}
use Rattle.boxes.specs.Views.{node_at, counts_at}
use Rattle.field.proofs.state.calls.clear.Given as goal

abbrev pub invariant-loop-node : goal.invariant-loop-node
invariant-loop-node l = record {
  long : length l.node-items ≡ length l.initial.node-items;
  shape : (x : ℕ) → node_at l.node-items x ≡ node_at l.initial.node-items x;
  counts : (x g : ℕ) → x < l.node-index → g < 8 → counts_at l.node-items x g ≡ 0;
}
