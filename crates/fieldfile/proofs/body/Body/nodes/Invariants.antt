use Rattle.std.proofs.Common.{◌≡◌, ℕ, ◌<◌, false, length}
use Rattle.boxes.specs.Views.{node_at}
use Rattle.records.specs.Checks.{bad_node}
use Rattle.records.specs.Readings.{tree_in}
use Rattle.fieldfile.proofs.body.Body.nodes.Given as goal

abbrev pub invariant-loop-record : goal.invariant-loop-record
invariant-loop-record l = record {
  size : length l.nodes.items ≡ l.record;
  good : (x : ℕ) → x < l.record → bad_node l.self.file.now x ≡ false;
  nodes : (x : ℕ) → x < l.record → node_at l.nodes.items x ≡ tree_in l.self.file.now x;
}
