use Rattle.std.proofs.Common.{◌≡◌, ℕ, ◌<◌, length, get_or}
use Rattle.boxes.specs.Views.{node_at}
use Rattle.records.specs.Checks.{namings}
use Rattle.field.proofs.flaws.namings_of.Given as goal

abbrev pub invariant-loop-node : goal.invariant-loop-node
invariant-loop-node l = (length l.times ≡ 1021) × ((y : ℕ) → y < 1021 → get_or l.times y 0 ≡ namings l.node-index (node_at l.nodes) y)
