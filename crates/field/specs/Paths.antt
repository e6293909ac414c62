-- One step along the path of values. Assumes nothing.
--   Goes node v m x r   where the values go from node x
use Rattle.std.specs.Prelude.{◌≡◌, ℕ, ◌<◌, true, Some, None, Option}
use Rattle.trees.specs.Trees.{Node, leaf, next}

-- r is the child of node x, of m nodes, in which the values v belong; a leaf has none
abbrev pub Goes : (ℕ → Node) → (ℕ → ℕ) → ℕ → ℕ → Option ℕ → Type 0
Goes node v m x None = (node x).kind ≡ leaf
Goes node v m x (Some y) = (next node v x y ≡ true) × (x < y) × (y < m)
