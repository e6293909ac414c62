-- Samples by slot, and how many of them belong to leaves at or below a node. Assumes nothing.
--   Valid a             every sample held is in range
--   lies node a x f s   slot s holds a sample of fibre f that belongs at or below node x
--   Right m node c a    the counts c of a tree with m nodes are those of the samples
--   raised, lowered     the counts with one sample more, and one less, along its path
use Rattle.std.specs.Prelude.{◌≡◌, ℕ, ◌+◌, ◌-◌, ◌<◌, Bool, true, cond, not, ◌&&◌, ◌||◌, ◌==◌}
use Rattle.ranking.specs.Counts.{bit, count}
use Rattle.trees.specs.Trees.{Node, under}

pub record Samples : Type 0 where
  pub slots : ℕ
  pub held : ℕ → Bool
  pub fibre : ℕ → ℕ
  pub value : ℕ → ℕ → ℕ

abbrev pub Valid : Samples → Type 0
Valid a = (s : ℕ) → s < a.slots → a.held s ≡ true → (a.fibre s < 8) × ((b : ℕ) → b < 8 → a.value s b < 1024)

unfoldable pub lies : (ℕ → Node) → Samples → ℕ → ℕ → ℕ → Bool
lies node a x f s = a.held s && (a.fibre s == f && under node (a.value s) x)

abbrev pub Right : ℕ → (ℕ → Node) → (ℕ → ℕ → ℕ) → Samples → Type 0
Right m node counts a = (x f : ℕ) → x < m → f < 8 → counts x f ≡ count (lies node a x f) a.slots

-- slot z filled, and emptied
unfoldable pub filled : Samples → ℕ → ℕ → (ℕ → ℕ) → Samples
filled a z f v = record { slots = a.slots; held = λ s. a.held s || (s == z); fibre = λ s. cond (s == z) f (a.fibre s); value = λ s. cond (s == z) v (a.value s) }

unfoldable pub emptied : Samples → ℕ → Samples
emptied a z = record { slots = a.slots; held = λ s. a.held s && not (s == z); fibre = a.fibre; value = a.value }

unfoldable pub raised : (ℕ → Node) → (ℕ → ℕ → ℕ) → ℕ → (ℕ → ℕ) → ℕ → ℕ → ℕ
raised node counts f v x g = counts x g + bit (f == g && under node v x)

unfoldable pub lowered : (ℕ → Node) → (ℕ → ℕ → ℕ) → ℕ → (ℕ → ℕ) → ℕ → ℕ → ℕ
lowered node counts f v x g = counts x g - bit (f == g && under node v x)
