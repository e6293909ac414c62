-- Ranks, and the first k of the slots that pass a test, under any order of slots. Assumes nothing.
--   nearer w s t      slot s is nearer than slot t: its weight is lower, or equal and its number lower
--   rank p lt n s     how many of the slots below n that pass p come before s
--   first p lt n k s  s passes p, and fewer than k come before it
use Rattle.std.specs.Prelude.{ℕ, Bool, ◌&&◌, ◌||◌, ◌==◌, nat_lt}
use Rattle.ranking.specs.Counts.{count}

-- the weight first, and the slot where the weights are equal
abbrev pub lower : ℕ → ℕ → ℕ → ℕ → Bool
lower v s w t = nat_lt v w || (v == w && nat_lt s t)

unfoldable pub nearer : (ℕ → ℕ) → ℕ → ℕ → Bool
nearer w s t = lower (w s) s (w t) t

abbrev pub rank : (ℕ → Bool) → (ℕ → ℕ → Bool) → ℕ → ℕ → ℕ
rank p lt n s = count (λ t. p t && lt t s) n

abbrev pub first : (ℕ → Bool) → (ℕ → ℕ → Bool) → ℕ → ℕ → ℕ → Bool
first p lt n k s = p s && nat_lt (rank p lt n s) k
