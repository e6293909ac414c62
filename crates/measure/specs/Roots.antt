-- The integer root, and tables of roots. Assumes nothing.
--   Largest n t   t is the largest number whose square is at most n
--   root n        that number, by search
--   Roots xs      entry g of a table of 1,024 is the root of 1024 * g
use Rattle.std.specs.Prelude.{◌≡◌, ℕ, zero, suc, ◌+◌, ◌*◌, ◌<◌, ◌≤◌, cond, List, nat_le, slice_index}

abbrev pub Largest : ℕ → ℕ → Type 0
Largest n t = (t * t ≤ n) × ((s : ℕ) → s * s ≤ n → s ≤ t)

-- t, or one more where the square of that is at most n
abbrev pub raised : ℕ → ℕ → ℕ
raised t n = cond (nat_le ((t + 1) * (t + 1)) n) (t + 1) t

unfoldable pub root : ℕ → ℕ
root zero = 0
root (suc n) = raised (root n) (suc n)

pub record Roots (xs : List ℕ) : Type 0 where
  pub at : (g : ℕ) → g < 1024 → slice_index xs g ≡ root (1024 * g)
