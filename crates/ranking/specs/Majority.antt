-- Which code has the most votes, the lowest where several have as many. Assumes nothing.
--   tally p code n j  how many of the slots below n that pass p have the code j
--   leader v m        the lowest of the codes below m with the most votes
--   Leads v m c       that c is that code
use Rattle.std.specs.Prelude.{ℕ, zero, suc, ◌<◌, ◌≤◌, Bool, cond, ◌&&◌, ◌==◌, nat_lt}
use Rattle.ranking.specs.Counts.{count}

abbrev pub tally : (ℕ → Bool) → (ℕ → ℕ) → ℕ → ℕ → ℕ
tally p code n j = count (λ s. p s && code s == j) n

-- the code m if it has more votes than b, else b
abbrev pub better : (ℕ → ℕ) → ℕ → ℕ → ℕ
better v b m = cond (nat_lt (v b) (v m)) m b

unfoldable pub leader : (ℕ → ℕ) → ℕ → ℕ
leader v zero = 0
leader v (suc m) = better v (leader v m) m

-- more votes than every lower code, and at least as many as every higher one
pub record Leads (v : ℕ → ℕ) (m c : ℕ) : Type 0 where
  pub code : c < m
  pub lower : (j : ℕ) → j < c → v j < v c
  pub higher : (j : ℕ) → c < j → j < m → v j ≤ v c
