-- How weights join, and what one reading weighs against another. Assumes nothing.
--   held_sum u v        the sum of two weights, held at the largest weight
--   apart x y           the absolute difference of two values
--   gap_at xs ys b      the gap of two readings in band b
--   join_to w j g b     the weights of the gaps g of bands 0 to b, joined upward
--   weight_of w j xs ys what a reading weighs against another
--   Monotone w j        smaller gaps never weigh more
use Rattle.std.specs.Prelude.{ℕ, zero, suc, ◌+◌, ◌-◌, ◌<◌, ◌≤◌, min, List, slice_index}

abbrev pub held_sum : ℕ → ℕ → ℕ
held_sum u v = min (u + v) 4294967295

abbrev pub apart : ℕ → ℕ → ℕ
apart x y = (x - y) + (y - x)

abbrev pub gap_at : List ℕ → List ℕ → ℕ → ℕ
gap_at xs ys b = apart (slice_index xs b) (slice_index ys b)

-- J(J(W(0, g 0), W(1, g 1)), W(2, g 2)) and so on, up to band b
unfoldable pub join_to : (ℕ → ℕ → ℕ) → (ℕ → ℕ → ℕ) → (ℕ → ℕ) → ℕ → ℕ
join_to w j g zero = w 0 (g 0)
join_to w j g (suc b) = j (join_to w j g b) (w (suc b) (g (suc b)))

abbrev pub weight_of : (ℕ → ℕ → ℕ) → (ℕ → ℕ → ℕ) → List ℕ → List ℕ → ℕ
weight_of w j xs ys = join_to w j (gap_at xs ys) 7

-- gaps of which none exceeds another's in its band weigh no more when all eight are joined
abbrev pub Monotone : (ℕ → ℕ → ℕ) → (ℕ → ℕ → ℕ) → Type 0
Monotone w j = (g h : ℕ → ℕ) → ((b : ℕ) → b < 8 → g b ≤ h b) → join_to w j g 7 ≤ join_to w j h 7
