-- How far a reading may be from what a box covers. Assumes nothing.
--   gap_to f l x       the gap from the value x to those from f to l, 0 where it is one of them
--   reach_to f l x     the larger distance from x to f and l
--   last k b           the highest value that the box k covers in band b
--   near_gap k r b     the gap in band b from the reading r to the box k
--   far_gap k r b      the larger distance in band b from the reading r to the two ends of the box k
--   near_of w j k r    the near gaps, weighed and joined
--   far_of w j k r     the far gaps, weighed and joined
--   Between w j k r    what the box covers weighs no less than near and no more than far
use Rattle.std.specs.Prelude.{ℕ, ◌+◌, ◌-◌, ◌≤◌, true, ◌≡◌, max, List, slice_index}
use Rattle.measure.specs.Weight.{apart, join_to, weight_of}
use Rattle.trees.specs.Boxes.{Box, side, covers}

abbrev pub last : Box → ℕ → ℕ
last k b = k.corner b + (side k.depth b - 1)

unfoldable pub gap_to : ℕ → ℕ → ℕ → ℕ
gap_to f l x = (f - x) + (x - l)

unfoldable pub reach_to : ℕ → ℕ → ℕ → ℕ
reach_to f l x = max (apart x f) (apart x l)

abbrev pub near_gap : Box → List ℕ → ℕ → ℕ
near_gap k r b = gap_to (k.corner b) (last k b) (slice_index r b)

abbrev pub far_gap : Box → List ℕ → ℕ → ℕ
far_gap k r b = reach_to (k.corner b) (last k b) (slice_index r b)

module _ (w j : ℕ → ℕ → ℕ) (k : Box) (r : List ℕ) where
  abbrev pub near_of : ℕ
  near_of = join_to w j (near_gap k r) 7

  abbrev pub far_of : ℕ
  far_of = join_to w j (far_gap k r) 7

  abbrev pub Between : Type 0
  Between = (v : List ℕ) → covers k (λ b. slice_index v b) ≡ true → (near_of ≤ weight_of w j v r) × (weight_of w j v r ≤ far_of)
