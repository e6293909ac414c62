-- What the private steps do to runs, the lists of slots whose samples lie in a box. Assumes nothing.
--   Holds p n xs        the list holds each slot below n that passes p once, and nothing else
--   Run a k xs          the list is a run of the box k
--   lodging a k xs      how many slots of a list hold a sample in the box k
--   of_code a xs f      how many slots of a list hold a sample of fibre f
--   Parted p xs ys m    ys is xs reordered: its first m slots are those that pass p
use Rattle.std.specs.Prelude.{◌≡◌, ℕ, ◌≤◌, Bool, true, false, ◌&&◌, List, length, count_by, IsPermutation, ◌==◌}
use Rattle.std.specs.List.Sorted.{IsPartitionPoint}
use Rattle.ranking.specs.Counts.{count}
use Rattle.trees.specs.Boxes.{Box}
use Rattle.trees.specs.Drawing.{lodged}
use Rattle.trees.specs.Samples.{Samples}

-- whatever test is put to the slots, as many pass in the list as among those below n that pass p
abbrev pub Holds : (ℕ → Bool) → ℕ → List ℕ → Type 0
Holds p n xs = (q : ℕ → Bool) → count_by q xs ≡ count (λ s. p s && q s) n

abbrev pub Run : Samples → Box → List ℕ → Type 0
Run a k xs = Holds (lodged a k) a.slots xs

abbrev pub lodging : Samples → Box → List ℕ → ℕ
lodging a k xs = count_by (lodged a k) xs

abbrev pub of_code : Samples → List ℕ → ℕ → ℕ
of_code a xs f = count_by (λ s. a.held s && a.fibre s == f) xs

pub record Parted (p : ℕ → Bool) (xs ys : List ℕ) (m : ℕ) : Type 0 where
  pub moved : IsPermutation xs ys
  pub within : m ≤ length ys
  pub parted : IsPartitionPoint (λ s. p s ≡ true) (λ s. p s ≡ false) ys m
