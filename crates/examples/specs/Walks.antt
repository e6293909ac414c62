-- Worked examples of the walk: under block, of a reading with 11 in band 0, over five samples in a tree of two halves. Assumes nothing.
--   blend        fibres 1, 2, 1, 2, 3 in slots 0 to 4, at 10, 12, 610, 600 and 14 in band 0
--   halves       node 0 has the box of all readings and is split, nodes 1 and 2 are leaves with its halves
--   seen t       the samples of t in that tree, against the reading
--   ends t ..    how the walk of k with the ratio n to d ends after i steps
--   Walked       what the examples say
use Rattle.std.specs.Prelude.{◌≡◌, ℕ, zero, suc, true, List, [], ◌∷◌, ◌++◌, replicate, Some, None, Option}
use Rattle.drawing.specs.Held.{samples_of}
use Rattle.measure.specs.Weight.{held_sum}
use Rattle.samples.specs.Examples.{five}
use Rattle.samples.specs.Slots.{Point, Table}
use Rattle.trees.specs.Boxes.{lower, upper, everything}
use Rattle.trees.specs.Drawing.{rebuilt, Numbered}
use Rattle.trees.specs.Trees.{leaf, split, Node}
use Rattle.bounding.specs.Fields.{scene}
use Rattle.walks.specs.Scenes.{Scene}
use Rattle.walks.specs.Views.{place_of}
use Rattle.walks.specs.Walk.{view, walk, End, going, settled, nearby, end}

-- a value in band 0, and 0 in the other bands
abbrev pub only : ℕ → List ℕ
only x = x ∷ 0 ∷ 0 ∷ 0 ∷ 0 ∷ 0 ∷ 0 ∷ 0 ∷ []

abbrev sample : ℕ → ℕ → Option Point
sample f x = Some (record { fibre = f; values = only x })

abbrev pub blend : Table
blend = (sample 1 10 ∷ sample 2 12 ∷ sample 1 610 ∷ sample 2 600 ∷ sample 3 14 ∷ []) ++ replicate 251 None

abbrev pub halves : ℕ → Node
halves zero = record { kind = split; box = everything; first = 1; second = 2 }
halves (suc zero) = record { kind = leaf; box = lower everything; first = 0; second = 0 }
halves (suc (suc x)) = record { kind = leaf; box = upper everything; first = 0; second = 0 }

abbrev pub seen : Table → Scene
seen t = scene (λ b g. g) held_sum t 3 halves (only 11)

abbrev pub ends : Table → ℕ → ℕ → ℕ → ℕ → End
ends t k n d i = end (seen t) k n d (walk (seen t) k i)

-- the sample in slot s stands at place p of the list of blend, with k = 4, after two steps
abbrev pub Listed : ℕ → ℕ → Type 0
Listed p s = place_of (view (seen blend) (walk (seen blend) 4 2)) 4 p s ≡ true

pub record Walked : Type 0 where
  -- the tree is the one that is drawn over either five
  pub drawn : Numbered halves (rebuilt (samples_of blend)) everything 0 × Numbered halves (rebuilt (samples_of five)) everything 0
  -- blend with k = 4 and 17 to 1 ends nearby at step 2, with the list 0, 1, 4, 2 and fibre 1
  pub wide : (ends blend 4 17 1 0 ≡ going) × (ends blend 4 17 1 1 ≡ going) × (ends blend 4 17 1 2 ≡ nearby 1)
  pub list : Listed 0 0 × Listed 1 1 × Listed 2 4 × Listed 3 2
  -- with 16 to 1 it ends settled at step 3, with fibre 2
  pub narrow : (ends blend 4 16 1 0 ≡ going) × (ends blend 4 16 1 1 ≡ going) × (ends blend 4 16 1 2 ≡ going) × (ends blend 4 16 1 3 ≡ settled 2)
  -- the five with k = 3 and 1 to 1 settle on fibre 1 at step 2
  pub clear : (ends five 3 1 1 0 ≡ going) × (ends five 3 1 1 1 ≡ going) × (ends five 3 1 1 2 ≡ settled 1)
