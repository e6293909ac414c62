-- Which depth and corner make a box. Assumes nothing.
use Rattle.std.specs.Prelude.{ℕ, Bool, List, slice_index}
use Rattle.trees.specs.Boxes.{is_on_grid}

-- the box of depth t whose corner is the list l is on the grid
abbrev pub gridded : ℕ → List ℕ → Bool
gridded t l = is_on_grid (record { depth = t; corner = λ b. slice_index l b })
