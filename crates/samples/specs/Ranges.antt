-- The ranges of what a sample and a question hold. Assumes nothing.
--   below n vs   every value of the list is less than n
use Rattle.std.specs.Prelude.{ℕ, Bool, true, ◌&&◌, List, [], ◌∷◌, nat_lt}

abbrev pub below : ℕ → List ℕ → Bool
below n [] = true
below n (v ∷ vs) = nat_lt v n && below n vs
