-- The numbers that words write. Assumes nothing.
use Rattle.std.specs.Prelude.{ℕ, zero, suc, ◌+◌, ◌-◌, ◌*◌, Bool, cond, ◌&&◌, List, [], ◌∷◌, length, Some, None, Option, nat_le}
use Rattle.std.specs.Char.{is_ascii_digit}
use Rattle.std.specs.List.{list_all}

-- The digits of v and then those of the word, in base ten.
abbrev pub decimal : ℕ → List ℕ → ℕ
decimal v [] = v
decimal v (b ∷ bs) = decimal (10 * v + (b - 48)) bs

-- A number has one to five digits, and is at most 65535.
unfoldable pub is_number : List ℕ → Bool
is_number w = nat_le 1 (length w) && (nat_le (length w) 5 && (list_all is_ascii_digit w && nat_le (decimal 0 w) 65535))

unfoldable pub number_of : List ℕ → Option ℕ
number_of w = cond (is_number w) (Some (decimal 0 w)) None

-- A number in front of others, where it is one and so are they.
abbrev pub both : Option ℕ → Option (List ℕ) → Option (List ℕ)
both None vs = None
both (Some v) None = None
both (Some v) (Some vs) = Some (v ∷ vs)

-- The numbers of the words, if these are n, and each writes one.
abbrev pub numbers : ℕ → List (List ℕ) → Option (List ℕ)
numbers zero [] = Some []
numbers zero (w ∷ ws) = None
numbers (suc n) [] = None
numbers (suc n) (w ∷ ws) = both (number_of w) (numbers n ws)
