-- What `position` finds in a list. Assumes nothing.
use Rattle.std.proofs.Common.{◌≡◌, ℕ, ◌<◌, ◌≤◌, Bool, true, false, cond, ltb, List, length, get_or, Option, Some, None, sym, refl, subst, arith}
use Rattle.std.specs.List.{All, position_or_len}
use Rattle.std.proofs.lemmas.Bool.Decides.{nat_tests}
use Rattle.std.proofs.lemmas.List.Sums.{fails_before_first, passes_at_first}

-- the place of an item that passes, or none does
abbrev pub Found : {X : Type 0} → (X → Bool) → List X → Option ℕ → Type 0
Found {X} q xs None = All (λ x. q x ≡ false) xs
Found {X} q xs (Some i) = (i < length xs) × ((d : X) → q (get_or xs i d) ≡ true)

pub found : {X : Type 0} (q : X → Bool) (xs : List X) (r : Option ℕ) → r ≡ cond (ltb (position_or_len q xs) (length xs)) (Some (position_or_len q xs)) None → Found q xs r
found {X} q xs r e = subst (Found q xs) (sym e) (go (ltb (position_or_len q xs) (length xs)) refl)
  where
    go : (b : Bool) → ltb (position_or_len q xs) (length xs) ≡ b → Found q xs (cond b (Some (position_or_len q xs)) None)
    go true h = let l : position_or_len q xs < length xs = grind (arith, nat_tests) in (l, λ d. passes_at_first q xs d l)
    go false h = let l : length xs ≤ position_or_len q xs = grind (arith, nat_tests) in λ k d m. fails_before_first q xs k d (omega arith)
