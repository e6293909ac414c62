-- The number that a word of digits writes, digit by digit. Assumes nothing.
use Rattle.std.proofs.Common.{◌≡◌, ℕ, ◌+◌, ◌-◌, ◌*◌, ◌<◌, ◌≤◌, true, false, ◌&&◌, List, [], ◌∷◌, length, get_or, drop, Some, None, sym, ap, ◌∙◌, ⊎_elim, arith}
use Rattle.std.proofs.lemmas.Bool.{and_left, cases_Bool}
use Rattle.std.proofs.lemmas.Bool.Decides.{nat_tests}
use Rattle.std.proofs.lemmas.List.{drop_more, drop_all}
use Rattle.std.specs.Char.{is_ascii_digit}
use Rattle.std.specs.List.{list_all}
use Rattle.script.specs.Numbers.{decimal, is_number, number_of}
use Rattle.script.specs.Steps.{Lengthens}

number_is : (w : List ℕ) → list_all is_ascii_digit w ≡ true → 0 < length w → length w ≤ 5 → decimal 0 w < 65536 → Some (decimal 0 w) ≡ number_of w
unfolding number_of is_number
number_is w digits some few low = grind (arith, nat_tests)

pub number_out : (w : List ℕ) → ((1 ≤ length w) × (length w ≤ 5) → ⊥) → None ≡ number_of w
unfolding number_of is_number
number_out w out = grind (arith, nat_tests)

number_other : (w : List ℕ) → list_all is_ascii_digit w ≡ false → None ≡ number_of w
unfolding number_of is_number
number_other w other = grind (arith, nat_tests)

number_large : (w : List ℕ) → 65535 < decimal 0 w → None ≡ number_of w
unfolding number_of is_number
number_large w large = grind (arith, nat_tests)

decimal_grows : (v : ℕ) (w : List ℕ) → v ≤ decimal v w
decimal_grows v [] = omega arith
decimal_grows v (b ∷ bs) = let later = decimal_grows (10 * v + (b - 48)) bs in omega arith

-- After i bytes: the word writes what v with the bytes behind them writes, and is all digits just where those are.
abbrev pub ReadSoFar : List ℕ → ℕ → ℕ → Type 0
ReadSoFar w i v = (decimal 0 w ≡ decimal v (drop i w)) × (list_all is_ascii_digit w ≡ list_all is_ascii_digit (drop i w))

module _ (w : List ℕ) (i v : ℕ) (so_far : ReadSoFar w i v) where
  module _ (within : i < length w) where
    more : decimal 0 w ≡ decimal (10 * v + (get_or w i 0 - 48)) (drop (i + 1) w)
    more = so_far.0 ∙ ap (decimal v) (drop_more w i 0 within)

    tests : list_all is_ascii_digit w ≡ (is_ascii_digit (get_or w i 0) && list_all is_ascii_digit (drop (i + 1) w))
    tests = so_far.1 ∙ ap (list_all is_ascii_digit) (drop_more w i 0 within)

    pub read_more : (n : ℕ) → Lengthens v (get_or w i 0) (Some n) → ReadSoFar w (i + 1) n
    read_more n (digit, is) =
        (more ∙ ap (λ k. decimal k (drop (i + 1) w)) (sym is), tests ∙ ap (λ t. t && list_all is_ascii_digit (drop (i + 1) w)) digit)

    pub read_stops : Lengthens v (get_or w i 0) None → None ≡ number_of w
    read_stops large =
        ⊎_elim
        (λ digit. let grows = decimal_grows (10 * v + (get_or w i 0 - 48)) (drop (i + 1) w) in let over = large digit in number_large w (omega (arith, more)))
        (λ other. number_other w (tests ∙ and_left _ _ other))
        (cases_Bool (is_ascii_digit (get_or w i 0)))

  pub read_whole : length w ≤ i → 0 < length w → length w ≤ 5 → v < 65536 → Some v ≡ number_of w
  read_whole all some few low =
      let value : decimal 0 w ≡ v = so_far.0 ∙ ap (decimal v) (drop_all i w all) in
      let digits : list_all is_ascii_digit w ≡ true = so_far.1 ∙ ap (list_all is_ascii_digit) (drop_all i w all) in
      ap Some (sym value) ∙ number_is w digits some few (omega (arith, value))
