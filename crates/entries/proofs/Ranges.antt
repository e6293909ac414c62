-- Tests of the numbers below a bound, one after the other: whether all pass, and the last that does. Assumes nothing.
use Rattle.std.proofs.Common.{◌≡◌, ℕ, zero, suc, ◌+◌, Bool, true, false, cond, nat_lt, List, [], ◌∷◌, ◌++◌, length, Option, Some, None, refl, sym, ap, ◌∙◌, add-one, arith, length-append}
use Rattle.std.specs.List.{filter, last_or, list_all, range_with_len}
use Rattle.std.specs.Iterator.{Drains}
use Rattle.std.proofs.iter.Yields.{gives_Drains}
use Rattle.std.proofs.lemmas.Iterator.{YieldsList}
use Rattle.std.proofs.lemmas.Bool.Decides.{nat_tests}
use Rattle.std.proofs.lemmas.List.{map-id}
use Rattle.std.proofs.lemmas.List.Elements.{filter-append}
use Rattle.std.proofs.lemmas.List.Folds.{list_all-append}
use Rattle.std.proofs.lemmas.List.FromFn.{map-range_with_len_more}
use Rattle.ranking.specs.Counts.{bit, count}
use Rattle.trees.specs.Boxes.{every}
use Rattle.walks.specs.Views.{pick}

-- one number more, at the end
range_more : (n : ℕ) → range_with_len 0 (suc n) ≡ range_with_len 0 n ++ n ∷ []
range_more n =
    ap (range_with_len 0) (sym (add-one n)) ∙ sym (map-id (range_with_len 0 (n + 1))) ∙ map-range_with_len_more (λ x. x) 0 n n (omega arith) ∙ ap (λ xs. xs ++ n ∷ []) (map-id (range_with_len 0 n))

pub all_below : (q : ℕ → Bool) (n : ℕ) → list_all q (range_with_len 0 n) ≡ every q n
all_below q zero = refl
all_below q (suc n) =
    let a = ap (list_all q) (range_more n) in
    let b = list_all-append q (range_with_len 0 n) (n ∷ []) in
    let i = all_below q n in
    grind arith

last_added : (q : ℕ → Bool) (n : ℕ) (o : Option ℕ) (xs : List ℕ) → last_or o (filter q (xs ++ n ∷ [])) ≡ cond (q n) (Some n) (last_or o (filter q xs))
last_added q n o xs = ap (last_or o) (filter-append q xs (n ∷ [])) ∙ go (q n) o (filter q xs)
  where
    go : (b : Bool) (r : Option ℕ) (ys : List ℕ) → last_or r (ys ++ cond b (n ∷ []) []) ≡ cond b (Some n) (last_or r ys)
    go true r [] = refl
    go false r [] = refl
    go b r (y ∷ ys) = go b (Some y) ys

pub last_below : (q : ℕ → Bool) (n : ℕ) → last_or None (filter q (range_with_len 0 n)) ≡ cond (nat_lt 0 (count q n)) (Some (pick q n)) None
unfolding pick count
last_below q zero = refl
last_below q (suc n) = ap (λ xs. last_or None (filter q xs)) (range_more n) ∙ last_added q n None (range_with_len 0 n) ∙ go (last_below q n) (q n) refl
  where
    go : last_or None (filter q (range_with_len 0 n)) ≡ cond (nat_lt 0 (count q n)) (Some (pick q n)) None → (b : Bool) → q n ≡ b → cond (q n) (Some n) (last_or None (filter q (range_with_len 0 n))) ≡ cond (nat_lt 0 (count q (suc n))) (Some (pick q (suc n))) None
    go i true e = grind (arith, nat_tests)
    go i false e = grind (arith, nat_tests)

-- `last` after an iterator of numbers
pub last_from_yields : {S : Type 0} {steps : S → Option ℕ → S → Type 0} {all : List ℕ} (s : S) (r : Option ℕ) → ((xs : List ℕ) × Drains steps s xs × (r ≡ last_or None xs)) → YieldsList steps (λ x. x) s all → r ≡ last_or None all
last_from_yields {S} {steps} {all} s r ran e =
    ran.2 ∙ ap (last_or None) (sym (map-id ran.0) ∙ gives_Drains steps (λ x. x) ran.0 all s e.runs ran.1)

pub count_below : (q : ℕ → Bool) (n : ℕ) → length (filter q (range_with_len 0 n)) ≡ count q n
unfolding count
count_below q zero = refl
count_below q (suc n) =
    let split = filter-append q (range_with_len 0 n) (n ∷ []) in
    let long = length-append (filter q (range_with_len 0 n)) (filter q (n ∷ [])) in
    let i = count_below q n in
    ap (λ xs. length (filter q xs)) (range_more n) ∙ ap length split ∙ long ∙ go (q n) i
  where
    go : (b : Bool) → length (filter q (range_with_len 0 n)) ≡ count q n → length (filter q (range_with_len 0 n)) + length (cond b (n ∷ []) []) ≡ bit b + count q n
    go true i = omega arith
    go false i = omega arith
