use Rattle.std.proofs.Common.{◌≡◌, ℕ, ◌+◌, ◌-◌, ◌≤◌, true, false, cond, List, [], ◌∷◌, length, drop, slice_index, Some, None, nat_eq, refl, ap, ◌∙◌, arith, length-drop}
use Rattle.std.proofs.lemmas.Bool.Decides.{nat_tests}
use Rattle.std.proofs.lemmas.Grind.{common_steps}
use Rattle.std.proofs.lemmas.List.{get_or-drop}
use Rattle.std.specs.Bool.{then_some}
use Rattle.std.specs.List.{ends_with}
use Rattle.std.specs.Option.{option_map}
use Rattle.records.specs.Checks.{marked}
use Rattle.records.specs.Readings.{end}
use Rattle.fieldfile.proofs.outline.trailer_of.Goals as goal

last_two : (xs : List ℕ) (n : ℕ) → length xs ≡ n + 2 → drop n xs ≡ slice_index xs n ∷ slice_index xs (n + 1) ∷ []
last_two xs n h = grind (arith, common_steps)

ends_marked : (bs : List ℕ) → 14 ≤ length bs → ends_with nat_eq (drop (end bs) bs) (0x46 ∷ 0x36 ∷ []) ≡ marked bs
unfolding marked
ends_marked bs h =
    let t : List ℕ = drop (end bs) bs in
    let long : length t ≡ 14 = length-drop (end bs) bs ∙ omega arith in
    let tail : drop (length t - 2) t ≡ slice_index t 12 ∷ slice_index t 13 ∷ [] = (λ i. drop (long i - 2) t) ∙ last_two t 12 long in
    let a : slice_index t 12 ≡ slice_index bs (end bs + 12) = get_or-drop (end bs) bs 12 0 in
    let b : slice_index t 13 ≡ slice_index bs (end bs + 13) = get_or-drop (end bs) bs 13 0 in
    rw tail (grind (arith, nat_tests))

pub returns-in_err-trailer : goal.returns-in_err-trailer
unfolding marked
returns-in_err-trailer c =
    let short = c.in_err-trailer.ensures.cases in
    let no : marked c.args.file.now ≡ false = grind (arith, nat_tests) in
    rw c.from_residual.ensures (rw no refl)

pub returns : goal.returns
returns c =
    let bs = c.args.file.now in
    let t = c.in_ok-trailer.trailer in
    let chunk = c.in_ok-trailer.ensures.cases in
    let same : t.now ≡ drop (end bs) bs = chunk.1.same in
    let test : c.ends_with.result ≡ marked bs =
    c.ends_with.ensures.value ∙ ap (λ xs. ends_with nat_eq xs (0x46 ∷ 0x36 ∷ [])) same ∙ ends_marked bs chunk.0 in
    rw c.then_some.ensures
    (rw test
    (elim (marked bs) as (λ b. option_map (λ x. x.now) (then_some b t) ≡ cond b (Some (drop (end bs) bs)) None) [ true ↦ ap Some same | false ↦ refl ]))
