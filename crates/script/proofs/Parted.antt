-- Where the first line feed of a text parts it, and the first space of a line. Assumes nothing.
use Rattle.std.proofs.Common.{◌≡◌, ℕ, suc, ◌+◌, ◌<◌, Bool, true, false, cond, eqb, ltb, List, [], ◌∷◌, length, take, drop, length-drop, not, None, Some, Option, sym, refl, ap, ◌∙◌, ⊎_elim, arith}
use Rattle.std.proofs.lemmas.List.{drop_all, drop-drop, take_all, take_rest}
use Rattle.std.proofs.lemmas.List.Splits.{slice_split_first, slice_split_none, slice_split-cons_yes, slice_split-cons_no}
use Rattle.std.proofs.lemmas.List.Elements.{All-from_get_or}
use Rattle.std.proofs.lemmas.Bool.{ltb-false}
use Rattle.std.proofs.lemmas.Bool.Decides.{nat_tests}
use Rattle.std.proofs.lemmas.List.Sums.{fails_before_first, prefix_len-le-length}
use Rattle.std.specs.Borrow.{Bor}
use Rattle.std.specs.Option.{unwrap_or}
use Rattle.std.specs.Slice.{IsGetRangeResult}
use Rattle.std.specs.List.{onto_first, position_or_len, before_first, after_first}
use Rattle.script.specs.Lines.{lines, words_of}
use Rattle.script.specs.Steps.{parts_of}

abbrev pub ends : ℕ → Bool
ends b = eqb b 10

abbrev pub spaces : ℕ → Bool
spaces b = eqb b 32

lines_parted_cons : (b : ℕ) (bs : List ℕ) → lines bs ≡ before_first ends bs ∷ lines (after_first ends bs) → lines (b ∷ bs) ≡ before_first ends (b ∷ bs) ∷ lines (after_first ends (b ∷ bs))
lines_parted_cons b bs e =
    let n = position_or_len ends bs in
    let one : suc n ≡ 1 + n = omega arith in
    let two : suc (n + 1) ≡ 1 + n + 1 = omega arith in
    elim (eqb b 10) as (λ t. cond t ([] ∷ lines bs) (onto_first b (lines bs)) ≡ take (cond (not t) (1 + n) 0) (b ∷ bs) ∷ lines (drop (cond (not t) (1 + n) 0 + 1) (b ∷ bs))) [
      | true ↦ refl
      | false ↦
          let first : onto_first b (lines bs) ≡ take (suc n) (b ∷ bs) ∷ lines (drop (suc (n + 1)) (b ∷ bs)) = ap (onto_first b) e in
          cc
    ]

lines_parted : (b : ℕ) (bs : List ℕ) → lines (b ∷ bs) ≡ before_first ends (b ∷ bs) ∷ lines (after_first ends (b ∷ bs))
lines_parted b [] =
    elim (eqb b 10) as (λ t. cond t ([] ∷ []) (onto_first b []) ≡ take (cond (not t) 1 0) (b ∷ []) ∷ lines (drop (cond (not t) 1 0 + 1) (b ∷ []))) [ true ↦ refl | false ↦ refl ]
lines_parted b (c ∷ bs) = lines_parted_cons b (c ∷ bs) (lines_parted c bs)

lines_first : (text : List ℕ) → 0 < length text → lines text ≡ before_first ends text ∷ lines (after_first ends text)
lines_first [] h = absurd (omega arith)
lines_first (b ∷ bs) h = lines_parted b bs

after_shorter : (text : List ℕ) → 0 < length text → length (after_first ends text) < length text
after_shorter text h = let left = length-drop (position_or_len ends text + 1) text in omega arith

-- What stands behind the first byte of a text, which may have none.
pub behind_first : (text : List ℕ) (r : Option (Bor (List ℕ))) (none : Bor (List ℕ)) → IsGetRangeResult text 1 (length text) r → none.now ≡ [] → (unwrap_or r none).now ≡ drop 1 text
behind_first text None none h e = e ∙ sym (drop_all 1 text (⊎_elim (λ few. omega arith) (λ less. omega arith) h.0))
behind_first text (Some rest) none h e = let whole = take_rest text 1 in cc

module _ (p : ℕ → Bool) where
  pub found_or_len : (text : List ℕ) (r : Option ℕ) → r ≡ cond (ltb (position_or_len p text) (length text)) (Some (position_or_len p text)) None → unwrap_or r (length text) ≡ position_or_len p text
  found_or_len text r e = ap (λ o. unwrap_or o (length text)) e ∙ go (ltb (position_or_len p text) (length text)) refl
    where
      go : (t : Bool) → ltb (position_or_len p text) (length text) ≡ t → unwrap_or (cond t (Some (position_or_len p text)) None) (length text) ≡ position_or_len p text
      go true h = refl
      go false h = let most = ltb-false (position_or_len p text) (length text) h in let least = prefix_len-le-length (λ b. not (p b)) text in omega arith

-- The first line of a text, and the text behind its line feed.
pub line_taken : (text line behind rest : List ℕ) (n : ℕ) → 0 < length text → n ≡ position_or_len ends text → line ≡ take n text → behind ≡ drop n text → rest ≡ drop 1 behind → (lines text ≡ line ∷ lines rest) × (length rest < length text)
line_taken text line behind rest n some here front back more =
    let front_is : before_first ends text ≡ line = sym (front ∙ ap (λ m. take m text) here) in
    let rest_is : rest ≡ after_first ends text = more ∙ ap (drop 1) back ∙ drop-drop 1 n text ∙ ap (λ m. drop (m + 1) text) here in (
      lines_first text some ∙ ap (λ l. l ∷ lines (after_first ends text)) front_is ∙ ap (λ r. line ∷ lines r) (sym rest_is),
      omega (arith, ap length rest_is, after_shorter text some),
    )

-- The first word of a part of a line, and the part behind its space, if there is a space.
pub word_taken : (rest word behind : List ℕ) (r : Option (Bor (List ℕ))) (n : ℕ) → n ≡ position_or_len spaces rest → word ≡ take n rest → behind ≡ drop n rest → IsGetRangeResult behind 1 (length behind) r → words_of rest ≡ word ∷ parts_of r
word_taken rest word behind None n here front back h =
    let last : length behind < 1 = ⊎_elim (λ few. omega arith) (λ less. omega arith) h.0 in
    let all : n ≡ length rest = omega (arith, length-drop n rest, ap length back, prefix_len-le-length (λ b. not (spaces b)) rest) in
    let whole : word ≡ rest = front ∙ take_all n rest (omega arith) in
    slice_split_none spaces rest (All-from_get_or (λ b. spaces b ≡ false) rest 0 (λ k l. fails_before_first spaces rest k 0 (omega (arith, here, all)))) ∙ ap (λ w. w ∷ []) (sym whole)
word_taken rest word behind (Some more) n here front back h =
    let some : position_or_len spaces rest < length rest = omega (arith, length-drop n rest, ap length back) in
    let whole = take_rest behind 1 in
    let after : more.now ≡ after_first spaces rest = h.0.2 ∙ whole ∙ ap (drop 1) back ∙ drop-drop 1 n rest ∙ ap (λ m. drop (m + 1) rest) here in
    let first : word ≡ before_first spaces rest = front ∙ ap (λ m. take m rest) here in
    slice_split_first spaces rest 0 some ∙ ap (λ w. w ∷ words_of (after_first spaces rest)) (sym first) ∙ ap (λ l. word ∷ words_of l) (sym after)

-- The words of a line by its first bytes: a space, a letter before what stands behind it, a letter that is joined to another.
pub spaced : (b : ℕ) (bs line : List ℕ) → line ≡ b ∷ bs → b ≡ 32 → words_of line ≡ [] ∷ words_of bs
spaced b bs line at e = ap words_of at ∙ slice_split-cons_yes spaces b bs (grind (arith, nat_tests))

longer : (c b : ℕ) (ws : List (List ℕ)) → (w : List ℕ) × (vs : List (List ℕ)) × (onto_first c (onto_first b ws) ≡ w ∷ vs) × (1 < length w)
longer c b [] = (c ∷ b ∷ [], [], refl, omega arith)
longer c b (w ∷ ws) = (c ∷ b ∷ w, ws, refl, omega arith)

pub joined : (c b : ℕ) (bs line : List ℕ) → line ≡ b ∷ bs → eqb c 32 ≡ false → eqb b 32 ≡ false → (w : List ℕ) × (vs : List (List ℕ)) × (words_of (c ∷ line) ≡ w ∷ vs) × (1 < length w)
joined c b bs line at e f =
    let l = longer c b (words_of bs) in
    (l.0, l.1, ap (λ r. words_of (c ∷ r)) at ∙ slice_split-cons_no spaces c (b ∷ bs) e ∙ ap (onto_first c) (slice_split-cons_no spaces b bs f) ∙ l.2, l.3)
