-- The numbers of words, read one after another. Assumes nothing.
use Rattle.std.proofs.Common.{◌≡◌, ℕ, suc, ◌+◌, ◌-◌, ◌<◌, ◌≤◌, List, [], ◌∷◌, ◌++◌, length, take, set, Some, None, Option, sym, refl, ap, ◌∙◌, append_assoc, append-nil, length-set, arith}
use Rattle.std.proofs.lemmas.List.{take_more_set, take_all}
use Rattle.std.specs.Borrow.{Bor}
use Rattle.script.specs.Numbers.{both, number_of, numbers}
use Rattle.script.specs.Steps.{Gives, NextWord}
use Rattle.script.specs.declared.words.Words.{Words}
use Rattle.script.proofs.Spoken.{word_next, word_none}

-- Numbers in front of others, if there are others.
abbrev all_before : List ℕ → Option (List ℕ) → Option (List ℕ)
all_before vs None = None
all_before vs (Some us) = Some (vs ++ us)

-- The first i of the n numbers of ws are those of vs, and the words give what is behind them.
pub record Gathered (n : ℕ) (ws : List (List ℕ)) (i : ℕ) (vs : List ℕ) (words : Words) : Type 0 where
  pub left : List (List ℕ)
  pub gives : Gives words left
  pub long : length vs ≡ n
  pub so_far : numbers n ws ≡ all_before (take i vs) (numbers (n - i) left)

before_nil : (o : Option (List ℕ)) → o ≡ all_before [] o
before_nil None = refl
before_nil (Some vs) = refl

before_push : (vs : List ℕ) (v : ℕ) (o : Option (List ℕ)) → all_before vs (both (Some v) o) ≡ all_before (vs ++ v ∷ []) o
before_push vs v None = refl
before_push vs v (Some us) = ap Some (sym (append_assoc vs (v ∷ []) us))

pub gathered_begins : (n : ℕ) (ws : List (List ℕ)) (vs : List ℕ) (words : Words) → length vs ≡ n → Gives words ws → Gathered n ws 0 vs words
gathered_begins n ws vs words long g =
    let all : n ≡ n - 0 = omega arith in
    record { left = ws; gives = g; long = long; so_far = before_nil (numbers n ws) ∙ ap (λ m. all_before [] (numbers m ws)) all }

module _ (n i : ℕ) (ws : List (List ℕ)) (vs : List ℕ) (words after : Words) (r : Option (Bor (List ℕ))) (h : Gathered n ws i vs words) (turn : NextWord words r after) where
  pub gathered_steps : (word : Bor (List ℕ)) (v : ℕ) → i < n → r ≡ Some word → Some v ≡ number_of word.now → Gathered n ws (i + 1) (set vs i v) after
  gathered_steps word v less e one =
      let next = word_next words after r word h.left h.gives turn e in
      let m = n - (i + 1) in
      let count : n - i ≡ suc m = omega arith in
      record {
        left = next.0;
        gives = next.2;
        long = length-set vs i v ∙ h.long;
        so_far =
            h.so_far ∙ ap (λ k. all_before (take i vs) (numbers k h.left)) count ∙ ap (λ us. all_before (take i vs) (numbers (suc m) us)) next.1
            ∙ ap (λ o. all_before (take i vs) (both o (numbers m next.0))) (sym one) ∙ before_push (take i vs) v (numbers m next.0)
            ∙ ap (λ l. all_before l (numbers m next.0)) (sym (take_more_set vs i v (omega (arith, h.long))));
      }

  pub gathered_short : i < n → r ≡ None → None ≡ numbers n ws
  gathered_short less e =
      let none = word_none words after r h.left h.gives turn e in
      let count : n - i ≡ suc (n - (i + 1)) = omega arith in
      sym (h.so_far ∙ ap (λ k. all_before (take i vs) (numbers k h.left)) count ∙ ap (λ us. all_before (take i vs) (numbers (suc (n - (i + 1))) us)) none)

  pub gathered_refuses : (word : Bor (List ℕ)) → i < n → r ≡ Some word → None ≡ number_of word.now → None ≡ numbers n ws
  gathered_refuses word less e no_number =
      let next = word_next words after r word h.left h.gives turn e in
      let m = n - (i + 1) in
      let count : n - i ≡ suc m = omega arith in
      sym
      (h.so_far ∙ ap (λ k. all_before (take i vs) (numbers k h.left)) count ∙ ap (λ us. all_before (take i vs) (numbers (suc m) us)) next.1
      ∙ ap (λ o. all_before (take i vs) (both o (numbers m next.0))) (sym no_number))

  pub gathered_ends : n ≤ i → r ≡ None → Some vs ≡ numbers n ws
  gathered_ends most e =
      let none = word_none words after r h.left h.gives turn e in
      let count : n - i ≡ 0 = omega arith in
      sym
      (h.so_far ∙ ap (λ k. all_before (take i vs) (numbers k h.left)) count ∙ ap (λ us. all_before (take i vs) (numbers 0 us)) none
      ∙ ap Some (append-nil (take i vs) ∙ take_all i vs (omega (arith, h.long))))

  pub gathered_long : (word : Bor (List ℕ)) → n ≤ i → r ≡ Some word → None ≡ numbers n ws
  gathered_long word most e =
      let next = word_next words after r word h.left h.gives turn e in
      let count : n - i ≡ 0 = omega arith in
      sym (h.so_far ∙ ap (λ k. all_before (take i vs) (numbers k h.left)) count ∙ ap (λ us. all_before (take i vs) (numbers 0 us)) next.1)
