-- The slots as sample records fill them, one after the other. Assumes nothing.
use Rattle.std.proofs.Common.{◌≡◌, ℕ, zero, suc, ◌+◌, ◌<◌, ◌≤◌, Bool, true, false, cond, List, length, set, replicate, is_some, Some, None, Option, eqb, ltb, sym, refl, ap, ◌∙◌, ⊎_elim, arith, length-set, get_or-set_same, get_or-set_other}
use Rattle.std.specs.Option.{option_map, option_or}
use Rattle.std.proofs.lemmas.Bool.{cases_eq, ne_eqb, eq-eqb, eqb-true}
use Rattle.std.proofs.lemmas.Bool.Decides.{nat_tests}
use Rattle.std.proofs.lemmas.List.{ext_get_or, get_or-replicate, length-replicate}
use Rattle.std.proofs.lemmas.List.FromFn.{length-map-range_with_len, get_or-map-range_with_len}
use Rattle.ranking.specs.Counts.{bit, count}
use Rattle.ranking.specs.Lowest.{lowest}
use Rattle.ranking.proofs.Counted.{count_split, count_ext, count_none}
use Rattle.ranking.proofs.Found.{is_lowest, none_lowest, lowest_some}
use Rattle.samples.specs.Slots.{Point, at, held}
use Rattle.samples.specs.Verdict.{samples}
use Rattle.samples.proofs.Tabled.{is_some_mapped}
use Rattle.records.specs.Parts.{slot_in, point_in}
use Rattle.records.specs.Readings.{sample_part, record_of, table_upto}

pub lowest_zero : (p : ℕ → Bool) → lowest p 0 ≡ None
unfolding lowest
lowest_zero p = refl

lowest_suc : (p : ℕ → Bool) (n : ℕ) → lowest p (suc n) ≡ option_or (lowest p n) (cond (p n) (Some n) None)
unfolding lowest
lowest_suc p n = refl

count_eq : (z k : ℕ) → count (λ s. eqb s z) k ≡ bit (ltb z k)
unfolding count
count_eq z zero = grind (arith, nat_tests)
count_eq z (suc k) = let i = count_eq z k in grind (arith, nat_tests)

count_first : (i n : ℕ) → (i ≤ n → count (λ j. ltb j i) n ≡ i) × (n ≤ i → count (λ j. ltb j i) n ≡ n)
unfolding count
count_first i zero = (λ l. omega arith, λ l. refl)
count_first i (suc n) = let r = count_first i n in (λ l. grind (arith, nat_tests), λ l. grind (arith, nat_tests))

module _ (bs : List ℕ) where
  abbrev slot : ℕ → ℕ
  slot i = slot_in (sample_part bs i)

  pub length_upto : (n : ℕ) → length (table_upto bs n) ≡ 256
  unfolding table_upto
  length_upto n = length-map-range_with_len (λ s. option_map (λ i. point_in (sample_part bs i)) (record_of bs n s)) 0 256

  pub upto_at : (n s : ℕ) → s < 256 → at (table_upto bs n) s ≡ option_map (λ i. point_in (sample_part bs i)) (record_of bs n s)
  unfolding table_upto
  upto_at n s l = get_or-map-range_with_len (λ s. option_map (λ i. point_in (sample_part bs i)) (record_of bs n s)) 0 256 s s None l (omega arith)

  pub held_upto : (n s : ℕ) → s < 256 → held (table_upto bs n) s ≡ is_some (record_of bs n s)
  held_upto n s l = ap is_some (upto_at n s l) ∙ is_some_mapped (λ i. point_in (sample_part bs i)) (record_of bs n s)

  -- slots rise as far as record n
  abbrev pub Rises : ℕ → Type 0
  Rises n = (i j : ℕ) → i < j → j < n → slot i < slot j

  -- the record of slot i among the first n
  pub record_of_slot : (n i : ℕ) → Rises n → i < n → record_of bs n (slot i) ≡ Some i
  record_of_slot n i r l =
      sym (is_lowest (λ j. eqb (slot j) (slot i)) n (Some i) (l, eq-eqb _ _ refl, λ j k. ne_eqb _ _ (λ e. absurd (omega (arith, r j i k l)))))

  pub not_yet : (n : ℕ) → Rises (suc n) → record_of bs n (slot n) ≡ None
  not_yet n r = none_lowest (λ j. eqb (slot j) (slot n)) n (λ j k. ne_eqb _ _ (λ e. absurd (omega (arith, r j n k (omega arith)))))

  pub upto_empty : (n : ℕ) → Rises (suc n) → slot n < 256 → held (table_upto bs n) (slot n) ≡ false
  upto_empty n r l = ap is_some (upto_at n (slot n) l ∙ ap (option_map (λ i. point_in (sample_part bs i))) (not_yet n r))

  pub upto_none : table_upto bs 0 ≡ replicate 256 None
  upto_none =
      ext_get_or None (table_upto bs 0) (replicate 256 None) (length_upto 0 ∙ sym (length-replicate {A = Option Point} 256 None))
      (λ s l.
      let k : s < 256 = omega (arith, length_upto 0) in
      upto_at 0 s k ∙ ap (option_map (λ i. point_in (sample_part bs i))) (lowest_zero (λ i. eqb (slot i) s)) ∙ sym (get_or-replicate 256 s None None k))

  -- one record more fills its slot
  pub upto_more : (n : ℕ) → Rises (suc n) → slot n < 256 → table_upto bs (suc n) ≡ set (table_upto bs n) (slot n) (Some (point_in (sample_part bs n)))
  upto_more n r l =
      ext_get_or None (table_upto bs (suc n)) (set (table_upto bs n) (slot n) (Some (point_in (sample_part bs n))))
      (length_upto (suc n) ∙ sym (length-set (table_upto bs n) (slot n) (Some (point_in (sample_part bs n))) ∙ length_upto n))
      (λ s k. let m : s < 256 = omega (arith, length_upto (suc n)) in
      ⊎_elim (λ (e : s ≡ slot n). same s m e) (λ ne. other s m ne) (cases_eq s (slot n)))
    where
      same : (s : ℕ) → s < 256 → s ≡ slot n → at (table_upto bs (suc n)) s ≡ at (set (table_upto bs n) (slot n) (Some (point_in (sample_part bs n)))) s
      same s m e =
          let long = length_upto n in
          rw e
          (upto_at (suc n) (slot n) l ∙ ap (option_map (λ i. point_in (sample_part bs i))) (record_of_slot (suc n) n r (omega arith))
          ∙ sym (get_or-set_same (table_upto bs n) (slot n) (Some (point_in (sample_part bs n))) None (omega arith)))

      other : (s : ℕ) → s < 256 → (s ≡ slot n → ⊥) → at (table_upto bs (suc n)) s ≡ at (set (table_upto bs n) (slot n) (Some (point_in (sample_part bs n)))) s
      other s m ne =
          let no : eqb (slot n) s ≡ false = ne_eqb _ _ (λ e. ne (sym e)) in
          let skip : record_of bs (suc n) s ≡ record_of bs n s =
          lowest_suc (λ i. eqb (slot i) s) n ∙ ap (λ b. option_or (record_of bs n s) (cond b (Some n) None)) no ∙ or_none (record_of bs n s) in
          upto_at (suc n) s m ∙ ap (option_map (λ i. point_in (sample_part bs i))) skip ∙ sym (upto_at n s m)
          ∙ sym (get_or-set_other (table_upto bs n) (slot n) s (Some (point_in (sample_part bs n))) None ne)
        where
          or_none : (o : Option ℕ) → option_or o None ≡ o
          or_none None = refl
          or_none (Some i) = refl

  -- the slots below k that the first n records fill are as many as the records with such slots
  filled_below : (n k : ℕ) → Rises n → count (λ s. is_some (record_of bs n s)) k ≡ count (λ i. ltb (slot i) k) n
  unfolding count
  filled_below zero k r = count_none (λ s. is_some (record_of bs zero s)) k (λ s _. ap is_some (lowest_zero (λ i. eqb (slot i) s)))
  filled_below (suc n) k r =
      let rest = filled_below n k (λ i j a b. r i j a (omega arith)) in
      let one = count_eq (slot n) k in
      let both = count_split (λ s. is_some (record_of bs (suc n) s)) (λ s. is_some (record_of bs n s)) (λ s. eqb s (slot n)) k (λ s _. apart s) in
      omega arith
    where
      apart : (s : ℕ) → bit (is_some (record_of bs (suc n) s)) ≡ bit (is_some (record_of bs n s)) + bit (eqb s (slot n))
      apart s = ap (λ o. bit (is_some o)) (lowest_suc (λ i. eqb (slot i) s) n) ∙ go (record_of bs n s) refl
        where
          go : (o : Option ℕ) → record_of bs n s ≡ o → bit (is_some (option_or o (cond (eqb (slot n) s) (Some n) None))) ≡ bit (is_some o) + bit (eqb s (slot n))
          go None e = last (eqb (slot n) s) refl
            where
              last : (b : Bool) → eqb (slot n) s ≡ b → bit (is_some (cond b (Some n) None)) ≡ 0 + bit (eqb s (slot n))
              last true f = grind (arith, nat_tests)
              last false f = grind (arith, nat_tests)
          go (Some i) e =
              let found = lowest_some (λ i. eqb (slot i) s) n i e in
              let is = eqb-true _ _ found.1 in
              let up = r i n found.0 (omega arith) in
              let no : eqb s (slot n) ≡ false = ne_eqb _ _ (λ f. absurd (omega arith)) in
              omega (arith, ap bit no)

  -- below the slot of record i there are i
  pub numbered : (n i : ℕ) → Rises n → i < n → count (λ s. is_some (record_of bs n s)) (slot i) ≡ i
  numbered n i r l =
      filled_below n (slot i) r
      ∙ count_ext (λ j. ltb (slot j) (slot i)) (λ j. ltb j i) n (λ j k. order j k)
      ∙ (count_first i n).0 (omega arith)
    where
      order : (j : ℕ) → j < n → ltb (slot j) (slot i) ≡ ltb j i
      order j k =
          let up = r j i in
          let down = r i j in
          let e : j ≡ i → slot j ≡ slot i = λ f. ap slot f in
          grind (arith, nat_tests)

  pub samples_upto : (n : ℕ) → Rises n → ((i : ℕ) → i < n → slot i < 256) → samples (table_upto bs n) ≡ n
  samples_upto n r l =
      count_ext (held (table_upto bs n)) (λ s. is_some (record_of bs n s)) 256 (λ s k. held_upto n s k)
      ∙ filled_below n 256 r
      ∙ count_ext (λ i. ltb (slot i) 256) (λ i. ltb i n) n (λ i k. let a = l i k in grind (arith, nat_tests))
      ∙ (count_first n n).0 (omega arith)
