-- The samples of a file admitted one after the other: each is taken, and fills the slot of its record. Assumes nothing.
use Rattle.std.proofs.Common.{◌≡◌, ℕ, suc, ◌+◌, ◌<◌, true, false, cond, List, set, Some, Err, Ok, sym, ap, ◌∙◌, add-one, arith}
use Rattle.std.proofs.lemmas.Bool.{and_from, lt-ltb}
use Rattle.samples.specs.Slots.{Table, held, legal, admit_rule}
use Rattle.samples.specs.declared.refusal.Refusal.TheVariants.{SlotFull, OutOfRange}
use Rattle.records.specs.Checks.{in_range, bad_sample}
use Rattle.records.specs.Parts.{slot_in, fibre_in, values_in, point_in}
use Rattle.records.specs.Readings.{sample_total, sample_part, table_upto}
use Rattle.records.proofs.Kept.{rises_from_checks}
use Rattle.records.proofs.Slotted.{upto_empty, upto_more}

good_range : (bs : List ℕ) (i : ℕ) → bad_sample bs i ≡ false → in_range (sample_part bs i) ≡ true
unfolding bad_sample
good_range bs i h = grind arith

module _ (bs : List ℕ) (good : (i : ℕ) → i < sample_total bs → bad_sample bs i ≡ false) where
  -- record n is taken
  pub admits : (n s f : ℕ) (vs : List ℕ) → n < sample_total bs → s < 256 → s ≡ slot_in (sample_part bs n) → f ≡ fibre_in (sample_part bs n) → vs ≡ values_in (sample_part bs n)
      → admit_rule (table_upto bs n) s f vs ≡ (table_upto bs (n + 1), Ok tt)
  unfolding in_range
  admits n s f vs l k a b c =
      (λ i. admit_rule (table_upto bs n) (a i) (b i) (c i))
      ∙ (λ i. cond (legal' i) (cond (empty i) (table_upto bs n, Err SlotFull) (filled, Ok tt)) (table_upto bs n, Err OutOfRange))
      ∙ (λ i. (more i, Ok tt))
    where
      slot' : slot_in (sample_part bs n) < 256
      slot' = omega (arith, a)

      legal' : legal (slot_in (sample_part bs n)) (fibre_in (sample_part bs n)) (values_in (sample_part bs n)) ≡ true
      legal' = and_from _ _ (lt-ltb _ _ slot') (good_range bs n (good n l))

      empty : held (table_upto bs n) (slot_in (sample_part bs n)) ≡ false
      empty = upto_empty bs n (rises_from_checks bs (suc n) (λ i k. good i (omega arith))) slot'

      filled : Table
      filled = set (table_upto bs n) (slot_in (sample_part bs n)) (Some (point_in (sample_part bs n)))

      more : set (table_upto bs n) (slot_in (sample_part bs n)) (Some (point_in (sample_part bs n))) ≡ table_upto bs (n + 1)
      more = sym (ap (table_upto bs) (add-one n) ∙ upto_more bs n (rises_from_checks bs (suc n) (λ i k. good i (omega arith))) slot')
