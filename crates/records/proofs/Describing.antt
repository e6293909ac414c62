-- A written file describes what was written. Assumes nothing.
use Rattle.std.proofs.Common.{◌≡◌, ℕ, ◌<◌, true, false, List, [], is_some, unwrap_or, Some, None, Option, eqb, sym, refl, ap, ◌∙◌, ⊎_elim, arith}
use Rattle.std.specs.Option.{option_map}
use Rattle.std.proofs.lemmas.Bool.{ne_eqb, eq-eqb, both_ways, true≢false, cases_Bool}
use Rattle.ranking.specs.Counts.{count}
use Rattle.ranking.proofs.Found.{is_lowest, none_lowest}
use Rattle.boxes.specs.Views.{entries}
use Rattle.samples.specs.Slots.{Point, Table, at, held}
use Rattle.samples.proofs.Tabled.{held_some, fibre_some, values_some}
use Rattle.trees.specs.Trees.{Node}
use Rattle.records.specs.Described.{SameSamples, Describes}
use Rattle.records.specs.Format.{file}
use Rattle.records.specs.Parts.{slot_in, point_in}
use Rattle.records.specs.Readings.{sample_total, sample_part, table_in}
use Rattle.records.proofs.Filed.{total_filed, nodes_filed}
use Rattle.records.proofs.Filing.{same_tree, same_counts, slot_of, slot_filed, fibre_filed, value_filed}
use Rattle.records.proofs.Lengths.{count_before}
use Rattle.records.proofs.Slotted.{upto_at}

none_at : (t : Table) (s : ℕ) → held t s ≡ false → at t s ≡ None
none_at t s h = go (at t s) h
  where
    go : (o : Option Point) → is_some o ≡ false → o ≡ None
    go None e = refl
    go (Some x) e = absurd (true≢false e)

module _ (t : Table) (m : ℕ) (node : ℕ → Node) (counts : ℕ → ℕ → ℕ) where
  abbrev bytes : List ℕ
  bytes = file t m node counts

  full_slot : (s : ℕ) → s < 256 → held t s ≡ true → at (table_in bytes) s ≡ Some (point_in (sample_part bytes (count (held t) s)))
  full_slot s l h =
      upto_at bytes (sample_total bytes) s l
      ∙ ap (option_map (λ i. point_in (sample_part bytes i)))
      (sym (is_lowest (λ i. eqb (slot_in (sample_part bytes i)) s) (sample_total bytes) (Some (count (held t) s))
      (omega (arith, total_filed t m node counts, count_before (held t) s 256 l h), eq-eqb _ _ (slot_filed t m node counts s l h), λ j k. ne_eqb _ _ (other j k))))
    where
      other : (j : ℕ) → j < count (held t) s → slot_in (sample_part bytes j) ≡ s → ⊥
      other j k e =
          let r = slot_of t m node counts j (omega (arith, total_filed t m node counts, count_before (held t) s 256 l h)) in
          let is = rw r.3 at (slot_filed t m node counts r.0 r.1 r.2) in
          let same : r.0 ≡ s = sym is ∙ e in
          omega (arith, r.3, ap (count (held t)) same)

  empty_slot : (s : ℕ) → s < 256 → held t s ≡ false → at (table_in bytes) s ≡ None
  empty_slot s l h =
      upto_at bytes (sample_total bytes) s l
      ∙ ap (option_map (λ i. point_in (sample_part bytes i))) (none_lowest (λ i. eqb (slot_in (sample_part bytes i)) s) (sample_total bytes) (λ j k. ne_eqb _ _ (other j k)))
    where
      other : (j : ℕ) → j < sample_total bytes → slot_in (sample_part bytes j) ≡ s → ⊥
      other j k e =
          let r = slot_of t m node counts j k in
          let is = rw r.3 at (slot_filed t m node counts r.0 r.1 r.2) in
          both_ways (held t s) h (sym (ap (held t) (sym is ∙ e)) ∙ r.2)

  pub same_samples : SameSamples t (table_in bytes)
  same_samples = record {
    held = λ s l. ⊎_elim (λ h. h ∙ sym (held_some (table_in bytes) s _ (sym (full_slot s l h)))) (λ h. h ∙ sym (ap is_some (empty_slot s l h))) (cases_Bool (held t s));
    fibre = λ s l. ⊎_elim
        (λ h. sym (fibre_some (table_in bytes) s _ (sym (full_slot s l h)) ∙ fibre_filed t m node counts s l h))
        (λ h. ap (λ o. unwrap_or (option_map (λ x. x.fibre) o) 0) (none_at t s h ∙ sym (empty_slot s l h))) (cases_Bool (held t s));
    values = λ s b l k. ⊎_elim
        (λ h. sym (ap (λ vs. entries vs b) (values_some (table_in bytes) s _ (sym (full_slot s l h))) ∙ value_filed t m node counts s l h b k))
        (λ h. ap (λ o. entries (unwrap_or (option_map (λ x. x.values) o) []) b) (none_at t s h ∙ sym (empty_slot s l h))) (cases_Bool (held t s));
  }

  pub file_describes : Describes bytes t m node counts
  file_describes = record { samples = same_samples; size = sym (nodes_filed t m node counts); nodes = same_tree t m node counts; counts = same_counts t m node counts }
