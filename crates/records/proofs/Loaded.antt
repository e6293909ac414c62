-- The samples that the records of a file put into the slots, and that a file that keeps the rules describes a field. Assumes nothing.
use Rattle.std.proofs.Common.{◌≡◌, ℕ, ◌*◌, ◌<◌, true, ◌&&◌, List, is_some, Some, None, Option, eqb, sym, refl, ap, ◌∙◌, arith}
use Rattle.std.specs.Option.{option_map}
use Rattle.std.proofs.lemmas.Bool.{eqb-true, false≢true}
use Rattle.ranking.specs.Counts.{count}
use Rattle.ranking.proofs.Counted.{count_ext}
use Rattle.ranking.proofs.Found.{lowest_some}
use Rattle.boxes.specs.Views.{entries}
use Rattle.drawing.specs.Held.{samples_of}
use Rattle.samples.specs.Slots.{at, held, fibre_at, values_at}
use Rattle.samples.proofs.Tabled.{fibre_some, values_some}
use Rattle.trees.specs.Samples.{Valid, lies}
use Rattle.trees.specs.Trees.{Node, under}
use Rattle.records.specs.Bytes.{IsBytes}
use Rattle.records.specs.Described.{IsField}
use Rattle.records.specs.Parts.{slot_in, fibre_in, values_in, point_in}
use Rattle.records.specs.Readings.{sample_total, node_total, sample_part, record_of, tree_in, counts_in, samples_in, table_upto, table_in}
use Rattle.records.specs.Rules.{Keeps}
use Rattle.records.proofs.Ordinal.{count_by_number}
use Rattle.records.proofs.Rewritten.{chunk_bytes}
use Rattle.records.proofs.Slotted.{Rises, upto_at, held_upto, numbered, samples_upto}

pub slot_is_byte : (bs : List ℕ) (i : ℕ) → IsBytes bs → slot_in (sample_part bs i) < 256
unfolding sample_part
slot_is_byte bs i bytes = chunk_bytes bs (20 * i) 20 bytes 0

-- what is known of the sample in slot s by its record
pub record Recorded (bs : List ℕ) (n s i : ℕ) : Type 0 where
  pub below : i < n
  pub slot : slot_in (sample_part bs i) ≡ s
  pub fibre : fibre_at (table_upto bs n) s ≡ fibre_in (sample_part bs i)
  pub values : values_at (table_upto bs n) s ≡ values_in (sample_part bs i)
  pub number : count (held (table_upto bs n)) s ≡ i

module _ (bs : List ℕ) (bytes : IsBytes bs) (n : ℕ) (rises : Rises bs n) where
  pub recorded : (s : ℕ) → s < 256 → held (table_upto bs n) s ≡ true → (i : ℕ) × Recorded bs n s i
  recorded s l h = go (record_of bs n s) refl (sym (held_upto bs n s l) ∙ h)
    where
      go : (o : Option ℕ) → record_of bs n s ≡ o → is_some o ≡ true → (i : ℕ) × Recorded bs n s i
      go None e f = absurd (false≢true f)
      go (Some i) e f =
          let found = lowest_some (λ j. eqb (slot_in (sample_part bs j)) s) n i e in
          let is = eqb-true _ _ found.1 in
          let read : at (table_upto bs n) s ≡ Some (point_in (sample_part bs i)) = upto_at bs n s l ∙ ap (option_map (λ j. point_in (sample_part bs j))) e in (
            i,
            record {
              below = found.0;
              slot = is;
              fibre = fibre_some (table_upto bs n) s _ (sym read);
              values = values_some (table_upto bs n) s _ (sym read);
              number =
                  count_ext (held (table_upto bs n)) (λ r. is_some (record_of bs n r)) s (λ r q. held_upto bs n r (omega arith))
                  ∙ ap (count (λ r. is_some (record_of bs n r))) (sym is) ∙ numbered bs n i rises found.0;
            },
          )

  -- as many samples of a fibre lie under a node by slot as by record
  pub lies_upto : (node : ℕ → Node) (x f : ℕ) → count (lies node (samples_of (table_upto bs n)) x f) 256 ≡ count (lies node (samples_in bs) x f) n
  unfolding lies
  lies_upto node x f =
      count_by_number (held (table_upto bs n)) (λ s. eqb (fibre_at (table_upto bs n) s) f && under node (entries (values_at (table_upto bs n) s)) x) (lies node (samples_in bs) x f) 256
      (λ s l h.
      let r = recorded s l h in
      ap (lies node (samples_in bs) x f) r.1.number ∙ λ i. eqb (sym r.1.fibre i) f && under node (entries (sym r.1.values i)) x)
      ∙ ap (count (lies node (samples_in bs) x f)) (samples_upto bs n rises (λ i _. slot_is_byte bs i bytes))

module _ (bs : List ℕ) (bytes : IsBytes bs) (k : Keeps bs) where
  valid_in : Valid (samples_of (table_in bs))
  valid_in s l h =
      let r = recorded bs bytes (sample_total bs) k.rising s l h in (
        omega (arith, r.1.fibre, k.fibres r.0 r.1.below),
        λ b c. let e = ap (λ vs. entries vs b) r.1.values in omega (arith, k.values r.0 b r.1.below c),
      )

  pub keeps_field : IsField (table_in bs) (node_total bs) (tree_in bs) (counts_in bs)
  keeps_field = record {
    valid = valid_in;
    room = k.totals.2;
    rules = k.tree;
    right = λ x f l c. k.counts x f l c ∙ sym (lies_upto bs bytes (sample_total bs) k.rising (tree_in bs) x f);
  }
