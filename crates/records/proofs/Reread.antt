-- What stands in a record that was written. Assumes nothing.
use Rattle.std.proofs.Common.{◌≡◌, ℕ, ◌<◌, map, refl, ap, ◌∙◌, arith}
use Rattle.std.specs.List.{range_with_len}
use Rattle.std.proofs.lemmas.List.FromFn.{get_or-map-range_with_len}
use Rattle.boxes.specs.Views.{entries}
use Rattle.trees.specs.Drawing.{Is}
use Rattle.trees.specs.Trees.{Kind, leaf, split, shrink, Node}
use Rattle.records.specs.Bytes.{row_in, pieces}
use Rattle.records.specs.Format.{kind_code, sample_record, node_record}
use Rattle.records.specs.Parts.{slot_in, fibre_in, leaf_in, values_in, code_in, coded, node_in, tally_in}
use Rattle.records.proofs.Chunked.{two_le2}

-- the numbers 0 to 7 as a function gives them, in a list
listed_at : (v : ℕ → ℕ) (b : ℕ) → b < 8 → entries (map v (range_with_len 0 8)) b ≡ v b
listed_at v b l = get_or-map-range_with_len v 0 8 b b 0 l (omega arith)

pub coded_code : (k : Kind) → coded (kind_code k) ≡ k
coded_code leaf = refl
coded_code split = refl
coded_code shrink = refl

module _ (slot fibre number : ℕ) (v : ℕ → ℕ) where
  pub slot_written : slot_in (sample_record slot fibre number v) ≡ slot
  unfolding sample_record
  slot_written = refl

  pub fibre_written : fibre_in (sample_record slot fibre number v) ≡ fibre
  unfolding sample_record
  fibre_written = refl

  pub leaf_written : leaf_in (sample_record slot fibre number v) ≡ number
  unfolding sample_record
  leaf_written = two_le2 number

  pub values_written : values_in (sample_record slot fibre number v) ≡ map v (range_with_len 0 8)
  unfolding sample_record pieces row_in
  values_written = simp two_le2

  pub value_written : (b : ℕ) → b < 8 → entries (values_in (sample_record slot fibre number v)) b ≡ v b
  value_written b l = ap (λ vs. entries vs b) values_written ∙ listed_at v b l

module _ (x : Node) (tally : ℕ → ℕ) where
  corner_written : row_in (node_record x tally) 6 ≡ map x.box.corner (range_with_len 0 8)
  unfolding node_record pieces row_in
  corner_written = simp two_le2

  tally_listed : tally_in (node_record x tally) ≡ map tally (range_with_len 0 8)
  unfolding node_record pieces row_in
  tally_listed = simp two_le2

  pub tally_written : (f : ℕ) → f < 8 → entries (tally_in (node_record x tally)) f ≡ tally f
  tally_written f l = ap (λ vs. entries vs f) tally_listed ∙ listed_at tally f l

  pub code_written : code_in (node_record x tally) ≡ kind_code x.kind
  unfolding node_record
  code_written = refl

  pub node_written : Is (node_in (node_record x tally)) x.kind x.box x.first x.second
  unfolding node_in node_record
  node_written =
      (coded_code x.kind, (refl, λ b l. ap (λ vs. entries vs b) corner_written ∙ listed_at x.box.corner b l), two_le2 x.first, two_le2 x.second)
