-- What is written of a field that was loaded is the file that it was loaded from. Assumes nothing.
use Rattle.std.proofs.Common.{◌≡◌, ℕ, Bool, true, false, List, length, take, drop, Ok, Result, sym, refl, ap, ◌∙◌, subst}
use Rattle.std.proofs.Math.Seq.{take-append_seam}
use Rattle.std.specs.Cmp.Lexicographic.{pointwise, told_text}
use Rattle.std.specs.Prelude.{nat_eq, MatchBool}
use Rattle.samples.specs.Verdict.{samples}
use Rattle.samples.specs.declared.refusal.Refusal.{Refusal}
use Rattle.field.specs.Fields.{holds, node_count, tree, counts}
use Rattle.field.specs.declared.state.Field.{Field}
use Rattle.records.specs.Readings.{sample_total, node_total}
use Rattle.records.proofs.Filed.{total_filed, nodes_filed}
use Rattle.fieldfile.specs.Format.{file_of, Writes}

module _ (bs : List ℕ) (f : Field) (written : file_of f ≡ bs) where
  pub samples_told : samples (holds f) ≡ sample_total bs
  samples_told = sym (total_filed (holds f) (node_count f) (tree f) (counts f)) ∙ ap sample_total written

  pub nodes_told : node_count f ≡ node_total bs
  nodes_told = sym (nodes_filed (holds f) (node_count f) (tree f) (counts f)) ∙ ap node_total written

  pub front_written : (old new : List ℕ) (r : Result ℕ Refusal) (n : ℕ) → Writes (file_of f) old new r → r ≡ Ok n → take n new ≡ bs
  front_written old new r n w e =
      let v : Writes (file_of f) old new (Ok n) = subst (λ s. Writes (file_of f) old new s) e w in
      (λ i. take (v.0 i) (v.2 i)) ∙ take-append_seam (file_of f) (drop (length (file_of f)) old) ∙ written

-- a test of two texts that are the same
pub same_told : (xs ys : List ℕ) (r : Bool) → r ≡ pointwise nat_eq xs ys → xs ≡ ys → r ≡ true
same_told xs ys r e h = go r (told_text xs ys r e)
  where
    go : (b : Bool) → MatchBool b (xs ≡ ys) (xs ≡ ys → ⊥) → b ≡ true
    go true m = refl
    go false m = absurd (m h)
