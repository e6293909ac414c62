-- The file of a field keeps the rules. Assumes nothing.
use Rattle.std.proofs.Common.{◌≡◌, ℕ, ◌-◌, ◌<◌, ◌≤◌, true, ◌&&◌, List, eqb, sym, ap, ◌∙◌, arith}
use Rattle.ranking.specs.Counts.{count}
use Rattle.ranking.proofs.Counted.{count_le}
use Rattle.boxes.specs.Views.{entries}
use Rattle.drawing.specs.Held.{samples_of}
use Rattle.samples.specs.Slots.{Table, held, fibre_at, values_at}
use Rattle.trees.specs.Samples.{lies, Right}
use Rattle.trees.specs.Trees.{Kind, leaf, split, shrink, Node, reached, under}
use Rattle.records.specs.Described.{SameTree, IsField}
use Rattle.records.specs.Format.{kind_code, file}
use Rattle.records.specs.Parts.{slot_in, fibre_in, leaf_in, values_in, code_in, node_in, tally_in}
use Rattle.records.specs.Readings.{sample_total, node_total, sample_part, tree_in, counts_in, samples_in}
use Rattle.records.specs.Rules.{Keeps}
use Rattle.records.proofs.Filed.{total_filed, nodes_filed, to_nodes_filed, to_samples_filed, mark_filed, sample_filed, node_filed}
use Rattle.records.proofs.Lengths.{length_file}
use Rattle.records.proofs.Likened.{alike_back, rules_same, reached_same, under_same}
use Rattle.records.proofs.Ordinal.{slot_of_number, slots_rise, count_by_number}
use Rattle.records.proofs.Reread.{slot_written, fibre_written, leaf_written, value_written, tally_written, code_written, node_written}

code_le : (k : Kind) → kind_code k ≤ 2
code_le leaf = omega arith
code_le split = omega arith
code_le shrink = omega arith

module _ (t : Table) (m : ℕ) (node : ℕ → Node) (counts : ℕ → ℕ → ℕ) where
  abbrev bytes : List ℕ
  bytes = file t m node counts

  pub same_tree : SameTree m node (tree_in bytes)
  same_tree x l =
      let w = node_written (node x) (counts x) in
      let e = ap node_in (node_filed t m node counts x l) in (
        sym w.0 ∙ sym (ap (λ y. y.kind) e),
        rw e (alike_back _ _ w.1),
        sym w.2 ∙ sym (ap (λ y. y.first) e),
        sym w.3 ∙ sym (ap (λ y. y.second) e),
      )

  pub same_counts : (x f : ℕ) → x < m → f < 8 → counts x f ≡ counts_in bytes x f
  same_counts x f l k = sym (ap (λ r. entries (tally_in r) f) (node_filed t m node counts x l) ∙ tally_written (node x) (counts x) f k)

  -- record i is that of a slot
  pub slot_of : (i : ℕ) → i < sample_total bytes → (s : ℕ) × (s < 256) × (held t s ≡ true) × (count (held t) s ≡ i)
  slot_of i l = slot_of_number (held t) 256 i (omega (arith, total_filed t m node counts))

  -- what the record of the sample in slot s says
  module _ (s : ℕ) (l : s < 256) (h : held t s ≡ true) where
    pub slot_filed : slot_in (sample_part bytes (count (held t) s)) ≡ s
    slot_filed = ap slot_in (sample_filed t m node counts s l h) ∙ slot_written _ _ _ _

    pub fibre_filed : fibre_in (sample_part bytes (count (held t) s)) ≡ fibre_at t s
    fibre_filed = ap fibre_in (sample_filed t m node counts s l h) ∙ fibre_written _ _ _ _

    pub value_filed : (b : ℕ) → b < 8 → entries (values_in (sample_part bytes (count (held t) s))) b ≡ entries (values_at t s) b
    value_filed b k = ap (λ r. entries (values_in r) b) (sample_filed t m node counts s l h) ∙ value_written _ _ _ _ b k

    pub leaf_filed : leaf_in (sample_part bytes (count (held t) s)) ≡ reached node (entries (values_at t s)) (m - 1)
    leaf_filed = ap leaf_in (sample_filed t m node counts s l h) ∙ leaf_written _ _ _ _

  module _ (f : IsField t m node counts) where
    -- node x has as many samples below it by record as by slot
    lies_filed : (x g : ℕ) → x < m → count (lies node (samples_of t) x g) 256 ≡ count (lies (tree_in bytes) (samples_in bytes) x g) (sample_total bytes)
    unfolding lies
    lies_filed x g l =
        count_by_number (held t) (λ s. eqb (fibre_at t s) g && under node (entries (values_at t s)) x) (lies (tree_in bytes) (samples_in bytes) x g) 256
        (λ s k h.
        let u = under_same m node (tree_in bytes) same_tree f.rules (entries (values_at t s)) (entries (values_in (sample_part bytes (count (held t) s)))) (λ b j. sym (value_filed s k h b j)) x l in
        λ i. eqb (fibre_filed s k h i) g && sym u i)
        ∙ ap (count (lies (tree_in bytes) (samples_in bytes) x g)) (sym (total_filed t m node counts))

    pub file_keeps : Keeps bytes
    file_keeps =
        let n = total_filed t m node counts in
        let e = nodes_filed t m node counts in
        let long = length_file t m node counts in
        let some = f.rules.some in
        let slots = count_le (held t) 256 in
        record {
          trailer = omega arith;
          mark = mark_filed t m node counts;
          totals = (omega arith, omega arith, omega (arith, f.room));
          to_nodes = omega (arith, to_nodes_filed t m node counts);
          to_samples = omega (arith, to_samples_filed t m node counts);
          size = omega arith;
          fibres = λ i l. let r = slot_of i l in rw r.3 at (rw (← fibre_filed r.0 r.1 r.2) at (f.valid r.0 r.1 r.2).0);
          values = λ i b l k. let r = slot_of i l in rw r.3 at (rw (← value_filed r.0 r.1 r.2 b k) at ((f.valid r.0 r.1 r.2).1 b k));
          rising = rising;
          kinds = λ x l. let c = code_le (node x).kind in omega (arith, ap code_in (node_filed t m node counts x (omega arith)) ∙ code_written (node x) (counts x));
          tree = rw e (rules_same m node (tree_in bytes) same_tree f.rules);
          leaves = λ i l. let r = slot_of i l in rw r.3 at (leaf_reached r.0 r.1 r.2);
          counts = rw e right_filed;
        }
      where
        rising : (i j : ℕ) → i < j → j < sample_total bytes → slot_in (sample_part bytes i) < slot_in (sample_part bytes j)
        rising i j l k =
            let p = slot_of i (omega arith) in
            let q = slot_of j k in
            let a = rw p.3 at (slot_filed p.0 p.1 p.2) in
            let b = rw q.3 at (slot_filed q.0 q.1 q.2) in
            let up = slots_rise (held t) p.0 q.0 (omega (arith, p.3, q.3)) in
            omega arith

        leaf_reached : (s : ℕ) → s < 256 → held t s ≡ true → leaf_in (sample_part bytes (count (held t) s)) ≡ reached (tree_in bytes) (entries (values_in (sample_part bytes (count (held t) s)))) (node_total bytes - 1)
        leaf_reached s l h =
            leaf_filed s l h
            ∙ reached_same m node (tree_in bytes) same_tree f.rules (entries (values_at t s)) (entries (values_in (sample_part bytes (count (held t) s)))) (λ b k. sym (value_filed s l h b k)) (m - 1) (omega (arith, f.rules.some))
            ∙ ap (λ k. reached (tree_in bytes) (entries (values_in (sample_part bytes (count (held t) s)))) (k - 1)) (sym (nodes_filed t m node counts))

        right_filed : Right m (tree_in bytes) (counts_in bytes) (samples_in bytes)
        right_filed x g l k = sym (same_counts x g l k) ∙ f.right x g l k ∙ lies_filed x g l
