-- A file keeps the rules exactly where no record fails a check. Assumes nothing.
use Rattle.std.proofs.Common.{◌≡◌, ℕ, zero, suc, ◌+◌, ◌-◌, ◌*◌, ◌<◌, ◌≤◌, true, false, not, List, length, get_or, None, ap, ⊎_elim, arith}
use Rattle.std.proofs.lemmas.Bool.{and_parts, and_from, not-false, cases_eq, eqb-true, eq-eqb, leb-true, le-leb, ltb-true, lt-ltb}
use Rattle.std.proofs.lemmas.Bool.Decides.{nat_tests}
use Rattle.std.proofs.lemmas.List.Elements.{All-get_or, All-from_get_or}
use Rattle.boxes.specs.Views.{entries}
use Rattle.samples.proofs.Ranged.{below_decides}
use Rattle.trees.specs.Lawful.{sound, linked, nested, lawful, counted, right}
use Rattle.trees.specs.Samples.{Samples, Right}
use Rattle.trees.specs.Trees.{Node, reached}
use Rattle.trees.proofs.Boxed.{every_at, every_all}
use Rattle.trees.proofs.Lawfully.{rules_from_lawful, lawful_from_rules, right_says, right_from}
use Rattle.records.specs.Bytes.{four}
use Rattle.records.specs.Checks.{marked, laid_out, in_range, bad_sample, bad_node, bad_links, bad_boxes, bad_leaf, bad_counts, checks, first_fault}
use Rattle.records.specs.Parts.{slot_in, fibre_in, leaf_in, values_in, code_in}
use Rattle.records.specs.Readings.{end, sample_total, node_total, sample_part, node_part, tree_in, counts_in, samples_in}
use Rattle.records.specs.Rules.{Keeps}
use Rattle.records.proofs.Chunked.{length_row_in}
use Rattle.records.proofs.Links.{once_from_rules}
use Rattle.records.proofs.Slotted.{Rises}
use Rattle.records.proofs.Passed.{none_failed, passes}

-- each of m nodes passes each test of a lawful tree
lawful_from : (m : ℕ) (node : ℕ → Node) → 0 < m → ((x : ℕ) → x < m → sound node x ≡ true) → ((x : ℕ) → x < m → linked m node x ≡ true) → ((x : ℕ) → x < m → nested node x ≡ true) → lawful m node ≡ true
unfolding lawful
lawful_from m node p s l n =
    and_from _ _ (lt-ltb 0 m p) (and_from _ _ (every_all (sound node) m s) (and_from _ _ (every_all (linked m node) m l) (every_all (nested node) m n)))

lawful_says : (m : ℕ) (node : ℕ → Node) → lawful m node ≡ true → (x : ℕ) → x < m → (sound node x ≡ true) × (linked m node x ≡ true) × (nested node x ≡ true)
unfolding lawful
lawful_says m node h x l =
    let p = and_parts _ _ h in
    let q = and_parts _ _ p.1 in
    let r = and_parts _ _ q.1 in
    (every_at (sound node) m x q.0 l, every_at (linked m node) m x r.0 l, every_at (nested node) m x r.1 l)

right_each : (m : ℕ) (node : ℕ → Node) (counts : ℕ → ℕ → ℕ) (a : Samples) → Right m node counts a → (x : ℕ) → x < m → counted node counts a x ≡ true
unfolding right
right_each m node counts a r x l = every_at (counted node counts a) m x (right_from m node counts a r) l

right_all : (m : ℕ) (node : ℕ → Node) (counts : ℕ → ℕ → ℕ) (a : Samples) → ((x : ℕ) → x < m → counted node counts a x ≡ true) → Right m node counts a
unfolding right
right_all m node counts a h = right_says m node counts a (every_all (counted node counts a) m h)

module _ (bs : List ℕ) where
  marked_says : marked bs ≡ true → (14 ≤ length bs) × (get_or bs (end bs + 12) 0 ≡ 0x46) × (get_or bs (end bs + 13) 0 ≡ 0x36)
  unfolding marked
  marked_says h =
      let p = and_parts _ _ h in
      let q = and_parts _ _ p.1 in
      (leb-true _ _ p.0, eqb-true _ _ q.0, eqb-true _ _ q.1)

  laid_says : laid_out bs ≡ true → (sample_total bs ≤ 256) × (1 ≤ node_total bs) × (node_total bs ≤ 1021) × (four bs (end bs + 4) ≡ 38 * node_total bs) × (four bs (end bs + 8) ≡ 38 * node_total bs + 20 * sample_total bs) × (length bs ≡ 20 * sample_total bs + 38 * node_total bs + 14)
  unfolding laid_out
  laid_says h =
      let p = and_parts _ _ h in
      let q = and_parts _ _ p.0 in
      let r = and_parts _ _ q.1 in
      let s = and_parts _ _ p.1 in
      let t = and_parts _ _ s.0 in
      (leb-true _ _ q.0, leb-true _ _ r.0, leb-true _ _ r.1, eqb-true _ _ t.0, eqb-true _ _ t.1, eqb-true _ _ s.1)

  sample_says : (i : ℕ) → bad_sample bs i ≡ false → (in_range (sample_part bs i) ≡ true) × (0 < i → slot_in (sample_part bs (i - 1)) < slot_in (sample_part bs i))
  unfolding bad_sample
  sample_says i h = (grind (arith, nat_tests), λ p. grind (arith, nat_tests))

  sample_from : (i : ℕ) → in_range (sample_part bs i) ≡ true → (0 < i → slot_in (sample_part bs (i - 1)) < slot_in (sample_part bs i)) → bad_sample bs i ≡ false
  unfolding bad_sample
  sample_from i r s = grind (arith, nat_tests)

  node_says : (x : ℕ) → bad_node bs x ≡ false → (code_in (node_part bs x) ≤ 2) × (sound (tree_in bs) x ≡ true)
  unfolding bad_node
  node_says x h = (grind (arith, nat_tests), grind (arith, nat_tests))

  node_from : (x : ℕ) → code_in (node_part bs x) ≤ 2 → sound (tree_in bs) x ≡ true → bad_node bs x ≡ false
  unfolding bad_node
  node_from x k s = grind (arith, nat_tests)

  range_says : (r : List ℕ) → in_range r ≡ true → (fibre_in r < 8) × ((b : ℕ) → b < 8 → entries (values_in r) b < 1024)
  unfolding in_range
  range_says r h =
      let p = and_parts _ _ h in
      let all = (below_decides 1024 (values_in r)).0 p.1 in
      (ltb-true _ _ p.0, λ b l. All-get_or (λ v. v < 1024) (values_in r) b 0 (omega (arith, length_row_in r 4)) all)

  range_from : (r : List ℕ) → fibre_in r < 8 → ((b : ℕ) → b < 8 → entries (values_in r) b < 1024) → in_range r ≡ true
  unfolding in_range
  range_from r f v =
      and_from _ _ (lt-ltb _ _ f)
      ((below_decides 1024 (values_in r)).1 (All-from_get_or (λ v. v < 1024) (values_in r) 0 (λ b l. v b (omega (arith, length_row_in r 4)))))

  -- each slot above the one before makes all slots rise
  pub rises_from_checks : (n : ℕ) → ((i : ℕ) → i < n → bad_sample bs i ≡ false) → Rises bs n
  rises_from_checks n h i zero l m = absurd (omega arith)
  rises_from_checks n h i (suc j) l m =
      let before : suc j - 1 ≡ j = omega arith in
      let one = rw before at ((sample_says (suc j) (h (suc j) m)).1 (omega arith)) in
      ⊎_elim (λ (e : i ≡ j). rw e one) (λ ne. let up = rises_from_checks n h i j (omega arith) (omega arith) in omega arith) (cases_eq i j)

  leaf_says : (i : ℕ) → bad_leaf bs i ≡ false → leaf_in (sample_part bs i) ≡ reached (tree_in bs) (entries (values_in (sample_part bs i))) (node_total bs - 1)
  unfolding bad_leaf
  leaf_says i h = eqb-true _ _ (not-false _ h)

  leaf_from : (i : ℕ) → leaf_in (sample_part bs i) ≡ reached (tree_in bs) (entries (values_in (sample_part bs i))) (node_total bs - 1) → bad_leaf bs i ≡ false
  unfolding bad_leaf
  leaf_from i h = ap not (eq-eqb _ _ h)

  pub keeps_unless_fault : first_fault bs ≡ None → Keeps bs
  unfolding first_fault bad_links bad_boxes bad_counts
  keeps_unless_fault h =
      let p = passes 1 (checks bs) h in
      let q = p.1 in
      let r = q.1 in
      let s = r.1 in
      let t = s.1 in
      let u = t.1 in
      let v = u.1 in
      let w = v.1 in
      let mark = marked_says (not-false _ (p.0 0 (omega arith))) in
      let laid = laid_says (not-false _ (q.0 0 (omega arith))) in
      let sample = λ (i : ℕ) (l : i < sample_total bs). sample_says i (r.0 i l) in
      let node = λ (x : ℕ) (l : x < node_total bs). node_says x (s.0 x l) in
      let lawful' =
      lawful_from (node_total bs) (tree_in bs) (omega arith) (λ x l. (node x l).1) (λ x l. (and_parts _ _ (not-false _ (t.0 x l))).0) (λ x l. not-false _ (u.0 x l)) in
      record {
        trailer = mark.0;
        mark = (mark.1, mark.2);
        totals = (laid.0, laid.1, laid.2);
        to_nodes = laid.3;
        to_samples = laid.4;
        size = laid.5;
        fibres = λ i l. (range_says _ (sample i l).0).0;
        values = λ i b l k. (range_says _ (sample i l).0).1 b k;
        rising = rises_from_checks (sample_total bs) r.0;
        kinds = λ x l. (node x l).0;
        tree = rules_from_lawful (node_total bs) (tree_in bs) lawful';
        leaves = λ i l. leaf_says i (v.0 i l);
        counts = right_all (node_total bs) (tree_in bs) (counts_in bs) (samples_in bs) (λ x l. not-false _ (w.0 x l));
      }

  pub no_fault : Keeps bs → first_fault bs ≡ None
  unfolding first_fault bad_links bad_boxes bad_counts marked laid_out
  no_fault k =
      let m = node_total bs in
      let mark' : marked bs ≡ true = and_from _ _ (le-leb _ _ k.trailer) (and_from _ _ (eq-eqb _ _ k.mark.0) (eq-eqb _ _ k.mark.1)) in
      let laid : laid_out bs ≡ true =
      and_from _ _ (and_from _ _ (le-leb _ _ k.totals.0) (and_from _ _ (le-leb _ _ k.totals.1) (le-leb _ _ k.totals.2)))
      (and_from _ _ (and_from _ _ (eq-eqb _ _ k.to_nodes) (eq-eqb _ _ k.to_samples)) (eq-eqb _ _ k.size)) in
      let l = lawful_says m (tree_in bs) (lawful_from_rules m (tree_in bs) k.tree) in
      none_failed 1 (checks bs) (
        λ i _. ap not mark',
        (
          λ i _. ap not laid,
          (
            λ i l. sample_from i (range_from _ (k.fibres i l) (λ b c. k.values i b l c)) (λ p. k.rising (i - 1) i (omega arith) l),
            (
              λ x p. node_from x (k.kinds x p) (l x p).0,
              (
                λ x p. ap not (and_from _ _ (l x p).1 (once_from_rules m (tree_in bs) k.tree x p)),
                (
                  λ x p. ap not (l x p).2,
                  (
                    λ i p. leaf_from i (k.leaves i p),
                    (λ x p. ap not (right_each m (tree_in bs) (counts_in bs) (samples_in bs) k.counts x p), tt),
                  ),
                ),
              ),
            ),
          ),
        ),
      )
