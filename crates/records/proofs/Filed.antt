-- What the trailer and the records of a written file say. Assumes nothing.
use Rattle.std.proofs.Common.{◌≡◌, ℕ, ◌+◌, ◌*◌, ◌<◌, true, cond, List, [], ◌++◌, length, take, drop, sym, refl, ap, ◌∙◌, append_assoc, arith, length-append}
use Rattle.std.proofs.lemmas.List.{drop_at, drop-drop, get_or-append-add}
use Rattle.ranking.specs.Counts.{count}
use Rattle.boxes.specs.Views.{entries}
use Rattle.samples.specs.Slots.{Table, held}
use Rattle.samples.specs.Verdict.{samples}
use Rattle.trees.specs.Trees.{Node}
use Rattle.records.specs.Bytes.{two, four, chunk, pieces}
use Rattle.records.specs.Format.{sample_bytes, node_bytes, samples_bytes, nodes_bytes, trailer_bytes, file}
use Rattle.records.specs.Readings.{end, sample_total, node_total, sample_part, node_part}
use Rattle.records.proofs.Chunked.{two_le2, four_le4, cut_piece}
use Rattle.records.proofs.Lengths.{length_sample, length_node, length_samples, length_nodes, length_file}

-- the trailer that stands behind other bytes
module _ (front : List ℕ) (n m p : ℕ) (long : length front ≡ p) where
  behind : (k : ℕ) → entries (front ++ trailer_bytes n m) (p + k) ≡ entries (trailer_bytes n m) k
  behind k = ap (λ q. entries (front ++ trailer_bytes n m) (q + k)) (sym long) ∙ get_or-append-add front (trailer_bytes n m) k 0

  two_behind : (k : ℕ) → two (front ++ trailer_bytes n m) (p + k) ≡ two (trailer_bytes n m) k
  two_behind k =
      let e : p + k + 1 ≡ p + (k + 1) = omega arith in
      λ i. behind k i + 256 * (ap (entries (front ++ trailer_bytes n m)) e ∙ behind (k + 1)) i

  four_behind : (k : ℕ) → four (front ++ trailer_bytes n m) (p + k) ≡ four (trailer_bytes n m) k
  four_behind k =
      let e : p + k + 2 ≡ p + (k + 2) = omega arith in
      λ i. two_behind k i + 65536 * (ap (two (front ++ trailer_bytes n m)) e ∙ two_behind (k + 2)) i

trailer_samples : (n m : ℕ) → two (trailer_bytes n m) 0 ≡ n
unfolding trailer_bytes
trailer_samples n m = two_le2 n

trailer_nodes : (n m : ℕ) → two (trailer_bytes n m) 2 ≡ m
unfolding trailer_bytes
trailer_nodes n m = two_le2 m

trailer_to_nodes : (n m : ℕ) → four (trailer_bytes n m) 4 ≡ 38 * m
unfolding trailer_bytes
trailer_to_nodes n m = four_le4 (38 * m)

trailer_to_samples : (n m : ℕ) → four (trailer_bytes n m) 8 ≡ 38 * m + 20 * n
unfolding trailer_bytes
trailer_to_samples n m = four_le4 (38 * m + 20 * n)

trailer_mark : (n m : ℕ) → (entries (trailer_bytes n m) 12 ≡ 0x46) × (entries (trailer_bytes n m) 13 ≡ 0x36)
unfolding trailer_bytes
trailer_mark n m = (refl, refl)

module _ (t : Table) (m : ℕ) (node : ℕ → Node) (counts : ℕ → ℕ → ℕ) where
  abbrev bytes : List ℕ
  bytes = file t m node counts

  abbrev parts_before : List ℕ
  parts_before = samples_bytes t m node 256 ++ nodes_bytes node counts m

  in_front : bytes ≡ parts_before ++ trailer_bytes (samples t) m
  unfolding file
  in_front = sym (append_assoc (samples_bytes t m node 256) (nodes_bytes node counts m) (trailer_bytes (samples t) m))

  length_before : length parts_before ≡ 20 * samples t + 38 * m
  length_before =
      let a = length_samples t m node 256 in
      let b = length_nodes node counts m in
      length-append (samples_bytes t m node 256) (nodes_bytes node counts m) ∙ omega arith

  pub end_filed : end bytes ≡ 20 * samples t + 38 * m
  end_filed = let l = length_file t m node counts in omega arith

  -- a number of the trailer
  said : (read : List ℕ → ℕ → ℕ) (k : ℕ) → read bytes (end bytes + k) ≡ read (parts_before ++ trailer_bytes (samples t) m) (20 * samples t + 38 * m + k)
  said read k = λ i. read (in_front i) (end_filed i + k)

  pub total_filed : sample_total bytes ≡ samples t
  total_filed =
      let e : end bytes ≡ end bytes + 0 = omega arith in
      ap (two bytes) e ∙ said two 0 ∙ two_behind parts_before (samples t) m _ length_before 0 ∙ trailer_samples (samples t) m

  pub nodes_filed : node_total bytes ≡ m
  nodes_filed = said two 2 ∙ two_behind parts_before (samples t) m _ length_before 2 ∙ trailer_nodes (samples t) m

  pub to_nodes_filed : four bytes (end bytes + 4) ≡ 38 * m
  to_nodes_filed = said four 4 ∙ four_behind parts_before (samples t) m _ length_before 4 ∙ trailer_to_nodes (samples t) m

  pub to_samples_filed : four bytes (end bytes + 8) ≡ 38 * m + 20 * samples t
  to_samples_filed = said four 8 ∙ four_behind parts_before (samples t) m _ length_before 8 ∙ trailer_to_samples (samples t) m

  pub mark_filed : (entries bytes (end bytes + 12) ≡ 0x46) × (entries bytes (end bytes + 13) ≡ 0x36)
  mark_filed = (
    said entries 12 ∙ behind parts_before (samples t) m _ length_before 12 ∙ (trailer_mark (samples t) m).0,
    said entries 13 ∙ behind parts_before (samples t) m _ length_before 13 ∙ (trailer_mark (samples t) m).1,
  )

  -- the record of the sample in slot s is numbered by how many slots below are full
  pub sample_filed : (s : ℕ) → s < 256 → held t s ≡ true → sample_part bytes (count (held t) s) ≡ sample_bytes t m node s
  unfolding sample_part file
  sample_filed s l h =
      let f : ℕ → List ℕ = λ r. cond (held t r) (sample_bytes t m node r) [] in
      let is : f s ≡ sample_bytes t m node s = ap (λ b. cond b (sample_bytes t m node s) []) h in
      let long : length (f s) ≡ 20 = ap length is ∙ length_sample _ _ _ _ in
      let rest : List ℕ = nodes_bytes node counts m ++ trailer_bytes (samples t) m in
      (λ i. chunk (pieces f 256 ++ rest) (sym (length_samples t m node s) i) (sym long i)) ∙ cut_piece f s 256 rest l ∙ is

  pub node_filed : (x : ℕ) → x < m → node_part bytes x ≡ node_bytes node counts x
  unfolding node_part file
  node_filed x l =
      let a : List ℕ = samples_bytes t m node 256 in
      let b : List ℕ = nodes_bytes node counts m ++ trailer_bytes (samples t) m in
      let long : length a ≡ 20 * sample_total bytes = length_samples t m node 256 ∙ ap (λ n. 20 * n) (sym total_filed) in
      let back : drop (20 * sample_total bytes + 38 * x) (a ++ b) ≡ drop (38 * x) b =
      sym (drop-drop (38 * x) (20 * sample_total bytes) (a ++ b)) ∙ ap (drop (38 * x)) (drop_at a b _ long) in
      ap (take 38) back
      ∙ (λ i. chunk (nodes_bytes node counts m ++ trailer_bytes (samples t) m) (sym (length_nodes node counts x) i) (sym (length_node (node x) (counts x)) i))
      ∙ cut_piece (node_bytes node counts) x m (trailer_bytes (samples t) m) l
