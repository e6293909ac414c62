-- What a file describes is written as the same file. Assumes nothing.
use Rattle.std.proofs.Common.{◌≡◌, ℕ, zero, suc, ◌+◌, ◌-◌, ◌*◌, ◌<◌, ◌≤◌, Bool, true, false, cond, List, [], ◌++◌, sym, refl, ap, ◌∙◌, arith}
use Rattle.std.proofs.lemmas.List.{append-nil}
use Rattle.ranking.specs.Counts.{bit, count}
use Rattle.ranking.proofs.Counted.{count_ext}
use Rattle.boxes.specs.Views.{entries}
use Rattle.samples.specs.Slots.{Table, held, values_at}
use Rattle.samples.specs.Verdict.{samples}
use Rattle.trees.specs.Trees.{Node, reached}
use Rattle.records.specs.Bytes.{two, chunk, pieces, IsBytes}
use Rattle.records.specs.Described.{SameTree, Describes}
use Rattle.records.specs.Format.{sample_record, node_record, sample_bytes, node_bytes, samples_bytes, nodes_bytes, trailer_bytes, file}
use Rattle.records.specs.Parts.{slot_in, fibre_in, leaf_in, values_in}
use Rattle.records.specs.Readings.{end, sample_total, node_total, sample_part, node_part, tree_in, counts_in, table_in}
use Rattle.records.specs.Rules.{Keeps}
use Rattle.records.proofs.Chunked.{chunk_more, chunk_all, chunk_at, two_chunk, four_chunk, length_chunk, pieces_chunk}
use Rattle.records.proofs.Likened.{alike_back, reached_same}
use Rattle.records.proofs.Loaded.{slot_is_byte, recorded}
use Rattle.records.proofs.Rewritten.{chunk_bytes, sample_again, node_again, trailer_again, sample_same, node_same}
use Rattle.records.proofs.Slotted.{samples_upto}

pub tree_back : (m : ℕ) (p q : ℕ → Node) → SameTree m p q → SameTree m q p
tree_back m p q same x l = let s = same x l in (sym s.0, alike_back _ _ s.1, sym s.2, sym s.3)

module _ (bs : List ℕ) (bytes : IsBytes bs) (k : Keeps bs) where
  sample_part_again : (i : ℕ) → i < sample_total bs →
      sample_record (slot_in (sample_part bs i)) (fibre_in (sample_part bs i)) (leaf_in (sample_part bs i)) (entries (values_in (sample_part bs i))) ≡ sample_part bs i
  unfolding sample_part
  sample_part_again i l = sample_again (chunk bs (20 * i) 20) (chunk_bytes bs (20 * i) 20 bytes) (length_chunk bs (20 * i) 20 (omega (arith, k.size)))

  node_part_again : (x : ℕ) → x < node_total bs → node_record (tree_in bs x) (counts_in bs x) ≡ node_part bs x
  unfolding node_part
  node_part_again x l =
      node_again (chunk bs (20 * sample_total bs + 38 * x) 38) (chunk_bytes bs (20 * sample_total bs + 38 * x) 38 bytes) (length_chunk bs (20 * sample_total bs + 38 * x) 38 (omega (arith, k.size))) (k.kinds x l)

  module _ (t : Table) (m : ℕ) (node : ℕ → Node) (counts : ℕ → ℕ → ℕ) (d : Describes bs t m node counts) where
    leaf_says : (s i : ℕ) → i < sample_total bs → ((b : ℕ) → b < 8 → entries (values_at t s) b ≡ entries (values_in (sample_part bs i)) b) → reached node (entries (values_at t s)) (m - 1) ≡ leaf_in (sample_part bs i)
    leaf_says s i l v =
        sym
        (k.leaves i l
        ∙ reached_same (node_total bs) (tree_in bs) node (λ x a. tree_back m node (tree_in bs) d.nodes x (omega (arith, d.size))) k.tree (entries (values_in (sample_part bs i))) (entries (values_at t s)) (λ b c. sym (v b c)) (node_total bs - 1) (omega (arith, k.totals.1))
        ∙ ap (λ n. reached node (entries (values_at t s)) (n - 1)) (sym d.size))

    sample_says : (s : ℕ) → s < 256 → held t s ≡ true → sample_bytes t m node s ≡ sample_part bs (count (held t) s)
    sample_says s l h =
        let (i, r) = recorded bs bytes (sample_total bs) k.rising s l (sym (d.samples.held s l) ∙ h) in
        let fibre = d.samples.fibre s l ∙ r.fibre in
        let value = λ (b : ℕ) (c : b < 8). d.samples.values s b l c ∙ ap (λ vs. entries vs b) r.values in
        let leaf = leaf_says s i r.below value in
        let number = count_ext (held t) (held (table_in bs)) s (λ z q. d.samples.held z (omega arith)) ∙ r.number in
        sample_same s _ _ _ _ _ _ fibre leaf value
        ∙ ap (λ z. sample_record z (fibre_in (sample_part bs i)) (leaf_in (sample_part bs i)) (entries (values_in (sample_part bs i)))) (sym r.slot)
        ∙ sample_part_again i r.below ∙ ap (sample_part bs) (sym number)

    samples_again : (n : ℕ) → n ≤ 256 → samples_bytes t m node n ≡ chunk bs 0 (20 * count (held t) n)
    unfolding pieces count sample_part
    samples_again zero l = refl
    samples_again (suc n) l = go (samples_again n (omega arith)) (held t n) refl
      where
        go : samples_bytes t m node n ≡ chunk bs 0 (20 * count (held t) n) → (b : Bool) → held t n ≡ b → samples_bytes t m node n ++ cond (held t n) (sample_bytes t m node n) [] ≡ chunk bs 0 (20 * (bit (held t n) + count (held t) n))
        go before true h =
            let z : 0 + 20 * count (held t) n ≡ 20 * count (held t) n = omega arith in
            let e : 20 * count (held t) n + 20 ≡ 20 * (1 + count (held t) n) = omega arith in
            (λ i. before i ++ cond (h i) (sample_bytes t m node n) [])
            ∙ (λ i. chunk bs 0 (20 * count (held t) n) ++ sample_says n l h i)
            ∙ (λ i. chunk bs 0 (20 * count (held t) n) ++ chunk bs (sym z i) 20)
            ∙ chunk_more bs 0 (20 * count (held t) n) 20 ∙ ap (chunk bs 0) (e ∙ λ i. 20 * (bit (sym h i) + count (held t) n))
        go before false h =
            (λ i. before i ++ cond (h i) (sample_bytes t m node n) []) ∙ append-nil (chunk bs 0 (20 * count (held t) n)) ∙ ap (chunk bs 0) (let b : bit (held t n) ≡ 0 = ap bit h in let e : 20 * count (held t) n ≡ 20 * (bit (held t n) + count (held t) n) = omega arith in e)

    node_says : (x : ℕ) → x < m → node_bytes node counts x ≡ chunk bs (20 * sample_total bs + 38 * x) 38
    unfolding node_part
    node_says x l = node_same (node x) (tree_in bs x) (counts x) (counts_in bs x) (d.nodes x l) (λ f c. d.counts x f l c) ∙ node_part_again x (omega (arith, d.size))

    nodes_again : nodes_bytes node counts m ≡ chunk bs (20 * sample_total bs) (38 * m)
    nodes_again = pieces_chunk bs (20 * sample_total bs) 38 m (node_bytes node counts) node_says

    total_again : samples t ≡ sample_total bs
    total_again =
        count_ext (held t) (held (table_in bs)) 256 (λ s l. d.samples.held s l) ∙ samples_upto bs (sample_total bs) k.rising (λ i _. slot_is_byte bs i bytes)

    end_again : trailer_bytes (sample_total bs) (node_total bs) ≡ chunk bs (end bs) 14
    end_again =
        let zero' : end bs + 0 ≡ end bs = omega arith in
        let long = length_chunk bs (end bs) 14 (omega (arith, k.trailer)) in
        let r = chunk_bytes bs (end bs) 14 bytes in
        trailer_again (chunk bs (end bs) 14) r (sample_total bs) (node_total bs) long
        (two_chunk bs (end bs) 14 0 (omega arith) ∙ ap (two bs) zero') (two_chunk bs (end bs) 14 2 (omega arith))
        (four_chunk bs (end bs) 14 4 (omega arith) ∙ k.to_nodes) (four_chunk bs (end bs) 14 8 (omega arith) ∙ k.to_samples)
        (chunk_at bs (end bs) 14 12 (omega arith) ∙ k.mark.0) (chunk_at bs (end bs) 14 13 (omega arith) ∙ k.mark.1)

    pub file_again : file t m node counts ≡ bs
    unfolding file
    file_again =
        let n = sample_total bs in
        let a = samples_again 256 (omega arith) ∙ ap (λ c. chunk bs 0 (20 * c)) total_again in
        let c = (λ i. trailer_bytes (total_again i) (d.size i)) ∙ end_again in
        let e : end bs ≡ 20 * n + 38 * m = omega (arith, k.size, d.size) in
        let z : 0 + 20 * n ≡ 20 * n = omega arith in
        (λ i. a i ++ (nodes_again i ++ (c ∙ ap (λ p. chunk bs p 14) e) i))
        ∙ (λ i. chunk bs 0 (20 * n) ++ chunk_more bs (20 * n) (38 * m) 14 i)
        ∙ (λ i. chunk bs 0 (20 * n) ++ chunk bs (sym z i) (38 * m + 14))
        ∙ chunk_more bs 0 (20 * n) (38 * m + 14) ∙ chunk_all bs (20 * n + (38 * m + 14)) (omega (arith, k.size, d.size))
