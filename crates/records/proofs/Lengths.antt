-- How long the records of a written file are, and the file. Assumes nothing.
use Rattle.std.proofs.Common.{◌≡◌, ℕ, zero, suc, ◌+◌, ◌-◌, ◌*◌, ◌<◌, ◌≤◌, Bool, true, false, cond, List, [], ◌++◌, length, sym, refl, ap, ◌∙◌, ⊎_elim, add-zero, add-suc, arith, length-append}
use Rattle.std.proofs.lemmas.Bool.{cases_eq}
use Rattle.std.proofs.lemmas.List.{append-nil}
use Rattle.ranking.proofs.Counted.{count_more}
use Rattle.ranking.specs.Counts.{bit, count}
use Rattle.samples.specs.Slots.{Table, held}
use Rattle.samples.specs.Verdict.{samples}
use Rattle.trees.specs.Trees.{Node}
use Rattle.records.specs.Bytes.{pieces, row}
use Rattle.records.specs.Format.{sample_record, node_record, sample_bytes, node_bytes, samples_bytes, nodes_bytes, trailer_bytes, file}
use Rattle.records.proofs.Putting.{length_pieces, length_row}

pub length_sample : (slot fibre number : ℕ) (v : ℕ → ℕ) → length (sample_record slot fibre number v) ≡ 20
unfolding sample_record
length_sample slot fibre number v = let l = length_row v in omega arith

pub length_node : (x : Node) (tally : ℕ → ℕ) → length (node_record x tally) ≡ 38
unfolding node_record
length_node x tally =
    let a = length_row x.box.corner in
    let b = length_row tally in
    let both = length-append (row x.box.corner) (row tally) in
    omega arith

pub length_trailer : (n m : ℕ) → length (trailer_bytes n m) ≡ 14
unfolding trailer_bytes
length_trailer n m = refl

pub count_grows : (p : ℕ → Bool) (n k : ℕ) → count p n ≤ count p (n + k)
unfolding count
count_grows p n zero = let e = ap (count p) (add-zero n) in omega arith
count_grows p n (suc k) = let i = count_grows p n k in let e = ap (count p) (add-suc n k) in omega arith

-- before a slot that passes there are fewer than in all
pub count_before : (p : ℕ → Bool) (s n : ℕ) → s < n → p s ≡ true → count p s < count p n
count_before p s n l h =
    let more = count_more p s in
    let one : bit (p s) ≡ 1 = ap bit h in
    let upto = count_grows p (s + 1) (n - (s + 1)) in
    let e : s + 1 + (n - (s + 1)) ≡ n = omega arith in
    let all = ap (count p) e in
    omega arith

length_cond : (b : Bool) (bs : List ℕ) → length bs ≡ 20 → length (cond b bs []) ≡ 20 * bit b
length_cond true bs h = h
length_cond false bs h = refl

pub length_samples : (t : Table) (m : ℕ) (node : ℕ → Node) (n : ℕ) → length (samples_bytes t m node n) ≡ 20 * count (held t) n
unfolding pieces count
length_samples t m node zero = refl
length_samples t m node (suc n) =
    let one = length_cond (held t n) (sample_bytes t m node n) (length_sample _ _ _ _) in
    let rest = length_samples t m node n in
    length-append (samples_bytes t m node n) _ ∙ omega arith

pub length_nodes : (node : ℕ → Node) (counts : ℕ → ℕ → ℕ) (n : ℕ) → length (nodes_bytes node counts n) ≡ 38 * n
length_nodes node counts n = length_pieces (node_bytes node counts) 38 (λ _. length_node _ _) n

pub length_file : (t : Table) (m : ℕ) (node : ℕ → Node) (counts : ℕ → ℕ → ℕ) → length (file t m node counts) ≡ 20 * samples t + 38 * m + 14
unfolding file
length_file t m node counts =
    let a = length_samples t m node 256 in
    let b = length_nodes node counts m in
    let c = length_trailer (samples t) m in
    length-append (samples_bytes t m node 256) _ ∙ (let e = length-append (nodes_bytes node counts m) (trailer_bytes (samples t) m) in omega arith)

-- slots that hold nothing add no bytes
pub nothing_between : (t : Table) (m : ℕ) (node : ℕ → Node) (s i : ℕ) → s ≤ i → ((k : ℕ) → s ≤ k → k < i → held t k ≡ false) → samples_bytes t m node s ≡ samples_bytes t m node i
unfolding pieces
nothing_between t m node s zero le none = let e : s ≡ zero = omega arith in ap (samples_bytes t m node) e
nothing_between t m node s (suc i) le none =
    ⊎_elim (λ (e : s ≡ suc i). ap (samples_bytes t m node) e)
    (λ ne.
    let before = nothing_between t m node s i (omega arith) (λ k a b. none k a (omega arith)) in
    let empty = none i (omega arith) (omega arith) in
    let last : cond (held t i) (sample_bytes t m node i) [] ≡ [] = ap (λ b. cond b (sample_bytes t m node i) []) empty in
    before ∙ sym (append-nil (samples_bytes t m node i)) ∙ ap (λ l. samples_bytes t m node i ++ l) (sym last))
    (cases_eq s (suc i))
