-- What a file describes is written as the same bytes: its records. Assumes nothing.
use Rattle.std.proofs.Common.{◌≡◌, ℕ, zero, suc, ◌+◌, ◌*◌, ◌<◌, ◌≤◌, List, [], ◌∷◌, ◌++◌, length, sym, refl, ap, ◌∙◌, ⊎_elim, arith, length-take}
use Rattle.std.proofs.lemmas.Bool.{cases_lt}
use Rattle.std.proofs.lemmas.List.{get_or_past}
use Rattle.boxes.specs.Views.{entries}
use Rattle.trees.specs.Drawing.{Is}
use Rattle.trees.specs.Trees.{Node}
use Rattle.records.specs.Bytes.{le2, le4, two, four, chunk, row_in, pieces, row, IsBytes}
use Rattle.records.specs.Format.{kind_code, sample_record, node_record, trailer_bytes}
use Rattle.records.specs.Parts.{slot_in, fibre_in, leaf_in, values_in, code_in, coded, node_in, tally_in}
use Rattle.records.proofs.Chunked.{chunk_more, chunk_all, chunk_at, pair_at, le2_two, le4_four, row_row_in}

-- bytes cut out of bytes
pub chunk_bytes : (bs : List ℕ) (at n : ℕ) → IsBytes bs → IsBytes (chunk bs at n)
chunk_bytes bs at n bytes k =
    ⊎_elim (λ (l : k < n). let e = chunk_at bs at n k l in let b = bytes (at + k) in omega arith)
    (λ (l : n ≤ k). let e = get_or_past (chunk bs at n) k 0 (omega (arith, length_chunk_le bs at n)) in omega arith) (cases_lt k n)
  where
    length_chunk_le : (bs : List ℕ) (at n : ℕ) → length (chunk bs at n) ≤ n
    length_chunk_le bs at n = simp length-take (omega arith)

pieces_same : (f g : ℕ → List ℕ) (n : ℕ) → ((i : ℕ) → i < n → f i ≡ g i) → pieces f n ≡ pieces g n
unfolding pieces
pieces_same f g zero h = refl
pieces_same f g (suc n) h = λ i. pieces_same f g n (λ j l. h j (omega arith)) i ++ h n (omega arith) i

row_same : (v w : ℕ → ℕ) → ((b : ℕ) → b < 8 → v b ≡ w b) → row v ≡ row w
row_same v w h = pieces_same (λ b. le2 (v b)) (λ b. le2 (w b)) 8 (λ b l. ap le2 (h b l))

code_coded : (c : ℕ) → c ≤ 2 → kind_code (coded c) ≡ c
code_coded zero l = refl
code_coded (suc zero) l = refl
code_coded (suc (suc zero)) l = refl
code_coded (suc (suc (suc c))) l = absurd (omega arith)

module _ (r : List ℕ) (bytes : IsBytes r) where
  pub sample_again : length r ≡ 20 → sample_record (slot_in r) (fibre_in r) (leaf_in r) (entries (values_in r)) ≡ r
  unfolding sample_record
  sample_again l =
      let a = pair_at r 0 (omega arith) in
      let b = le2_two r bytes 2 (omega arith) in
      let c = row_row_in r bytes 4 (omega arith) in
      (λ i. a i ++ (b i ++ c i)) ∙ (λ i. chunk r 0 2 ++ chunk_more r 2 2 16 i) ∙ chunk_more r 0 2 18 ∙ chunk_all r 20 l

  pub node_again : length r ≡ 38 → code_in r ≤ 2 → node_record (node_in r) (entries (tally_in r)) ≡ r
  unfolding node_record node_in
  node_again l k =
      let a = pair_at r 0 (omega arith) in
      let b = le2_two r bytes 2 (omega arith) in
      let c = le2_two r bytes 4 (omega arith) in
      let d = row_row_in r bytes 6 (omega arith) in
      let e = row_row_in r bytes 22 (omega arith) in
      (λ i. code_coded (code_in r) k i ∷ entries r 1 ∷ (le2 (two r 2) ++ (le2 (two r 4) ++ (row (entries (row_in r 6)) ++ row (entries (tally_in r))))))
      ∙ (λ i. a i ++ (b i ++ (c i ++ (d i ++ e i))))
      ∙ (λ i. chunk r 0 2 ++ (chunk r 2 2 ++ (chunk r 4 2 ++ chunk_more r 6 16 16 i)))
      ∙ (λ i. chunk r 0 2 ++ (chunk r 2 2 ++ chunk_more r 4 2 32 i))
      ∙ (λ i. chunk r 0 2 ++ chunk_more r 2 2 34 i)
      ∙ chunk_more r 0 2 36 ∙ chunk_all r 38 l

  pub trailer_again : (n m : ℕ) → length r ≡ 14 → two r 0 ≡ n → two r 2 ≡ m → four r 4 ≡ 38 * m → four r 8 ≡ 38 * m + 20 * n → entries r 12 ≡ 0x46 → entries r 13 ≡ 0x36
      → trailer_bytes n m ≡ r
  unfolding trailer_bytes
  trailer_again n m l a b c d e f =
      let p = ap le2 (sym a) ∙ le2_two r bytes 0 (omega arith) in
      let q = ap le2 (sym b) ∙ le2_two r bytes 2 (omega arith) in
      let s = ap le4 (sym c) ∙ le4_four r bytes 4 (omega arith) in
      let t = ap le4 (sym d) ∙ le4_four r bytes 8 (omega arith) in
      let u = (λ i. sym e i ∷ sym f i ∷ []) ∙ pair_at r 12 (omega arith) in
      (λ i. p i ++ (q i ++ (s i ++ (t i ++ u i))))
      ∙ (λ i. chunk r 0 2 ++ (chunk r 2 2 ++ (chunk r 4 4 ++ chunk_more r 8 4 2 i)))
      ∙ (λ i. chunk r 0 2 ++ (chunk r 2 2 ++ chunk_more r 4 4 6 i))
      ∙ (λ i. chunk r 0 2 ++ chunk_more r 2 2 10 i)
      ∙ chunk_more r 0 2 12 ∙ chunk_all r 14 l

-- records that say the same
pub sample_same : (s f g l k : ℕ) (v w : ℕ → ℕ) → f ≡ g → l ≡ k → ((b : ℕ) → b < 8 → v b ≡ w b) → sample_record s f l v ≡ sample_record s g k w
unfolding sample_record
sample_same s f g l k v w e h values = let r = row_same v w values in λ i. s ∷ e i ∷ (le2 (h i) ++ r i)

pub node_same : (x y : Node) (c d : ℕ → ℕ) → Is x y.kind y.box y.first y.second → ((f : ℕ) → f < 8 → c f ≡ d f) → node_record x c ≡ node_record y d
unfolding node_record
node_same x y c d same tally =
    let corner = row_same x.box.corner y.box.corner same.1.1 in
    let counts = row_same c d tally in
    λ i. kind_code (same.0 i) ∷ same.1.0 i ∷ (le2 (same.2 i) ++ (le2 (same.3 i) ++ (corner i ++ counts i)))
