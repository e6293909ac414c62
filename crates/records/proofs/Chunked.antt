-- Bytes cut out of other bytes, and the numbers that stand in them. Assumes nothing.
use Rattle.std.proofs.Common.{◌≡◌, ℕ, zero, suc, ◌+◌, ◌*◌, ◌/◌, ◌%◌, ◌<◌, ◌≤◌, List, [], ◌∷◌, ◌++◌, length, take, drop, sym, refl, ap, ◌∙◌, append_assoc, ⊎_elim, arith, length-take, length-drop, take-append-drop}
use Rattle.std.proofs.lemmas.Bool.{cases_eq}
use Rattle.std.proofs.lemmas.List.{get_or-take, get_or-drop, take-take, drop-take, drop-drop, drop_more, take_all, take_at, drop_at}
use Rattle.std.proofs.lemmas.List.FromFn.{get_or-map-range_with_len}
use Rattle.boxes.specs.Views.{entries}
use Rattle.records.specs.Bytes.{le2, le4, two, four, chunk, row_in, pieces, row, IsBytes}

pub chunk_more : (bs : List ℕ) (at a b : ℕ) → chunk bs at a ++ chunk bs (at + a) b ≡ chunk bs at (a + b)
chunk_more bs at a b =
    let xs : List ℕ = drop at bs in
    let front : take a xs ≡ take a (take (a + b) xs) = sym (take-take a (a + b) xs (omega arith)) in
    let back : take b (drop (at + a) bs) ≡ drop a (take (a + b) xs) = ap (take b) (sym (drop-drop a at bs)) ∙ sym (drop-take a b xs) in
    (λ i. front i ++ back i) ∙ take-append-drop a (take (a + b) xs)

pub chunk_all : (bs : List ℕ) (n : ℕ) → length bs ≡ n → chunk bs 0 n ≡ bs
chunk_all bs n h = take_all n bs (omega arith)

pub length_chunk : (bs : List ℕ) (at n : ℕ) → at + n ≤ length bs → length (chunk bs at n) ≡ n
length_chunk bs at n h = simp (length-take, length-drop) (omega arith)

pub chunk_at : (bs : List ℕ) (at n k : ℕ) → k < n → entries (chunk bs at n) k ≡ entries bs (at + k)
chunk_at bs at n k l = get_or-take n (drop at bs) k 0 l ∙ get_or-drop at bs k 0

pub two_chunk : (bs : List ℕ) (at n k : ℕ) → k + 2 ≤ n → two (chunk bs at n) k ≡ two bs (at + k)
two_chunk bs at n k l =
    let a = chunk_at bs at n k (omega arith) in
    let b = chunk_at bs at n (k + 1) (omega arith) in
    let e : at + (k + 1) ≡ at + k + 1 = omega arith in
    let c = ap (entries bs) e in
    omega arith

pub four_chunk : (bs : List ℕ) (at n k : ℕ) → k + 4 ≤ n → four (chunk bs at n) k ≡ four bs (at + k)
four_chunk bs at n k l =
    let e : at + (k + 2) ≡ at + k + 2 = omega arith in
    λ i. two_chunk bs at n k (omega arith) i + 65536 * (two_chunk bs at n (k + 2) (omega arith) ∙ ap (two bs) e) i

pub pair_at : (bs : List ℕ) (at : ℕ) → at + 2 ≤ length bs → entries bs at ∷ entries bs (at + 1) ∷ [] ≡ chunk bs at 2
pair_at bs at h = sym (ap (take 2) (drop_more bs at 0 (omega arith) ∙ ap (λ l. entries bs at ∷ l) (drop_more bs (at + 1) 0 (omega arith))))

-- a number that was written is read
pub two_le2 : (v : ℕ) → v % 256 + 256 * (v / 256) ≡ v
two_le2 v = omega arith

pub four_le4 : (v : ℕ) → (v % 65536 % 256 + 256 * (v % 65536 / 256)) + 65536 * (v / 65536 % 256 + 256 * (v / 65536 / 256)) ≡ v
four_le4 v = omega arith

-- a number that is read is written
module _ (bs : List ℕ) (bytes : IsBytes bs) where
  pub le2_two : (at : ℕ) → at + 2 ≤ length bs → le2 (two bs at) ≡ chunk bs at 2
  le2_two at h =
      let x = bytes at in
      let y = bytes (at + 1) in
      let low : two bs at % 256 ≡ entries bs at = omega arith in
      let high : two bs at / 256 ≡ entries bs (at + 1) = omega arith in
      (λ i. low i ∷ high i ∷ []) ∙ pair_at bs at h

  pub le4_four : (at : ℕ) → at + 4 ≤ length bs → le4 (four bs at) ≡ chunk bs at 4
  le4_four at h =
      let x = bytes at in
      let y = bytes (at + 1) in
      let low : four bs at % 65536 ≡ two bs at = omega arith in
      let high : four bs at / 65536 ≡ two bs (at + 2) = omega arith in
      (λ i. le2 (low i) ++ le2 (high i)) ∙ (λ i. le2_two at (omega arith) i ++ le2_two (at + 2) (omega arith) i) ∙ chunk_more bs at 2 2

-- pieces that are each a part of the bytes
pub pieces_chunk : (bs : List ℕ) (at w k : ℕ) (f : ℕ → List ℕ) → ((i : ℕ) → i < k → f i ≡ chunk bs (at + w * i) w) → pieces f k ≡ chunk bs at (w * k)
unfolding pieces
pieces_chunk bs at w zero f h = let e : w * zero ≡ zero = omega arith in sym (ap (chunk bs at) e)
pieces_chunk bs at w (suc k) f h =
    let e : w * k + w ≡ w * suc k = omega arith in
    (λ i. pieces_chunk bs at w k f (λ j l. h j (omega arith)) i ++ h k (omega arith) i) ∙ chunk_more bs at (w * k) w ∙ ap (chunk bs at) e

-- eight numbers
pub length_row_in : (bs : List ℕ) (at : ℕ) → length (row_in bs at) ≡ 8
unfolding row_in
length_row_in bs at = refl

pub row_in_at : (bs : List ℕ) (at b : ℕ) → b < 8 → entries (row_in bs at) b ≡ two bs (at + 2 * b)
unfolding row_in
row_in_at bs at b l = get_or-map-range_with_len (λ b. two bs (at + 2 * b)) 0 8 b b 0 l (omega arith)

pub row_row_in : (bs : List ℕ) → IsBytes bs → (at : ℕ) → at + 16 ≤ length bs → row (entries (row_in bs at)) ≡ chunk bs at 16
row_row_in bs bytes at h =
    pieces_chunk bs at 2 8 (λ b. le2 (entries (row_in bs at) b)) (λ b l. ap le2 (row_in_at bs at b l) ∙ le2_two bs bytes (at + 2 * b) (omega arith))

-- a piece, cut out of what the pieces make
pub cut_piece : (f : ℕ → List ℕ) (s k : ℕ) (rest : List ℕ) → s < k → chunk (pieces f k ++ rest) (length (pieces f s)) (length (f s)) ≡ f s
unfolding pieces
cut_piece f s zero rest l = absurd (omega arith)
cut_piece f s (suc k) rest l =
    ap (λ bs. chunk bs (length (pieces f s)) (length (f s))) (append_assoc (pieces f k) (f k) rest)
    ∙ ⊎_elim
    (λ (e : s ≡ k). rw e (ap (take (length (f k))) (drop_at (pieces f k) (f k ++ rest) (length (pieces f k)) refl) ∙ take_at (f k) rest (length (f k)) refl))
    (λ ne. cut_piece f s k (f k ++ rest) (omega arith)) (cases_eq s k)
