-- What a cursor wrote, piece by piece. Assumes nothing.
use Rattle.std.proofs.Common.{◌≡◌, ℕ, ◌+◌, ◌/◌, ◌%◌, ◌<◌, List, [], ◌∷◌, ◌++◌, length, drop, refl, ap, ◌∙◌, arith, length-append}
use Rattle.std.specs.Int.{w16, w32, to_le_bytes}
use Rattle.records.specs.Bytes.{put, pieces, le2, le4}
use Rattle.fieldfile.specs.Cursors.{Adds}
use Rattle.fieldfile.specs.declared.cursor.Cursor.{Cursor}
use Rattle.records.proofs.Putting.{put_none, put_front, put_put, pieces_none, pieces_more}

-- the same bytes, told otherwise
pub adds_as : {a b : Cursor} {xs ys : List ℕ} → Adds a b xs → xs ≡ ys → Adds a b ys
adds_as adds e = rw e at adds

-- a number's bytes, as the library makes them
le2_bytes : (v : ℕ) → v < 65536 → to_le_bytes w16 v ≡ le2 v
le2_bytes v h = let e : v / 256 % 256 ≡ v / 256 = omega arith in ap (λ b. v % 256 ∷ b ∷ []) e

le4_bytes : (v : ℕ) → v < 4294967296 → to_le_bytes w32 v ≡ le4 v
le4_bytes v h =
    let a : v % 256 ≡ v % 65536 % 256 = omega arith in
    let b : v / 256 % 256 ≡ v % 65536 / 256 = omega arith in
    let d : v / 16777216 % 256 ≡ v / 65536 / 256 = omega arith in
    λ i. a i ∷ b i ∷ v / 65536 % 256 ∷ d i ∷ []

-- a number was written as the library makes its bytes
pub adds_le2 : {a b : Cursor} {bs : List ℕ} (v : ℕ) → v < 65536 → bs ≡ to_le_bytes w16 v → Adds a b bs → Adds a b (le2 v)
adds_le2 v h e adds = adds_as adds (e ∙ le2_bytes v h)

pub adds_le4 : {a b : Cursor} {bs : List ℕ} (v : ℕ) → v < 4294967296 → bs ≡ to_le_bytes w32 v → Adds a b bs → Adds a b (le4 v)
adds_le4 v h e adds = adds_as adds (e ∙ le4_bytes v h)

-- nothing, and more behind what was written
pub adds_none : (a : Cursor) → Adds a a []
adds_none a = record { buffer = refl; bytes = put_none _ _; at = omega arith; left = omega arith }

pub adds_then : {a b c : Cursor} {xs ys : List ℕ} → Adds a b xs → Adds b c ys → Adds a c (xs ++ ys)
adds_then {a} {b} {c} {xs} {ys} first then' =
    let long : length b.out.now ≡ length a.out.now = omega (arith, a.within, b.within) in
    let both = length-append xs ys in
    record {
      buffer = then'.buffer ∙ first.buffer;
      bytes = then'.bytes ∙ (λ i. put (first.bytes i) b.at ys) ∙ put_put a.out.now a.at xs ys b.at (omega arith) (omega (arith, b.within));
      at = omega arith;
      left = omega arith;
    }

-- a first piece, and one piece more
pub adds_no_pieces : (a : Cursor) (f : ℕ → List ℕ) → Adds a a (pieces f 0)
adds_no_pieces a f = rw (pieces_none f) (adds_none a)

pub adds_piece : {a b c : Cursor} (f : ℕ → List ℕ) (n : ℕ) → Adds a b (pieces f n) → Adds b c (f n) → Adds a c (pieces f (n + 1))
adds_piece {a} {b} {c} f n first then' = let all = adds_then first then' in rw (pieces_more f n) all

-- all that was written from the front of the buffer xs
pub adds_front : {a b : Cursor} {xs bs : List ℕ} → a.out.now ≡ xs → a.at ≡ 0 → Adds a b bs → b.out.now ≡ bs ++ drop (length bs) xs
adds_front {a} {b} {xs} {bs} same front adds = adds.bytes ∙ (λ i. put (same i) (front i) bs) ∙ put_front xs bs
