-- Numbers as bytes, the low byte first, and bytes written into a buffer. Assumes nothing.
--   le2 v, le4 v            a number in two and in four bytes
--   two bs at, four bs at   the number in the two and in the four bytes from `at` on
--   chunk bs at n           the n bytes from `at` on
--   row_in bs at            the eight numbers in the sixteen bytes from `at` on
--   pieces f n              the bytes of piece 0, piece 1, .. piece n - 1 behind one another
--   row v                   eight numbers, by band or by fibre, in two bytes each
--   put xs at bs            the buffer xs with bs written from `at` on; the rest is kept
--   IsBytes bs              every number of the list is a byte
use Rattle.std.specs.Prelude.{ℕ, zero, suc, ◌+◌, ◌*◌, ◌/◌, ◌%◌, ◌<◌, List, [], ◌∷◌, ◌++◌, length, take, drop, map, slice_index}
use Rattle.std.specs.List.{range_with_len}

abbrev pub le2 : ℕ → List ℕ
le2 v = v % 256 ∷ v / 256 ∷ []

abbrev pub le4 : ℕ → List ℕ
le4 v = le2 (v % 65536) ++ le2 (v / 65536)

abbrev pub two : List ℕ → ℕ → ℕ
two bs at = slice_index bs at + 256 * slice_index bs (at + 1)

abbrev pub four : List ℕ → ℕ → ℕ
four bs at = two bs at + 65536 * two bs (at + 2)

abbrev pub chunk : List ℕ → ℕ → ℕ → List ℕ
chunk bs at n = take n (drop at bs)

unfoldable pub row_in : List ℕ → ℕ → List ℕ
row_in bs at = map (λ b. two bs (at + 2 * b)) (range_with_len 0 8)

unfoldable pub pieces : (ℕ → List ℕ) → ℕ → List ℕ
pieces f zero = []
pieces f (suc n) = pieces f n ++ f n

abbrev pub row : (ℕ → ℕ) → List ℕ
row v = pieces (λ b. le2 (v b)) 8

unfoldable pub put : List ℕ → ℕ → List ℕ → List ℕ
put xs at bs = take at xs ++ (bs ++ drop (at + length bs) xs)

abbrev pub IsBytes : List ℕ → Type 0
IsBytes bs = (i : ℕ) → slice_index bs i < 256
