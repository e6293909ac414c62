-- What is written piece by piece. Assumes nothing.
use Rattle.std.proofs.Common.{◌≡◌, ℕ, zero, suc, ◌+◌, ◌*◌, ◌≤◌, List, [], ◌++◌, length, take, drop, sym, refl, ap, ◌∙◌, append_assoc, add-zero, mul-zero, zero-add, mul-suc, add-one, arith, length-append, length-drop, take-append-drop, length-take}
use Rattle.std.proofs.lemmas.List.{take_at, drop_at, drop-drop, length-take-le}
use Rattle.records.specs.Bytes.{put, pieces, le2, row}

pub put_none : (xs : List ℕ) (at : ℕ) → xs ≡ put xs at []
unfolding put
put_none xs at = sym (rw (add-zero at) (take-append-drop at xs))

pub put_front : (xs bs : List ℕ) → put xs 0 bs ≡ bs ++ drop (length bs) xs
unfolding put
put_front xs bs = ap (λ n. bs ++ drop n xs) (zero-add (length bs))

pub length_put : (xs : List ℕ) (at : ℕ) (bs : List ℕ) → at + length bs ≤ length xs → length (put xs at bs) ≡ length xs
unfolding put
length_put xs at bs h = simp (length-append, length-take, length-drop) (omega arith)

-- bs behind cs, which was written from `at` on
pub put_put : (xs : List ℕ) (at : ℕ) (cs bs : List ℕ) (to : ℕ) → at + length cs ≡ to → to ≤ length xs → put (put xs at cs) to bs ≡ put xs at (cs ++ bs)
unfolding put
put_put xs at cs bs to e h =
    let whole : put xs at cs ≡ (take at xs ++ cs) ++ drop (at + length cs) xs = sym (append_assoc (take at xs) cs _) in
    let long : length (take at xs ++ cs) ≡ to = length-append (take at xs) cs ∙ ap (λ n. n + length cs) (length-take-le at xs (omega arith)) ∙ e in
    let front : take to (put xs at cs) ≡ take at xs ++ cs = ap (take to) whole ∙ take_at (take at xs ++ cs) _ to long in
    let back : drop (to + length bs) (put xs at cs) ≡ drop (at + length (cs ++ bs)) xs =
    sym (drop-drop (length bs) to (put xs at cs)) ∙ ap (drop (length bs)) (ap (drop to) whole ∙ drop_at (take at xs ++ cs) _ to long)
    ∙ drop-drop (length bs) (at + length cs) xs ∙ ap (λ n. drop n xs) (let l = length-append cs bs in omega arith)
    in
    (λ i. front i ++ (bs ++ back i)) ∙ append_assoc (take at xs) cs _ ∙ ap (λ l. take at xs ++ l) (sym (append_assoc cs bs _))

pub pieces_none : (f : ℕ → List ℕ) → pieces f 0 ≡ []
unfolding pieces
pieces_none f = refl

pub pieces_more : (f : ℕ → List ℕ) (n : ℕ) → pieces f (n + 1) ≡ pieces f n ++ f n
unfolding pieces
pieces_more f n = ap (pieces f) (add-one n)

-- pieces of k bytes each
pub length_pieces : (f : ℕ → List ℕ) (k : ℕ) → ((i : ℕ) → length (f i) ≡ k) → (n : ℕ) → length (pieces f n) ≡ k * n
unfolding pieces
length_pieces f k h zero = sym (mul-zero k)
length_pieces f k h (suc n) =
    length-append (pieces f n) (f n) ∙ (let a = h n in let b = length_pieces f k h n in omega (arith, mul-suc k n))

pub length_row : (v : ℕ → ℕ) → length (row v) ≡ 16
length_row v = length_pieces (λ b. le2 (v b)) 2 (λ _. refl) 8
