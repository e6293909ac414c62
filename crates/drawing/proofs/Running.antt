-- Lists of slots, by how many of them pass a test: one slot more, and what a list holds. Assumes nothing.
use Rattle.std.proofs.Common.{◌≡◌, ℕ, suc, ◌+◌, ◌<◌, Bool, true, false, ◌&&◌, List, [], ◌∷◌, ◌++◌, length, get_or, cond, count_by, sum_by, sym, refl, ap, arith}
use Rattle.std.proofs.lemmas.List.Sums.{sum_by-cons, sum_by_push}
use Rattle.ranking.specs.Counts.{count}
use Rattle.ranking.proofs.Counted.{count_zero, count_more, count_ext}
use Rattle.drawing.specs.Runs.{Holds}

pub count_by_all : (xs : List ℕ) → count_by (λ s. true) xs ≡ length xs
count_by_all [] = refl
count_by_all (x ∷ xs) = let a = sum_by-cons (λ (s : ℕ). 1) x xs in let i = count_by_all xs in omega arith

-- sums compare where their terms do, place by place
pub sum_by_ext : (f g : ℕ → ℕ) (xs : List ℕ) → ((k : ℕ) → k < length xs → f (get_or xs k 0) ≡ g (get_or xs k 0)) → sum_by f xs ≡ sum_by g xs
sum_by_ext f g [] h = refl
sum_by_ext f g (x ∷ xs) h =
    let a = sum_by-cons f x xs in
    let b = sum_by-cons g x xs in
    let i = sum_by_ext f g xs (λ k l. h (suc k) (omega arith)) in
    let e = h 0 (omega arith) in
    grind arith

pub sum_by_none : (f : ℕ → ℕ) (xs : List ℕ) → ((k : ℕ) → k < length xs → f (get_or xs k 0) ≡ 0) → sum_by f xs ≡ 0
sum_by_none f [] h = refl
sum_by_none f (x ∷ xs) h =
    let a = sum_by-cons f x xs in
    let i = sum_by_none f xs (λ k l. h (suc k) (omega arith)) in
    let e = h 0 (omega arith) in
    grind arith

-- and so do counts, where the tests do
pub count_by_ext : (p q : ℕ → Bool) (xs : List ℕ) → ((k : ℕ) → k < length xs → p (get_or xs k 0) ≡ q (get_or xs k 0)) → count_by p xs ≡ count_by q xs
count_by_ext p q xs h = sum_by_ext (λ s. cond (p s) 1 0) (λ s. cond (q s) 1 0) xs (λ k l. ap (λ b. cond b 1 0) (h k l))

pub count_by_none : (p : ℕ → Bool) (xs : List ℕ) → ((k : ℕ) → k < length xs → p (get_or xs k 0) ≡ false) → count_by p xs ≡ 0
count_by_none p xs h = sum_by_none (λ s. cond (p s) 1 0) xs (λ k l. ap (λ b. cond b 1 0) (h k l))

-- a list that takes in slot by slot
module _ (p : ℕ → Bool) where
  pub holds_none : Holds p 0 []
  holds_none q = sym (count_zero (λ s. p s && q s))

  pub holds_skip : (n : ℕ) (xs : List ℕ) → p n ≡ false → Holds p n xs → Holds p (n + 1) xs
  holds_skip n xs e h q = let a = h q in let b = count_more (λ s. p s && q s) n in grind arith

  pub holds_push : (n : ℕ) (xs : List ℕ) → p n ≡ true → Holds p n xs → Holds p (n + 1) (xs ++ n ∷ [])
  holds_push n xs e h q = let a = h q in let b = count_more (λ s. p s && q s) n in let c = sum_by_push (λ s. cond (q s) 1 0) xs n in grind arith

  pub holds_length : (n : ℕ) (xs : List ℕ) → Holds p n xs → length xs ≡ count p n
  holds_length n xs h =
      let ones = count_by_all xs in
      let all = h (λ s. true) in
      let same = count_ext (λ s. p s && true) p n (λ s l. grind arith) in
      omega arith
