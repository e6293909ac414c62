-- Sums over the items of a list that pass a test, and over all. Assumes nothing.
use Rattle.std.proofs.Common.{◌≡◌, ℕ, ◌+◌, ◌<◌, ◌≤◌, Bool, true, false, cond, suc, List, [], ◌∷◌, length, get_or, sum_by, refl, ap, arith}
use Rattle.std.specs.List.{All, filter}
use Rattle.std.proofs.lemmas.List.Elements.{All-head, All-tail}
use Rattle.std.proofs.lemmas.List.Sums.{sum_by-cons, sum_by_more, sum_by-take-le}
use Rattle.ranking.specs.Counts.{bit}

module _ {X : Type 0} where
  -- one item more under a filter
  pub sum_filter-cons : (f : X → ℕ) (q : X → Bool) (x : X) (xs : List X) → sum_by f (filter q (x ∷ xs)) ≡ cond (q x) (f x) 0 + sum_by f (filter q xs)
  sum_filter-cons f q x xs = go (q x)
    where
      go : (b : Bool) → sum_by f (cond b (x ∷ filter q xs) (filter q xs)) ≡ cond b (f x) 0 + sum_by f (filter q xs)
      go true = sum_by-cons f x (filter q xs)
      go false = omega arith

  pub sum_ext : (f g : X → ℕ) (xs : List X) → All (λ x. f x ≡ g x) xs → sum_by f xs ≡ sum_by g xs
  sum_ext f g [] a = refl
  sum_ext f g (x ∷ xs) a =
      let h : f x ≡ g x = All-head (λ y. f y ≡ g y) x xs a in
      let i : sum_by f xs ≡ sum_by g xs = sum_ext f g xs (All-tail (λ y. f y ≡ g y) x xs a) in
      omega (arith, sum_by-cons f x xs, sum_by-cons g x xs)

  pub sum_le : (f g : X → ℕ) (xs : List X) → All (λ x. f x ≤ g x) xs → sum_by f xs ≤ sum_by g xs
  sum_le f g [] a = omega arith
  sum_le f g (x ∷ xs) a =
      let h : f x ≤ g x = All-head (λ y. f y ≤ g y) x xs a in
      let i : sum_by f xs ≤ sum_by g xs = sum_le f g xs (All-tail (λ y. f y ≤ g y) x xs a) in
      omega (arith, sum_by-cons f x xs, sum_by-cons g x xs)

  pub sum_none : (f : X → ℕ) (xs : List X) → All (λ x. f x ≡ 0) xs → sum_by f xs ≡ 0
  sum_none f [] a = refl
  sum_none f (x ∷ xs) a =
      let h : f x ≡ 0 = All-head (λ y. f y ≡ 0) x xs a in
      let i : sum_by f xs ≡ 0 = sum_none f xs (All-tail (λ y. f y ≡ 0) x xs a) in
      omega (arith, sum_by-cons f x xs)

  pub sum_add : (f g h : X → ℕ) (xs : List X) → ((x : X) → f x ≡ g x + h x) → sum_by f xs ≡ sum_by g xs + sum_by h xs
  sum_add f g h [] e = refl
  sum_add f g h (x ∷ xs) e = omega (arith, sum_by-cons f x xs, sum_by-cons g x xs, sum_by-cons h x xs, e x, sum_add f g h xs e)

  -- a filter as a sum over all
  pub sum_filter : (f : X → ℕ) (q : X → Bool) (xs : List X) → sum_by f (filter q xs) ≡ sum_by (λ x. cond (q x) (f x) 0) xs
  sum_filter f q [] = refl
  sum_filter f q (x ∷ xs) = omega (arith, sum_filter-cons f q x xs, sum_by-cons (λ y. cond (q y) (f y) 0) x xs, sum_filter f q xs)

  -- no item has more than all
  pub sum_at : (f : X → ℕ) (xs : List X) (i : ℕ) (d : X) → i < length xs → f (get_or xs i d) ≤ sum_by f xs
  sum_at f xs i d l = omega (arith, sum_by_more f xs i d l, sum_by-take-le f xs (i + 1))

  -- where some are counted, one is found
  pub sum_find : (q : X → Bool) (xs : List X) → 0 < sum_by (λ x. bit (q x)) xs → (i : ℕ) × (i < length xs) × ((d : X) → q (get_or xs i d) ≡ true)
  sum_find q [] h = absurd (omega arith)
  sum_find q (x ∷ xs) h = go (sum_find q xs) (q x) refl
    where
      go : (0 < sum_by (λ y. bit (q y)) xs → (i : ℕ) × (i < length xs) × ((d : X) → q (get_or xs i d) ≡ true)) → (b : Bool) → q x ≡ b → (i : ℕ) × (i < length (x ∷ xs)) × ((d : X) → q (get_or (x ∷ xs) i d) ≡ true)
      go later true e = (0, omega arith, λ d. e)
      go later false e =
          let r = later (omega (arith, sum_by-cons (λ y. bit (q y)) x xs, ap bit e)) in
          (suc r.0, omega (arith, r.1), r.2)
