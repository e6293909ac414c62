-- Sums over entries are counts over slots, where each slot that is entered stands in one entry. Assumes nothing.
use Rattle.std.proofs.Common.{◌≡◌, ℕ, zero, suc, ◌+◌, ◌<◌, Bool, true, false, ◌&&◌, cond, List, [], ◌∷◌, sum_by, refl, arith}
use Rattle.std.specs.List.{All, filter}
use Rattle.std.proofs.lemmas.List.Elements.{All-head, All-tail}
use Rattle.std.proofs.lemmas.List.Sums.{sum_by-cons}
use Rattle.ranking.specs.Counts.{bit, count}
use Rattle.entries.proofs.Summed.{sum_add, sum_none, sum_filter-cons}

module _ {X : Type 0} where
  -- one slot: all items that have it agree on the test
  pub share : (h q : X → Bool) (b r : Bool) (xs : List X) → All (λ x. h x ≡ true → q x ≡ b) xs → sum_by (λ x. bit (h x && r)) (filter q xs) ≡ cond (b && r) (sum_by (λ x. bit (h x)) xs) 0
  share h q true true [] a = refl
  share h q true false [] a = refl
  share h q false r [] a = refl
  share h q b r (x ∷ xs) a =
      let e : h x ≡ true → q x ≡ b = All-head (λ y. h y ≡ true → q y ≡ b) x xs a in
      let i = share h q b r xs (All-tail (λ y. h y ≡ true → q y ≡ b) x xs a) in
      let c = sum_filter-cons (λ y. bit (h y && r)) q x xs in
      let d = sum_by-cons (λ y. bit (h y)) x xs in
      grind arith

  -- all slots below n
  pub spread : (h : X → ℕ → Bool) (q : X → Bool) (ent qs r : ℕ → Bool) (xs : List X) (n : ℕ) →
      ((s : ℕ) → s < n → sum_by (λ x. bit (h x s)) xs ≡ bit (ent s)) →
      ((s : ℕ) → s < n → All (λ x. h x s ≡ true → q x ≡ qs s) xs) →
      sum_by (λ x. count (λ s. h x s && r s) n) (filter q xs) ≡ count (λ s. (ent s && qs s) && r s) n
  unfolding count
  spread h q ent qs r xs zero once agree = sum_none _ (filter q xs) (λ k d l. refl)
  spread h q ent qs r xs (suc n) once agree =
      let i = spread h q ent qs r xs n (λ s l. once s (omega arith)) (λ s l. agree s (omega arith)) in
      let a = sum_add (λ x. bit (h x n && r n) + count (λ s. h x s && r s) n) (λ x. bit (h x n && r n)) (λ x. count (λ s. h x s && r s) n) (filter q xs) (λ x. refl) in
      let b = share (λ x. h x n) q (qs n) (r n) xs (agree n (omega arith)) in
      let o = once n (omega arith) in
      grind arith
