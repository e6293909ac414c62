-- What a heap's slice holds after a push and a pop. Assumes nothing.
use Rattle.std.proofs.Common.{◌≡◌, ℕ, ◌+◌, ◌-◌, ◌<◌, Bool, List, [], ◌∷◌, ◌++◌, length, get_or, take, sym, ap, ◌∙◌, arith}
use Rattle.std.proofs.lemmas.List.{take_all, take_more}
use Rattle.heap.specs.Order.{Kept, above}

module _ {X : Type 0} where
  -- items that are kept in order are so in another list that begins with them
  pub kept_same : (lt : X → X → Bool) (n : ℕ) (xs ys : List X) → ((d : X) (k : ℕ) → k < n → get_or ys k d ≡ get_or xs k d) → Kept lt xs n → Kept lt ys n
  kept_same lt n xs ys same kept d k p l =
      let h = kept d k p l in
      let e₁ = same d k l in
      let e₂ = same d (above k) (omega arith) in
      cc

  -- a list whose last item is x
  pub last_off : (xs : List X) (n : ℕ) (x : X) → length xs ≡ n → 0 < n → get_or xs (n - 1) x ≡ x → xs ≡ take (n - 1) xs ++ x ∷ []
  last_off xs n x long pos last =
      let one : n - 1 + 1 ≡ n = omega arith in
      sym (take_all n xs (omega arith)) ∙ ap (λ m. take m xs) (sym one) ∙ take_more xs (n - 1) x (omega arith) ∙ ap (λ y. take (n - 1) xs ++ y ∷ []) last
