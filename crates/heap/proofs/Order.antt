-- The order of items as the test that the library's lemmas are about. Assumes nothing.
use Rattle.std.proofs.Common.{◌≡◌, Bool, true, false, ◌≢◌, subst, ◌∙◌, refl, ⊎_elim}
use Rattle.std.proofs.lemmas.Bool.{cases_Bool, both_ways}
use Rattle.std.specs.Cmp.{IsStrictWeakOrder}
use Rattle.heap.specs.Order.{One}

module _ {X K : Type 0} {key : X → K} {lt : X → X → Bool}
    (one : (x y : X) → (key x ≢ key y) → One (lt x y) (lt y x))
    (neither : (x y : X) → key x ≡ key y → lt x y ≡ false)
    (carries : (x y z : X) → lt x y ≡ true → lt y z ≡ true → lt x z ≡ true) where
  apart : (x y : X) → lt x y ≡ true → lt y x ≡ false
  apart x y a = ⊎_elim (λ b. let e = carries x y x a b in let f = neither x x refl in cc) (λ b. b) (cases_Bool (lt y x))

  -- two of which neither comes first do not have keys that differ
  near : (x y : X) → lt x y ≡ false → lt y x ≡ false → (key x ≢ key y) → ⊥
  near x y a b far = let h = subst (λ p. One p (lt y x)) a (one x y far) in cc

  -- where x does not come before y nor y before z, x does not come before z
  through : (x y z : X) → lt x y ≡ false → lt y z ≡ false → lt x z ≡ true → ⊥
  through x y z a b t =
      ⊎_elim (λ c. let e = carries y x z c t in cc)
      (λ c.
      ⊎_elim (λ d. let e = carries x z y t d in cc)
      (λ d. near x y a c (λ e. near y z b d (λ f. let n = neither x z (e ∙ f) in cc)))
      (cases_Bool (lt z y)))
      (cases_Bool (lt y x))

  pub order : IsStrictWeakOrder lt
  order = record {
    one_way = apart;
    chain = λ x y z a b. ⊎_elim (λ t. absurd (through x y z a b t)) (λ f. f) (cases_Bool (lt x z));
  }

-- no item comes before itself
pub itself : {X : Type 0} {lt : X → X → Bool} → IsStrictWeakOrder lt → (x : X) → lt x x ≡ false
itself {X} {lt} o x = ⊎_elim (λ t. absurd (both_ways (lt x x) (o.one_way x x t) t)) (λ b. b) (cases_Bool (lt x x))
