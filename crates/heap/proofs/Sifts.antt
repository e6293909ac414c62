-- One step of an item that rises, and of one that sinks; and that the top of a heap is first. Assumes nothing.
use Rattle.std.proofs.Common.{◌≡◌, ℕ, zero, suc, ◌<◌, ◌≤◌, Bool, true, false, sym, ap, ◌∙◌, ⊎_elim, arith}
use Rattle.std.proofs.lemmas.Bool.{cases_eq}
use Rattle.std.proofs.lemmas.List.Edits.{Swapped}
use Rattle.heap.specs.Order.{above}
use Rattle.std.specs.Cmp.{IsStrictWeakOrder}
use Rattle.heap.proofs.Order.{itself}

module _ {X : Type 0} (lt : X → X → Bool) (n : ℕ) (f : ℕ → X) where
  -- of n items, none but the one at a place comes before the one above it
  abbrev pub But : ℕ → Type 0
  But at = (k : ℕ) → 0 < k → k < n → (k ≡ at → ⊥) → lt (f k) (f (above k)) ≡ false

  -- none but those right below a place comes before the one above it
  abbrev pub Under : ℕ → Type 0
  Under at = (k : ℕ) → 0 < k → k < n → (above k ≡ at → ⊥) → lt (f k) (f (above k)) ≡ false

  -- none right below a place comes before the one above that place
  abbrev pub Over : ℕ → Type 0
  Over at = (k : ℕ) → 0 < k → k < n → above k ≡ at → 0 < at → lt (f k) (f (above at)) ≡ false

module _ {X : Type 0} (lt : X → X → Bool) (o : IsStrictWeakOrder lt) (n : ℕ) where
  pub rise_but : (f g : ℕ → X) (at : ℕ) → Swapped f g at (above at) → 0 < at → at < n → But lt n f at → Over lt n f at → lt (f at) (f (above at)) ≡ true → But lt n g (above at)
  rise_but f g at s pos lim but over t k p l ne =
      ⊎_elim (λ e. let h = o.one_way _ _ t in let e₁ = ap g e ∙ s.0 in let e₂ = ap (λ i. g (above i)) e ∙ s.1 in cc)
      (λ ne'.
      let e₁ = s.2 k ne' ne in
      ⊎_elim (λ e. let h = over k p l e pos in let e₂ = ap g e ∙ s.0 in cc)
      (λ nu.
      let h = but k p l ne' in
      ⊎_elim
      (λ e.
      let e₂ = ap g e ∙ s.1 in
      let h' : lt (f k) (f (above at)) ≡ false = ap (λ i. lt (f k) (f i)) (sym e) ∙ h in
      let r = o.chain (f k) (f (above at)) (f at) h' (o.one_way _ _ t) in
      cc)
      (λ nu'. let e₂ = s.2 (above k) nu nu' in cc)
      (cases_eq (above k) (above at)))
      (cases_eq (above k) at))
      (cases_eq k at)

  pub rise_over : (f g : ℕ → X) (at : ℕ) → Swapped f g at (above at) → 0 < at → at < n → But lt n f at → Over lt n g (above at)
  rise_over f g at s pos lim but k p l e pos' =
      let a = above at in
      let e₂ = s.2 (above a) (omega arith) (omega arith) in
      let h = but a pos' (omega arith) (omega arith) in
      ⊎_elim (λ q. let e₁ = ap g q ∙ s.0 in cc)
      (λ ne.
      let e₁ = s.2 k ne (omega arith) in
      let h' : lt (f k) (f a) ≡ false = ap (λ i. lt (f k) (f i)) (sym e) ∙ but k p l ne in
      let r = o.chain (f k) (f a) (f (above a)) h' h in
      cc)
      (cases_eq k at)

  -- the child c of the place `at` takes its place
  pub sink_under : (f g : ℕ → X) (at c : ℕ) → Swapped f g at c → 0 < c → c < n → above c ≡ at → Under lt n f at → Over lt n f at → lt (f c) (f at) ≡ true → ((k : ℕ) → 0 < k → k < n → above k ≡ at → lt (f k) (f c) ≡ false) → Under lt n g c
  sink_under f g at c s pos lim child under over t least k p l ne =
      ⊎_elim
      (λ e.
      let e₂ = ap g e ∙ s.0 in
      ⊎_elim (λ q. let e₁ = ap g q ∙ s.1 in let h = o.one_way _ _ t in cc)
      (λ nk. let e₁ = s.2 k (omega arith) nk in let h = least k p l e in cc)
      (cases_eq k c))
      (λ nu.
      let e₂ = s.2 (above k) nu ne in
      ⊎_elim
      (λ q.
      let e₁ = ap g q ∙ s.0 in
      let h = over c pos lim child (omega arith) in
      let h' : lt (f c) (f (above k)) ≡ false = ap (λ i. lt (f c) (f (above i))) q ∙ h in
      cc)
      (λ na.
      let nc : k ≡ c → ⊥ = λ q. nu (ap above q ∙ child) in
      let e₁ = s.2 k na nc in
      let h = under k p l nu in
      cc)
      (cases_eq k at))
      (cases_eq (above k) at)

  pub sink_over : (f g : ℕ → X) (at c : ℕ) → Swapped f g at c → 0 < c → above c ≡ at → Under lt n f at → Over lt n g c
  sink_over f g at c s pos child under k p l e pos' =
      let e₁ = s.2 k (omega arith) (omega arith) in
      let e₂ = ap g child ∙ s.0 in
      let h : lt (f k) (f c) ≡ false = ap (λ i. lt (f k) (f i)) (sym e) ∙ under k p l (omega arith) in
      cc

  top : (f : ℕ → X) → ((k : ℕ) → 0 < k → k < n → lt (f k) (f (above k)) ≡ false) → (m k : ℕ) → k ≤ m → k < n → lt (f k) (f 0) ≡ false
  top f kept m zero le l = itself o (f 0)
  top f kept zero (suc k) le l = absurd (omega arith)
  top f kept (suc m) (suc k) le l =
      o.chain (f (suc k)) (f (above (suc k))) (f 0) (kept (suc k) (omega arith) l)
      (top f kept m (above (suc k)) (omega arith) (omega arith))

  pub top_first : (f : ℕ → X) → ((k : ℕ) → 0 < k → k < n → lt (f k) (f (above k)) ≡ false) → (k : ℕ) → k < n → lt (f k) (f 0) ≡ false
  top_first f kept k l = top f kept k k (omega arith) l
