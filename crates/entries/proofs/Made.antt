-- What an array made by a function has at each index, where no call changes the function. Assumes nothing.
use Rattle.std.proofs.Common.{◌≡◌, ℕ, zero, suc, ◌+◌, ◌<◌, ◌≤◌, List, get_or, sym, ap, ◌∙◌, subst, ⊎_elim, arith}
use Rattle.std.specs.Array.{IsFromFnResult, IsFromFnResultFrom}
use Rattle.std.proofs.lemmas.Bool.{cases_eq}
use denote.Param.Members.{Mut, Called}

module _ {F : Type 0} (g : Mut F (ℕ × Unit {0}) ℕ) (h : ℕ → ℕ) (f : F) (ys : List ℕ) (m : ℕ)
    (called : (x r : ℕ) (q : F) → x < m → Called g f (x, tt) r q → (q ≡ f) × (r ≡ h x)) where
  made_from : (n i j : ℕ) → i + n ≡ m → IsFromFnResultFrom g f ys i n → i ≤ j → j < m → get_or ys j 0 ≡ h j
  made_from zero i j e made l u = absurd (omega arith)
  made_from (suc n) i j e made l u =
      let call = called i made.1 made.0 (omega arith) made.3 in
      ⊎_elim (λ (same : j ≡ i). ap (λ k. get_or ys k 0) same ∙ made.2.1 0 ∙ call.1 ∙ ap h (sym same))
      (λ ne. made_from n (i + 1) j (omega arith) (subst (λ q. IsFromFnResultFrom g q ys (i + 1) n) call.0 made.4) (omega arith) u)
      (cases_eq j i)

  pub made_at : IsFromFnResult g f ys m → (i : ℕ) → i < m → get_or ys i 0 ≡ h i
  made_at made i l = made_from m 0 i (omega arith) made.each (omega arith) l
