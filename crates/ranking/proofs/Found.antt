-- What the lowest number that passes a test says, and how a search finds it. Assumes nothing.
use Rattle.std.proofs.Common.{◌≡◌, ℕ, zero, suc, ◌<◌, ◌≤◌, Bool, true, false, cond, List, Some, None, Option, refl, sym, ap, ◌∙◌, ⊎_elim, subst, arith}
use Rattle.std.specs.Fn.{CalledAt}
use Rattle.std.specs.Bool.{⊤}
use Rattle.std.specs.Iterator.{YieldsThen}
use Rattle.std.specs.List.{FoldsTo}
use Rattle.std.specs.Option.{MatchOption, option_or}
use Rattle.std.specs.declared.ops.Range.{Range}
use Rattle.std.proofs.lemmas.Bool.{cases_eq}
use Rattle.std.proofs.iter.Yields.{nat_range_steps}
use Rattle.std.proofs.lemmas.Iterator.{first_from_Range}
use Rattle.ranking.specs.Lowest.{lowest}
use denote.Ref.{Bor}
use denote.Param.Members.{Mut}

-- o is the lowest of the numbers below n that pass p, if any passes
abbrev pub Lowest : (ℕ → Bool) → ℕ → Option ℕ → Type 0
Lowest p n None = (k : ℕ) → k < n → p k ≡ false
Lowest p n (Some i) = (i < n) × (p i ≡ true) × ((k : ℕ) → k < i → p k ≡ false)

pub lowest_is : (p : ℕ → Bool) (n : ℕ) → Lowest p n (lowest p n)
unfolding lowest
lowest_is p zero = λ k l. absurd (omega arith)
lowest_is p (suc n) = go (lowest p n) (p n) refl (lowest_is p n)
  where
    go : (o : Option ℕ) (b : Bool) → p n ≡ b → Lowest p n o → Lowest p (suc n) (option_or o (cond b (Some n) None))
    go (Some i) b e h = (omega arith, h.1, h.2)
    go None true e h = (omega arith, e, h)
    go None false e h = λ k l. ⊎_elim (λ (s : k ≡ n). ap p s ∙ e) (λ ne. h k (omega arith)) (cases_eq k n)

-- there is one such answer
pub is_lowest : (p : ℕ → Bool) (n : ℕ) (o : Option ℕ) → Lowest p n o → o ≡ lowest p n
is_lowest p n o h = go o (lowest p n) h (lowest_is p n)
  where
    go : (o q : Option ℕ) → Lowest p n o → Lowest p n q → o ≡ q
    go None None h k = refl
    go None (Some j) h k = absurd (grind (arith, h j k.0, k.1))
    go (Some i) None h k = absurd (grind (arith, k i h.0, h.1))
    go (Some i) (Some j) h k =
        let a : i < j → ⊥ = λ l. grind (arith, k.2 i l, h.1) in
        let b : j < i → ⊥ = λ l. grind (arith, h.2 j l, k.1) in
        let e : i ≡ j = omega arith in
        ap (λ x. Some x) e

module _ (p : ℕ → Bool) (n : ℕ) where
  pub lowest_none : lowest p n ≡ None → (k : ℕ) → k < n → p k ≡ false
  lowest_none e = subst (λ o. Lowest p n o) e (lowest_is p n)

  pub none_lowest : ((k : ℕ) → k < n → p k ≡ false) → lowest p n ≡ None
  none_lowest h = sym (is_lowest p n None h)

  pub lowest_some : (i : ℕ) → lowest p n ≡ Some i → (i < n) × (p i ≡ true) × ((k : ℕ) → k < i → p k ≡ false)
  lowest_some i e = subst (λ o. Lowest p n o) e (lowest_is p n)

-- `find` over the numbers from 0 on, where the closure computes p
pub lowest_from_find : {F : Type 0} {g : Mut F (Bor ℕ × Unit {0}) Bool} (p : ℕ → Bool) (s u : Range ℕ) (f : F) (r : Option ℕ) → s.start ≡ 0
    → (xs : List ℕ) × (j : F) × YieldsThen nat_range_steps s xs r u × FoldsTo (λ p x q. CalledAt g p x false q) f xs j × MatchOption r ⊤ (λ x. (h : F) × CalledAt g j x true h)
    → ((x : ℕ) (b : Bool) (q : F) → CalledAt g f x b q → (q ≡ f) × (b ≡ p x)) → r ≡ lowest p s.end
lowest_from_find p s u f r start ran test =
    is_lowest p s.end r (by r (first_from_Range s u f r (λ x. p x ≡ true) (λ x. p x ≡ false) ran (λ x q k. sym (test x true q k).1) (λ x q k. ((test x false q k).0, sym (test x false q k).1))))
  where
    by : (o : Option ℕ) → MatchOption o ((k : ℕ) → s.start ≤ k → k < s.end → p k ≡ false) (λ i. (s.start ≤ i) × (i < s.end) × (p i ≡ true) × ((k : ℕ) → s.start ≤ k → k < i → p k ≡ false)) → Lowest p s.end o
    by None h = λ k l. h k (omega arith) l
    by (Some i) h = (h.1, h.2, λ k l. h.3 k (omega arith) l)
