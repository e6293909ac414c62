-- The first number of a range a..=b that passes a test, as `find` picks it. Assumes nothing.
use Rattle.std.proofs.Common.{◌≡◌, ℕ, zero, suc, ◌+◌, ◌-◌, ◌<◌, ◌≤◌, Bool, true, false, List, length, get_or, Some, None, Option, sym, refl, ap, ◌∙◌, subst, arith}
use Rattle.std.specs.Fn.{CalledAt}
use Rattle.std.specs.Bool.{⊤}
use Rattle.std.specs.Iterator.{YieldsThen, AlwaysYields}
use Rattle.std.specs.List.{FoldsTo, AllWithin, HoldsAt, range_with_len}
use Rattle.std.specs.Option.{MatchOption}
use Rattle.std.specs.Range.{range_inclusive_left, range_inclusive_len, range_inclusive_steps}
use Rattle.std.specs.declared.ops.RangeInclusive.{RangeInclusive}
use Rattle.std.proofs.lemmas.Iterator.{YieldsList, first_from_find}
use Rattle.std.proofs.lemmas.List.FromFn.{length-range_with_len, get_or-range_with_len}
use denote.Ref.{Bor}
use denote.Param.Members.{Mut}

abbrev pub rises : RangeInclusive ℕ → Option ℕ → RangeInclusive ℕ → Type 0
rises = range_inclusive_steps (λ x y. y - x) (λ x y. y ≡ x + 1)

abbrev left : RangeInclusive ℕ → ℕ
left = range_inclusive_left (λ x y. y - x)

yields : (n a : ℕ) (s : RangeInclusive ℕ) → left s ≡ n → (0 < n → s.start ≡ a) → AlwaysYields rises (λ x. x) s (range_with_len a n)
yields zero a s l e = λ x t p. omega (arith, p.1.1, l)
yields (suc n) a s l e = (λ t p. omega (arith, p.1.0, l), λ x t p. (p.1.0 ∙ e (omega arith), yields n (a + 1) t (omega (arith, p.1.1, l)) (λ k. more t n t.exhausted refl (omega (arith, p.1.1, l)) k p.1.2 (e (omega arith)))))
  where
    more : (t : RangeInclusive ℕ) (m : ℕ) (b : Bool) → t.exhausted ≡ b → left t ≡ m → 0 < m → (t.exhausted ≡ false → t.start ≡ s.start + 1) → s.start ≡ a → t.start ≡ a + 1
    more t m false e l k f h = omega (arith, f e, h)
    more t m true e l k f h = absurd (omega (arith, l, k, spent t e))
      where
        spent : (t : RangeInclusive ℕ) → t.exhausted ≡ true → left t ≡ 0
        spent t e = ap (λ c. range_inclusive_len (λ x y. y - x) t.start t.end c) e

-- `find` over the range
pub first_up : {F : Type 0} {g : Mut F (Bor ℕ × Unit {0}) Bool} (s u : RangeInclusive ℕ) (f : F) (r : Option ℕ) (Yes No : ℕ → Type 0) → s.exhausted ≡ false
    → (xs : List ℕ) × (j : F) × YieldsThen rises s xs r u × FoldsTo (λ p x q. CalledAt g p x false q) f xs j × MatchOption r ⊤ (λ x. (h : F) × CalledAt g j x true h)
    → ((x : ℕ) (q : F) → CalledAt g f x true q → Yes x) → ((x : ℕ) (q : F) → CalledAt g f x false q → (q ≡ f) × No x)
    → MatchOption r ((k : ℕ) → s.start ≤ k → k < s.end + 1 → No k) (λ i. (s.start ≤ i) × (i < s.end + 1) × Yes i × ((k : ℕ) → s.start ≤ k → k < i → No k))
first_up s u f r Yes No fresh d passes fails = by r (first_from_find u f r Yes No d listed passes fails)
  where
    all : List ℕ
    all = range_with_len s.start (left s)

    listed : YieldsList rises (λ x. x) s all
    listed = record { runs = yields (left s) s.start s refl (λ k. refl) }

    size : left s ≡ s.end - s.start + 1 - (s.start - s.end)
    size = ap (λ c. range_inclusive_len (λ x y. y - x) s.start s.end c) fresh

    long : length all ≡ left s
    long = length-range_with_len s.start (left s)

    below : (n : ℕ) → n ≤ left s → AllWithin No all 0 n → (k : ℕ) → s.start ≤ k → k < s.start + n → No k
    below n l h k a b = subst No {x = get_or all (k - s.start) 0} {y = k} (omega (arith, get_or-range_with_len s.start (left s) (k - s.start) 0 (omega arith))) (h (k - s.start) 0 (omega arith) (omega arith))

    by : (o : Option ℕ) → MatchOption o (AllWithin No all 0 (length all)) (λ x. Yes x × (i : ℕ) × (i < length all) × HoldsAt (λ y. y ≡ x) all i × AllWithin No all 0 i)
        → MatchOption o ((k : ℕ) → s.start ≤ k → k < s.end + 1 → No k) (λ i. (s.start ≤ i) × (i < s.end + 1) × Yes i × ((k : ℕ) → s.start ≤ k → k < i → No k))
    by None h = λ k a b. below (length all) (omega (arith, long)) h k a (omega (arith, long, size))
    by (Some x) h =
        let i : h.1 < left s = omega (arith, long, h.2) in
        let at : x ≡ s.start + h.1 = sym (h.3 0) ∙ get_or-range_with_len s.start (left s) h.1 0 i in
        (omega arith, omega (arith, size), h.0, λ k a b. below h.1 (omega arith) h.4 k a (omega arith))

-- what is known where nothing was found, and where x was
module _ {X : Type 0} (A : Type 0) (B : X → Type 0) where
  pub at_none : {r : Option X} → r ≡ None → MatchOption r A B → A
  at_none e = subst (λ (o : Option X). MatchOption o A B) e

  pub at_some : {r : Option X} {x : X} → r ≡ Some x → MatchOption r A B → B x
  at_some e = subst (λ (o : Option X). MatchOption o A B) e
