-- Under a strict total order of slots: ranks are distinct, and each below the count is some slot's. Assumes nothing.
use Rattle.std.proofs.Common.{◌≡◌, ℕ, zero, suc, ◌+◌, ◌<◌, ◌≤◌, min, Bool, true, false, ◌&&◌, ltb, ◌⊎◌, ap, ⊎_elim, arith}
use Rattle.std.proofs.lemmas.Bool.{cases_Bool, cases_eq}
use Rattle.std.proofs.lemmas.Bool.Decides.{nat_tests}
use Rattle.ranking.specs.Counts.{bit, count}
use Rattle.ranking.specs.Ranks.{lower, nearer, rank, first}
use Rattle.ranking.proofs.Counted.{count_imp, count_ext, count_less, count_find}

pub record Strict (lt : ℕ → ℕ → Bool) : Type 0 where
  pub self : (s : ℕ) → lt s s ≡ false
  pub through : (s t u : ℕ) → lt s t ≡ true → lt t u ≡ true → lt s u ≡ true
  pub other : (s t : ℕ) → (s ≡ t → ⊥) → lt s t ≡ false → lt t s ≡ true

-- the order of weights and slots, as a fact on numbers
pub lower_says : (v s w t : ℕ) → lower v s w t ≡ true → (v < w) ⊎ ((v ≡ w) × (s < t))
lower_says v s w t a = grind (arith, nat_tests)

pub lower_from : (v s w t : ℕ) → (v < w) ⊎ ((v ≡ w) × (s < t)) → lower v s w t ≡ true
lower_from v s w t a = grind (arith, nat_tests)

pub lower_through : (v s w t x u : ℕ) → lower v s w t ≡ true → lower w t x u ≡ true → lower v s x u ≡ true
lower_through v s w t x u a b = lower_from v s x u (grind (arith, lower_says v s w t a, lower_says w t x u b))

pub lower_other : (v s w t : ℕ) → (s ≡ t → ⊥) → lower v s w t ≡ false → lower w t v s ≡ true
lower_other v s w t ne a = grind (arith, nat_tests)

pub nearer_strict : (w : ℕ → ℕ) → Strict (nearer w)
unfolding nearer
nearer_strict w = record {
  self = λ s. grind (arith, nat_tests);
  through = λ s t u a b. lower_through (w s) s (w t) t (w u) u a b;
  other = λ s t ne a. lower_other (w s) s (w t) t ne a;
}

first_in_at : (ps pn a : Bool) (rs k : ℕ) → pn ≡ true → (ps ≡ true → a ≡ false → rs < k) → (ps && ltb (bit (pn && a) + rs) (suc k)) ≡ (ps && ltb rs k)
first_in_at ps pn a rs k e h = grind arith

module _ (lt : ℕ → ℕ → Bool) (o : Strict lt) where
  module _ (p : ℕ → Bool) (n : ℕ) where
    -- who comes before s comes before t
    rank_le : (s t : ℕ) → lt s t ≡ true → rank p lt n s ≤ rank p lt n t
    rank_le s t a = count_imp _ _ n (λ u l h. let k = o.through u s t in grind arith)

    -- only the first k come before one of them
    pub first_rank : (k s : ℕ) → first p lt n k s ≡ true → rank (first p lt n k) lt n s ≡ rank p lt n s
    first_rank k s h = count_ext _ _ n (λ t l. let r = rank_le t s in grind (arith, nat_tests))

    -- a slot does not come before itself
    pub rank_below : (s : ℕ) → s < n → p s ≡ true → rank p lt n s < count p n
    rank_below s l h = let i = o.self s in count_less _ _ n s (λ t m e. grind arith) l (grind arith) h

    rank_less : (s t : ℕ) → s < n → p s ≡ true → lt s t ≡ true → rank p lt n s < rank p lt n t
    rank_less s t l m a =
        count_less _ _ n s (λ u l' h. let k = o.through u s t in grind arith) l (let i = o.self s in grind arith) (grind arith)

    -- the lower rank comes first
    pub by_rank : (s t : ℕ) → rank p lt n s < rank p lt n t → lt s t ≡ true
    by_rank s t h =
        let same : s ≡ t → rank p lt n s ≡ rank p lt n t = λ e. ap (rank p lt n) e in
        let b = rank_le t s in
        let c = o.other s t in
        ⊎_elim (λ a. a) (λ a. absurd (omega (arith, b (c (λ e. omega (arith, same e)) a)))) (cases_Bool (lt s t))

    -- no two slots have one rank
    pub rank_one : (s t : ℕ) → s < n → t < n → p s ≡ true → p t ≡ true → rank p lt n s ≡ rank p lt n t → s ≡ t
    rank_one s t l m a b e =
        let x = rank_less s t l a in
        let y = rank_less t s m b in
        let c = o.other s t in
        ⊎_elim (λ h. h)
        (λ ne. ⊎_elim (λ h. absurd (omega (arith, x h))) (λ h. absurd (omega (arith, y (c ne h)))) (cases_Bool (lt s t)))
        (cases_eq s t)

    first_none : (k : ℕ) → p n ≡ false → count (first p lt (suc n) k) n ≡ count (first p lt n k) n
    unfolding count
    first_none k e = count_ext _ _ n (λ s l. grind arith)

    first_in : (k : ℕ) → p n ≡ true → rank p lt n n ≤ k → count (first p lt (suc n) (suc k)) n ≡ count (first p lt n k) n
    unfolding count
    first_in k e r =
        count_ext _ _ n
        (λ s l.
        first_in_at (p s) (p n) (lt n s) (rank p lt n s) k e
        (λ m a. let d = rank_less s n l m (o.other n s (omega arith) a) in omega arith))

    first_out : (k : ℕ) → p n ≡ true → k ≤ rank p lt n n → count (first p lt (suc n) k) n ≡ count (first p lt n k) n
    unfolding count
    first_out k e r = count_ext _ _ n (λ s l. let m = rank_le n s in grind arith)

  module _ (p : ℕ → Bool) where
    rank_le_count : (n s : ℕ) → rank p lt n s ≤ count p n
    rank_le_count n s = count_imp _ _ n (λ u l h. grind arith)

    -- the first k are k, or all there are
    pub count_first : (n k : ℕ) → count (first p lt n k) n ≡ min k (count p n)
    unfolding count
    count_first zero k = omega arith
    count_first (suc n) zero =
        let i = count_first n zero in
        let a = first_none p n zero in
        let b = first_out p n zero in
        let c = o.self n in
        grind arith
    count_first (suc n) (suc k) =
        let i = count_first n k in
        let j = count_first n (suc k) in
        let a = first_none p n (suc k) in
        let b = first_out p n (suc k) in
        let d = first_in p n k in
        let c = o.self n in
        let m = rank_le_count n n in
        grind arith

    -- each rank below the count is some slot's
    pub at_rank : (n k : ℕ) → k < count p n → (s : ℕ) × (s < n) × (p s ≡ true) × (rank p lt n s ≡ k)
    at_rank n k h =
        let i = count_first n k in
        let j = count_first n (suc k) in
        let r = count_find (first p lt n k) (first p lt n (suc k)) n (omega arith) in
        let a = r.2 in
        let b = r.3 in
        (r.0, r.1, grind arith, grind arith)
