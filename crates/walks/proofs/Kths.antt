-- What makes a value the k-th smallest, and that only one is. Assumes nothing.
use Rattle.std.proofs.Common.{◌≡◌, ℕ, suc, ◌<◌, ◌≤◌, ◌-◌, Bool, true, ◌&&◌, eqb, leb, ltb, inl, arith}
use Rattle.std.proofs.lemmas.Bool.Decides.{nat_tests}
use Rattle.ranking.specs.Counts.{count}
use Rattle.ranking.specs.Ranks.{nearer, rank}
use Rattle.ranking.proofs.Counted.{count_imp, count_ext, count_less, count_some}
use Rattle.ranking.proofs.Ranked.{lower_says, lower_from, nearer_strict, at_rank}
use Rattle.walks.specs.Views.{kth}
use Rattle.walks.proofs.Same.{pick_finds}

pub nearer_less : (v : ℕ → ℕ) (s t : ℕ) → v s < v t → nearer v s t ≡ true
unfolding nearer
nearer_less v s t l = lower_from (v s) s (v t) t (inl l)

pub nearer_le : (v : ℕ → ℕ) (s t : ℕ) → nearer v s t ≡ true → v s ≤ v t
unfolding nearer
nearer_le v s t h = let c = lower_says (v s) s (v t) t h in grind arith

-- fewer than k have a value below x, and at least k have one at most x
pub record Least (p : ℕ → Bool) (v : ℕ → ℕ) (n k x : ℕ) : Type 0 where
  pub fewer : count (λ s. p s && ltb (v s) x) n < k
  pub enough : k ≤ count (λ s. p s && leb (v s) x) n

module _ (p : ℕ → Bool) (v : ℕ → ℕ) (n k : ℕ) where
  -- the value of a slot that k - 1 others come before
  least_at : (s : ℕ) → s < n → p s ≡ true → suc (rank p (nearer v) n s) ≡ k → Least p v n k (v s)
  least_at s l m e =
      let self = (nearer_strict v).self s in
      let below = count_imp (λ t. p t && ltb (v t) (v s)) (λ t. p t && nearer v t s) n (λ t _ h. let x = nearer_less v t s in grind (arith, nat_tests)) in
      let upto =
      count_less (λ t. p t && nearer v t s) (λ t. p t && leb (v t) (v s)) n s (λ t _ h. let x = nearer_le v t s in grind (arith, nat_tests)) l
      (grind arith) (grind (arith, nat_tests))
      in
      record { fewer = omega arith; enough = omega arith }

  pub kth_least : 0 < k → k ≤ count p n → Least p v n k (kth p v n k)
  unfolding kth
  kth_least o h =
      let r = at_rank (nearer v) (nearer_strict v) p n (k - 1) (omega arith) in
      let found = pick_finds (λ s. p s && eqb (suc (rank p (nearer v) n s)) k) n (count_some _ n r.0 r.1 (grind (arith, nat_tests))) in
      least_at _ found.0 (grind (arith, nat_tests)) (grind (arith, nat_tests))

  pub kth_only : (x y : ℕ) → Least p v n k x → Least p v n k y → x ≡ y
  kth_only x y a b =
      let c : x < y → count (λ s. p s && leb (v s) x) n ≤ count (λ s. p s && ltb (v s) y) n = λ l. count_imp _ _ n (λ t _ h. grind (arith, nat_tests)) in
      let d : y < x → count (λ s. p s && leb (v s) y) n ≤ count (λ s. p s && ltb (v s) x) n = λ l. count_imp _ _ n (λ t _ h. grind (arith, nat_tests)) in
      grind arith

-- it rises with the values
pub least_rises : (p : ℕ → Bool) (v u : ℕ → ℕ) (n k x y : ℕ) → ((s : ℕ) → s < n → p s ≡ true → v s ≤ u s) → Least p v n k x → Least p u n k y → x ≤ y
least_rises p v u n k x y h a b =
    let c : y < x → count (λ s. p s && leb (u s) y) n ≤ count (λ s. p s && ltb (v s) x) n =
    λ l. count_imp _ _ n (λ s m i. let d = h s m in grind (arith, nat_tests)) in
    grind arith

-- it depends only on the slots that pass, and on their values
pub kth_ext : (p q : ℕ → Bool) (v u : ℕ → ℕ) (n k : ℕ) → 0 < k → k ≤ count p n → ((s : ℕ) → s < n → p s ≡ q s) → ((s : ℕ) → s < n → p s ≡ true → v s ≡ u s) → kth p v n k ≡ kth q u n k
kth_ext p q v u n k o h e f =
    let many = count_ext p q n e in
    let l = kth_least q u n k o (omega arith) in
    let below = count_ext (λ s. p s && ltb (v s) (kth q u n k)) (λ s. q s && ltb (u s) (kth q u n k)) n (λ s m. let x = e s m in let y = f s m in grind arith) in
    let upto = count_ext (λ s. p s && leb (v s) (kth q u n k)) (λ s. q s && leb (u s) (kth q u n k)) n (λ s m. let x = e s m in let y = f s m in grind arith) in
    kth_only p v n k _ _ (kth_least p v n k o h) (record { fewer = omega arith; enough = omega arith })
