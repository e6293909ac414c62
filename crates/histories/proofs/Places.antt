-- The samples of a list, place by place. Assumes nothing.
use Rattle.std.proofs.Common.{◌≡◌, ℕ, zero, suc, ◌<◌, ◌≤◌, Bool, true, ◌&&◌, eqb, sym, ap, ◌∙◌, add-one, arith}
use Rattle.std.proofs.lemmas.Bool.Decides.{nat_tests}
use Rattle.ranking.specs.Counts.{count}
use Rattle.ranking.specs.Ranks.{rank, first}
use Rattle.ranking.proofs.Counted.{count_zero, count_more, count_none, count_some, count_ext, count_less}
use Rattle.ranking.proofs.Picked.{first_picked}
use Rattle.ranking.proofs.Ranked.{Strict, by_rank, at_rank, count_first}
use Rattle.walks.specs.Views.{pick}
use Rattle.walks.proofs.Same.{pick_finds}

module _ (lt : ℕ → ℕ → Bool) (o : Strict lt) (p : ℕ → Bool) (n k : ℕ) (many : count p n ≡ k) where
  -- the slot that passes p and that i others come before
  abbrev pub place : ℕ → ℕ
  place i = pick (λ s. p s && eqb (rank p lt n s) i) n

  pub place_is : (i : ℕ) → i < k → (place i < n) × (p (place i) ≡ true) × (rank p lt n (place i) ≡ i)
  place_is i h =
      let r = at_rank lt o p n i (omega arith) in
      let here = r.2 in
      let ranked = r.3 in
      let found = pick_finds (λ s. p s && eqb (rank p lt n s) i) n (count_some _ n r.0 r.1 (grind (arith, nat_tests))) in
      let passes = found.1 in
      (found.0, grind (arith, nat_tests), grind (arith, nat_tests))

  pub place_order : (i h : ℕ) → i < h → h < k → lt (place i) (place h) ≡ true
  place_order i h l m =
      let a = (place_is i (omega arith)).2 in
      let b = (place_is h m).2 in
      by_rank lt o p n (place i) (place h) (omega arith)

  -- all that pass are among the first k
  first_all : (s : ℕ) → s < n → first p lt n k s ≡ p s
  first_all s l =
      let c = count_first lt o p n k in
      let less = count_less (first p lt n k) p n s (λ t _ h. grind arith) l in
      grind arith

  module _ (q : ℕ → Bool) where
    upto : (i : ℕ) → i ≤ k → count (λ h. q (place h)) i ≡ count (λ s. first p lt n i s && q s) n
    upto zero h =
        count_zero _ ∙ sym (count_none _ n (λ s l. grind (arith, nat_tests)))
    upto (suc i) h =
        let r = place_is i (omega arith) in
        let more = first_picked lt o p n i (place i) r.0 r.1 r.2 q in
        let one = count_more (λ h. q (place h)) i in
        let before = upto i (omega arith) in
        rw (← add-one i) (omega arith)

    -- as many places pass a test as slots
    pub by_place : count (λ h. q (place h)) k ≡ count (λ s. p s && q s) n
    by_place = upto k (omega arith) ∙ count_ext _ _ n (λ s l. ap (λ b. b && q s) (first_all s l))
