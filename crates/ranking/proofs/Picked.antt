-- Picking slots in order: the i-th picked has rank i, and leaves those of higher rank. Assumes nothing.
use Rattle.std.proofs.Common.{◌≡◌, ℕ, ◌+◌, ◌<◌, ◌≤◌, Bool, true, false, ◌&&◌, eqb, leb, ap, ⊎_elim, arith}
use Rattle.std.proofs.lemmas.Bool.Decides.{nat_tests}
use Rattle.std.proofs.lemmas.Bool.{cases_lt, both_ways}
use Rattle.ranking.specs.Counts.{bit, count}
use Rattle.ranking.specs.Ranks.{rank, first}
use Rattle.ranking.proofs.Counted.{count_at, count_split}
use Rattle.ranking.proofs.Ranked.{Strict, by_rank, rank_one, at_rank}

-- the slots that i others or more come before
abbrev pub rest : (ℕ → Bool) → (ℕ → ℕ → Bool) → ℕ → ℕ → ℕ → Bool
rest p lt n i s = p s && leb i (rank p lt n s)

module _ (lt : ℕ → ℕ → Bool) (o : Strict lt) (p : ℕ → Bool) (n : ℕ) where
  -- of the slots left after i were picked, the one that none comes before has rank i
  pub picked_rank : (i r : ℕ) → i < count p n → r < n → rest p lt n i r ≡ true → ((s : ℕ) → s < n → rest p lt n i s ≡ true → lt s r ≡ false) → rank p lt n r ≡ i
  picked_rank i r h l m none =
      let z = at_rank lt o p n i h in
      let e = z.3 in
      let q = z.2 in
      let a = none z.0 z.1 (grind (arith, nat_tests)) in
      let b : i ≤ rank p lt n r = grind (arith, nat_tests) in
      ⊎_elim (λ (c : i < rank p lt n r). absurd (both_ways (lt z.0 r) a (by_rank lt o p n z.0 r (omega arith))))
      (λ (c : rank p lt n r ≤ i). omega arith)
      (cases_lt i (rank p lt n r))

  module _ (i r : ℕ) (l : r < n) (m : p r ≡ true) (e : rank p lt n r ≡ i) where
    alone : (s : ℕ) → s < n → p s ≡ true → rank p lt n s ≡ i → s ≡ r
    alone s b a h = rank_one lt o p n s r b l a m (omega arith)

    -- one slot fewer is left
    pub rest_picked : (q : ℕ → Bool) → count (λ s. rest p lt n i s && q s) n ≡ count (λ s. rest p lt n (i + 1) s && q s) n + bit (q r)
    rest_picked q =
        let one = count_at q r n l in
        let two =
        count_split (λ s. rest p lt n i s && q s) (λ s. rest p lt n (i + 1) s && q s) (λ s. eqb s r && q s) n
        (λ s b.
        let f = alone s b in
        let g : s ≡ r → p s ≡ p r = λ x. ap p x in
        let k : s ≡ r → rank p lt n s ≡ rank p lt n r = λ x. ap (rank p lt n) x in
        grind (arith, nat_tests))
        in
        omega arith

    -- one slot more is among the first
    pub first_picked : (q : ℕ → Bool) → count (λ s. first p lt n (i + 1) s && q s) n ≡ count (λ s. first p lt n i s && q s) n + bit (q r)
    first_picked q =
        let one = count_at q r n l in
        let two =
        count_split (λ s. first p lt n (i + 1) s && q s) (λ s. first p lt n i s && q s) (λ s. eqb s r && q s) n
        (λ s b.
        let f = alone s b in
        let g : s ≡ r → p s ≡ p r = λ x. ap p x in
        let k : s ≡ r → rank p lt n s ≡ rank p lt n r = λ x. ap (rank p lt n) x in
        grind (arith, nat_tests))
        in
        omega arith
