-- A heap from which the candidates are picked in order: the next has the next rank. Assumes nothing.
use Rattle.std.proofs.Common.{◌≡◌, ℕ, suc, ◌+◌, ◌<◌, Bool, true, false, ◌&&◌, eqb, List, [], ◌∷◌, ◌++◌, length, get_or, sum_by, sym, refl, ap, ◌∙◌, subst, ⊎_elim, arith}
use Rattle.std.specs.List.Sorted.{IsPermutation}
use Rattle.std.proofs.lemmas.List.Sums.{sum_by-cons}
use Rattle.std.proofs.lemmas.List.Sorted.{IsPermutation-sym}
use Rattle.std.proofs.lemmas.Bool.{cases_Bool, and_from}
use Rattle.std.proofs.lemmas.Bool.Decides.{nat_tests}
use Rattle.heap.specs.Order.{ahead}
use Rattle.ranking.specs.Counts.{bit, count}
use Rattle.ranking.specs.Ranks.{lower, nearer, rank}
use Rattle.ranking.proofs.Counted.{count_ext, count_find, count_none, count_some}
use Rattle.ranking.proofs.Picked.{rest, picked_rank, rest_picked}
use Rattle.ranking.proofs.Ranked.{nearer_strict, at_rank}
use Rattle.samples.specs.Candidates.{candidate, Holds, by_weight, sooner, ahead_is_sooner}
use Rattle.samples.specs.declared.candidate.Candidate.{Candidate}
use Rattle.samples.proofs.Gathered.{sum_by_added}

-- what no item of a list passes, none of its slots passes
sum_none : (q : Candidate → Bool) (xs : List Candidate) → ((d : Candidate) (k : ℕ) → k < length xs → q (get_or xs k d) ≡ false) → sum_by (λ c. bit (q c)) xs ≡ 0
sum_none q [] h = refl
sum_none q (x ∷ xs) h =
    let a = h x 0 (omega arith) in
    let b = sum_none q xs (λ d k l. h d (suc k) (omega arith)) in
    let e = sum_by-cons (λ c. bit (q c)) x xs in
    let f : bit (q x) ≡ 0 = ap bit a in
    omega arith

-- the same weight and the same slot
abbrev same : Candidate → Candidate → Bool
same x y = eqb x.weight y.weight && eqb x.slot y.slot

-- the slots that pass p and that i others or more come before
abbrev pub remaining : (ℕ → ℕ) → (ℕ → Bool) → ℕ → ℕ → Bool
remaining w p i s = rest p (nearer w) 256 i s

-- slot s was picked after i others, and the items ys remain
pub record Picked (w : ℕ → ℕ) (p : ℕ → Bool) (i : ℕ) (ys : List Candidate) (s : ℕ) : Type 0 where
  pub slot : s < 256
  pub held : p s ≡ true
  pub ranked : rank p (nearer w) 256 s ≡ i
  pub others : Holds ys w (remaining w p (i + 1)) 256

module _ (w : ℕ → ℕ) (p : ℕ → Bool) where
  abbrev left : ℕ → ℕ → Bool
  left i s = remaining w p i s

  pub picking_begins : (xs : List Candidate) → Holds xs w p 256 → Holds xs w (left 0) 256
  picking_begins xs h q = h q ∙ count_ext _ _ 256 (λ s l. grind (arith, nat_tests))

  module _ (i : ℕ) (enough : i < count p 256) (xs : List Candidate) (holds : Holds xs w (left i) 256) where
    -- something is left to pick
    pub picking_some : xs ≡ [] → ⊥
    picking_some e =
        let z = at_rank (nearer w) (nearer_strict w) p 256 i enough in
        let a = z.2 in
        let r = z.3 in
        let c = count_some (λ s. left i s && true) 256 z.0 z.1 (grind (arith, nat_tests)) in
        let h = holds (λ _. true) in
        let n : sum_by (λ c. bit true) xs ≡ 0 = ap (sum_by (λ c. bit true)) e in
        omega arith

    -- x was taken out, which no other comes before
    module _ (ys : List Candidate) (x : Candidate) (out : IsPermutation xs (ys ++ x ∷ []))
        (none : (d : Candidate) (k : ℕ) → k < length xs → ahead by_weight (get_or xs k d) x ≡ false) where
      split : (q : Candidate → Bool) → sum_by (λ c. bit (q c)) xs ≡ sum_by (λ c. bit (q c)) ys + bit (q x)
      split q = sum_by_added (λ c. bit (q c)) ys xs x (IsPermutation-sym _ _ out)

      -- it is the candidate of a slot that was left
      found : (s : ℕ) × (s < 256) × (left i s ≡ true) × (x.weight ≡ w s) × (x.slot ≡ s)
      found =
          let a = split (same x) in
          let b : same x x ≡ true = grind (arith, nat_tests) in
          let c = ap bit b in
          let h = holds (same x) in
          let z = count_none (λ _. false) 256 (λ _ _. refl) in
          let r = count_find (λ _. false) (λ s. left i s && same x (candidate w s)) 256 (omega arith) in
          let e = r.3 in
          (r.0, r.1, grind arith, grind (arith, nat_tests), grind (arith, nat_tests))

      -- that slot has the next rank
      module _ (s : ℕ) (l : s < 256) (m : left i s ≡ true) (weight : x.weight ≡ w s) (slot : x.slot ≡ s) where
        none_nearer : (t : ℕ) → t < 256 → left i t ≡ true → nearer w t s ≡ false
        unfolding nearer
        none_nearer t b a =
            let zero_sum = sum_none (λ c. sooner c x) xs (λ d k l. sym (ahead_is_sooner (get_or xs k d) x) ∙ none d k l) in
            let h = holds (λ c. sooner c x) in
            let counted = count_some (λ u. left i u && sooner (candidate w u) x) 256 t b in
            let e : sooner (candidate w t) x ≡ lower (w t) t (w s) s = cc in
            ⊎_elim (λ y. absurd (omega (arith, counted (and_from _ _ a (e ∙ y))))) (λ y. y) (cases_Bool (lower (w t) t (w s) s))

        has : p s ≡ true
        has = grind (arith, nat_tests)

        ranked : rank p (nearer w) 256 s ≡ i
        ranked = picked_rank (nearer w) (nearer_strict w) p 256 i s enough l m none_nearer

        others : Holds ys w (left (i + 1)) 256
        others q =
            let a = split q in
            let h = holds q in
            let of : ℕ → ℕ → Candidate = λ n m. record { weight = n; slot = m } in
            let e : x ≡ candidate w s = ap (λ n. of n x.slot) weight ∙ ap (of (w s)) slot in
            let f = ap (λ c. bit (q c)) e in
            let k = rest_picked (nearer w) (nearer_strict w) p 256 i s l has ranked (λ t. q (candidate w t)) in
            omega arith

      pub picked : Picked w p i ys x.slot
      picked =
          let f = found in
          subst (Picked w p i ys) (sym f.4)
          (record { slot = f.1; held = has f.0 f.1 f.2 f.3 f.4; ranked = ranked f.0 f.1 f.2 f.3 f.4; others = others f.0 f.1 f.2 f.3 f.4 })
