-- The last of the first n candidates that come out of a heap. Assumes nothing.
use Rattle.std.proofs.Common.{◌≡◌, ℕ, ◌+◌, ◌<◌, ◌≤◌, min, Bool, true, ◌&&◌, eqb, List, [], ◌∷◌, ◌++◌, Option, Some, None, refl, sym, ap, ◌∙◌, subst, ⊎_elim, arith}
use Rattle.std.specs.List.{last_or}
use Rattle.std.specs.List.Sorted.{IsPermutation}
use Rattle.std.specs.Iterator.{Drains, Yields}
use Rattle.std.specs.Iterator.Adapters.{take_source, take_count, take_steps}
use Rattle.std.specs.declared.iter.Take.{Take}
use Rattle.std.proofs.lemmas.Bool.{cases_lt}
use Rattle.std.proofs.lemmas.Bool.Decides.{nat_tests}
use Rattle.std.proofs.lemmas.List.Sums.{sum_by_push}
use Rattle.std.proofs.lemmas.List.Sorted.{sum_by-IsPermutation}
use Rattle.heap.specs.Contents.{content, room, Popped, First}
use Rattle.heap.specs.Order.{ahead, Heaped}
use Rattle.heap.specs.declared.Heap.{Heap}
use Rattle.ranking.specs.Counts.{bit, count}
use Rattle.ranking.specs.Ranks.{nearer, rank}
use Rattle.ranking.proofs.Counted.{count_less}
use Rattle.ranking.proofs.Ranked.{nearer_strict}
use Rattle.samples.specs.Candidates.{candidate, Holds, by_weight}
use Rattle.samples.specs.declared.candidate.Candidate.{Candidate}
use Rattle.samples.proofs.Picking.{remaining, picked, picking_begins, picking_some}
use Rattle.entries.specs.Singles.{Last}
use Rattle.entries.proofs.Opening.{counted_find}

-- a step of the heap as an iterator
abbrev pub Steps : Heap Candidate → Option Candidate → Heap Candidate → Type 0
Steps s r t =
    Popped (content s) (content t) r
    × (room t ≡ room s)
    × (Heaped (ahead by_weight) (content s) → Heaped (ahead by_weight) (content t))
    × (Heaped (ahead by_weight) (content s) → First (ahead by_weight) (content s) r)

module _ (w : ℕ → ℕ) (p : ℕ → Bool) where
  module _ (i : ℕ) (xs ys : List Candidate) (x : Candidate) (holds : Holds xs w (remaining w p i) 256) (out : IsPermutation xs (ys ++ x ∷ [])) where
    -- what comes out is the candidate of a slot that was left
    of_slot : (s : ℕ) × (s < 256) × (remaining w p i s ≡ true) × (x ≡ candidate w x.slot)
    of_slot =
        let f : Candidate → Bool = λ y. eqb x.weight y.weight && eqb x.slot y.slot in
        let a = sum_by-IsPermutation (λ y. bit (f y)) xs (ys ++ x ∷ []) out in
        let b = sum_by_push (λ y. bit (f y)) ys x in
        let self : f x ≡ true = grind (arith, nat_tests) in
        let one = ap bit self in
        let h = holds f in
        let r = counted_find (λ s. remaining w p i s && f (candidate w s)) 256 (omega arith) in
        let there = r.2 in
        let weight : x.weight ≡ w r.0 = grind (arith, nat_tests) in
        let slot : x.slot ≡ r.0 = grind (arith, nat_tests) in
        let of : ℕ → Candidate = λ n. record { weight = n; slot = x.slot } in
        (r.0, r.1, grind arith, ap of (weight ∙ ap w (sym slot)))

    pub more_left : i < count p 256
    more_left =
        let r = of_slot in
        let has = r.2 in
        let order = (nearer_strict w).self r.0 in
        let less = count_less (λ t. p t && nearer w t r.0) p 256 r.0 (λ t l h. grind arith) r.1 (grind arith) (grind arith) in
        let after : i ≤ rank p (nearer w) 256 r.0 = grind (arith, nat_tests) in
        omega arith

  last_taken : (xs : List Candidate) (s t u : Take (Heap Candidate)) (i n : ℕ) (o : Option Candidate) → i + take_count s ≡ n → i ≤ count p 256 → Heaped (ahead by_weight) (content (take_source s)) → Holds (content (take_source s)) w (remaining w p i) 256 → Last w p i o → Yields (take_steps Steps) s xs t → take_steps Steps t None u → Last w p (min n (count p 256)) (last_or o xs)
  last_taken [] s t u i n o end few heaped holds last same none =
      let left : 0 < take_count s → count p 256 ≤ i = λ more.
      ⊎_elim (λ (l : i < count p 256). absurd (picking_some w p i l (content (take_source s)) holds (subst (λ v. 0 < take_count v → content (take_source v) ≡ []) (sym same) (λ m. (none m).0.0) more))) (λ (l : count p 256 ≤ i). l) (cases_lt i (count p 256))
      in
      let all : i ≡ min n (count p 256) = ⊎_elim (λ (l : 0 < take_count s). let e = left l in omega arith) (λ (l : take_count s ≤ 0). omega arith) (cases_lt 0 (take_count s)) in
      subst (λ (m : ℕ). Last w p m o) all last
  last_taken (x ∷ xs) s t u i n o end few heaped holds last run none =
      let next = run.0 in
      let step = run.1.0 in
      let enough = more_left i (content (take_source s)) (content (take_source next)) x holds step.0 in
      let of = of_slot i (content (take_source s)) (content (take_source next)) x holds step.0 in
      let pick = picked w p i enough (content (take_source s)) holds (content (take_source next)) x step.0 (step.3 heaped) in
      last_taken xs next t u (i + 1) n (Some x) (omega (arith, run.1.1)) (omega arith) (step.2 heaped) pick.others (of.3, pick.slot, pick.held, omega (arith, pick.ranked)) run.2 none

  pub last_is : (s : Take (Heap Candidate)) (r : Option Candidate) (n : ℕ) → take_count s ≡ n → Heaped (ahead by_weight) (content (take_source s)) → Holds (content (take_source s)) w p 256 → ((xs : List Candidate) × Drains (take_steps Steps) s xs × (r ≡ last_or None xs)) → Last w p (min n (count p 256)) r
  last_is s r n end heaped holds ran =
      subst (Last w p (min n (count p 256))) (sym ran.2)
      (last_taken ran.0 s ran.1.1.0 ran.1.0 0 n None (omega arith) (omega arith) heaped (picking_begins w p (content (take_source s)) holds) refl ran.1.1.1 ran.1.1.2)
