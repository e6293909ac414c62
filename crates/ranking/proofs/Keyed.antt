-- The code that `min_by_key` picks is the leader, where the keys fall as the votes rise. Assumes nothing.
use Rattle.std.proofs.Common.{◌≡◌, ℕ, zero, suc, ◌+◌, ◌<◌, ◌∷◌, Bor, Option, Some, sym, ap, ◌∙◌, subst, arith}
use Rattle.std.proofs.iter.Yields.{gives_Drains}
use Rattle.std.proofs.lemmas.Iterator.{YieldsList}
use Rattle.std.proofs.lemmas.List.{map-id}
use Rattle.std.specs.Cmp.{ranked}
use Rattle.std.specs.Fn.{CalledAt}
use Rattle.std.specs.Iterator.{KeyTurn, PicksMinByKey}
use Rattle.std.specs.List.{FoldsTo, range_with_len}
use Rattle.std.specs.Ordering.{nat_cmp, min_by_ordering, MatchOrdering}
use Rattle.std.specs.declared.cmp.Ordering.{Ordering}
use Rattle.std.specs.declared.cmp.Ordering.TheVariants.{Less, Equal, Greater}
use denote.Param.Members.{Mut}
use Rattle.ranking.specs.Majority.{leader}
use Rattle.ranking.proofs.Leading.{leader_more, leader_leads}

-- a key holds the votes of its code
module _ {F K : Type 0} (g : Mut F (Bor ℕ × Unit {0}) K) (votes : K → ℕ) (v : ℕ → ℕ) (f : F)
    (called : (x : ℕ) (k : K) (q : F) → CalledAt g f x k q → (q ≡ f) × (votes k ≡ v x)) where
  abbrev turn : (F × K) × ℕ → ℕ → (F × K) × ℕ → Type 0
  turn = KeyTurn min_by_ordering min_by_ordering g (λ j k. nat_cmp (votes k) (votes j))

  -- the closure as it was, the best of the codes below m, and its key
  abbrev Best : ℕ → (F × K) × ℕ → Type 0
  Best m p = (p.0.0 ≡ f) × (votes p.0.1 ≡ v p.1) × (p.1 ≡ leader v m)

  better_key : (m b : ℕ) (j k : K) (o : Ordering) → votes j ≡ v b → votes k ≡ v m → b ≡ leader v m → MatchOrdering o (votes k < votes j) (votes k ≡ votes j) (votes j < votes k) → (votes (min_by_ordering o j k) ≡ v (min_by_ordering o b m)) × (min_by_ordering o b m ≡ leader v (m + 1))
  better_key m b j k Less x y e h = (x, (leader_more v m b e).1 (omega arith))
  better_key m b j k Equal x y e h = (x, (leader_more v m b e).1 (omega arith))
  better_key m b j k Greater x y e h = (y, (leader_more v m b e).0 (omega arith))

  one_turn : (m : ℕ) (p q : (F × K) × ℕ) → Best m p → turn p m q → Best (m + 1) q
  one_turn m p q h t =
      let call = called m t.0 q.0.0 (subst (λ w. CalledAt g w m t.0 q.0.0) h.0 t.2) in
      let best = better_key m p.1 p.0.1 t.0 t.1 h.1 call.1 h.2 (ranked _ _ t.1 (sym t.3)) in
      (call.0, rw (t.4, t.5) best.0, t.5 ∙ best.1)

  turns : (n m : ℕ) (p q : (F × K) × ℕ) → Best m p → FoldsTo turn p (range_with_len m n) q → q.1 ≡ leader v (m + n)
  turns zero m p q h t = ap (λ w. w.1) (sym t) ∙ h.2 ∙ ap (leader v) (omega arith)
  turns (suc n) m p q h t = turns n (m + 1) t.0 q (one_turn m p t.0 h t.1) t.2 ∙ ap (leader v) (omega arith)

  pub leader_by_key : {S : Type 0} {steps : S → Option ℕ → S → Type 0} {s : S} (n r : ℕ) → PicksMinByKey steps g (λ j k. nat_cmp (votes k) (votes j)) s f (Some r) → YieldsList steps (λ x. x) s (range_with_len 0 (suc n)) → r ≡ leader v (suc n)
  leader_by_key {S} {steps} {s} n r d e =
      let codes = sym (map-id (d.0 ∷ d.1)) ∙ gives_Drains steps (λ x. x) (d.0 ∷ d.1) (range_with_len 0 (suc n)) s e.runs d.5 in
      let first : d.0 ≡ 0 = cc in
      let rest : d.1 ≡ range_with_len (0 + 1) n = cc in
      let call = called d.0 d.2 d.3 d.6 in
      let best : Best 1 ((d.3, d.2), d.0) = (call.0, call.1, omega (arith, first, (leader_leads v 0).code)) in
      turns n 1 _ (d.4, r) best (rw rest at d.7) ∙ ap (leader v) (omega arith)
