-- The node that comes out of the heap of open nodes is the one that a walk opens. Assumes nothing.
use Rattle.std.proofs.Common.{◌≡◌, ℕ, ◌<◌, ◌≤◌, Bool, true, false, ◌&&◌, eqb, List, [], ◌∷◌, ◌++◌, length, get_or, sum_by, Option, Some, None, is_some, refl, sym, ap, ◌∙◌, ⊎_elim, arith}
use Rattle.std.specs.List.Sorted.{IsPermutation}
use Rattle.std.proofs.lemmas.Bool.{cases_Bool}
use Rattle.std.proofs.lemmas.Bool.Decides.{nat_tests}
use Rattle.std.proofs.lemmas.List.Sums.{sum_by_push}
use Rattle.std.proofs.lemmas.List.Sorted.{sum_by-IsPermutation}
use Rattle.heap.specs.Order.{ahead}
use Rattle.ranking.specs.Counts.{bit}
use Rattle.entries.specs.OpenNodes.{node_in, open_node, by_depth, sooner, ahead_is_sooner}
use Rattle.entries.specs.Queues.{has, Queued}
use Rattle.entries.specs.Sums.{passes}
use Rattle.entries.specs.declared.entry.Entry.{Entry}
use Rattle.entries.specs.declared.entry.Of.{Of}
use Rattle.entries.specs.declared.entry.Of.TheVariants.{Node, Sample}
use Rattle.entries.specs.declared.open.OpenNode.{OpenNode}
use Rattle.entries.specs.declared.part.Part.TheVariants.{Active}
use Rattle.entries.specs.declared.span.Span.{Span}
use Rattle.entries.proofs.Summed.{sum_at, sum_find, sum_none}

-- the same depth and the same number
abbrev same : OpenNode → OpenNode → Bool
same x y = eqb x.depth y.depth && eqb x.number y.number

same_is : (x : OpenNode) (o : Option OpenNode) → has (same x) o ≡ true → o ≡ Some x
same_is x None h = cc
same_is x (Some y) h =
    let of : ℕ → ℕ → OpenNode = λ t n. record { depth = t; number = n } in
    let depth : y.depth ≡ x.depth = grind (arith, nat_tests) in
    let number : y.number ≡ x.number = grind (arith, nat_tests) in
    ap Some (ap (λ t. of t y.number) depth ∙ ap (of x.depth) number)

-- an open node is of its entry
pub open_is : (z : Span) (e : Entry) (x : OpenNode) → open_node z e ≡ Some x → e.of ≡ Node x.number x.depth
open_is z e x h = go e.of (passes (Active z) e) h
  where
    go : (o : Of) (b : Bool) → node_in o b ≡ Some x → o ≡ Node x.number x.depth
    go (Node n t) true h = cc
    go (Node n t) false h = cc
    go (Sample r) b h = cc

module _ (z : Span) (es : List Entry) (xs : List OpenNode) (queued : Queued (open_node z) es xs) where
  -- nothing was queued, so no entry is an open node
  pub none_open : xs ≡ [] → (i : ℕ) (d : Entry) → i < length es → is_some (open_node z (get_or es i d)) ≡ false
  none_open e i d l =
      let a = queued (λ _. true) in
      let none : sum_by (λ x. bit true) xs ≡ 0 = ap (sum_by (λ x. bit true)) e in
      let here = sum_at (λ e. bit (has (λ _. true) (open_node z e))) es i d l in
      go (open_node z (get_or es i d)) (omega arith)
    where
      go : (o : Option OpenNode) → bit (has (λ _. true) o) ≤ 0 → is_some o ≡ false
      go None h = refl
      go (Some x) h = absurd (omega arith)

  module _ (ys : List OpenNode) (x : OpenNode) (out : IsPermutation xs (ys ++ x ∷ [])) where
    -- what came out is the node of an entry
    pub came_from : (i : ℕ) × (i < length es) × ((d : Entry) → open_node z (get_or es i d) ≡ Some x)
    came_from =
        let f : OpenNode → ℕ = λ y. bit (same x y) in
        let a = sum_by-IsPermutation f xs (ys ++ x ∷ []) out in
        let b = sum_by_push f ys x in
        let self : same x x ≡ true = grind (arith, nat_tests) in
        let one = ap bit self in
        let c = queued (same x) in
        let r = sum_find (λ e. has (same x) (open_node z e)) es (omega arith) in
        (r.0, r.1, λ d. same_is x (open_node z (get_or es r.0 d)) (r.2 d))

    -- and no entry's node comes before it
    pub none_sooner : ((d : OpenNode) (k : ℕ) → k < length xs → ahead by_depth (get_or xs k d) x ≡ false) → (i : ℕ) (d : Entry) (y : OpenNode) → i < length es → open_node z (get_or es i d) ≡ Some y → sooner y x ≡ false
    none_sooner least i d y l e =
        let zero_sum = sum_none (λ n. bit (sooner n x)) xs (λ k n m. ap bit (sym (ahead_is_sooner (get_or xs k n) x) ∙ least n k m)) in
        let c = queued (λ n. sooner n x) in
        let here = sum_at (λ u. bit (has (λ n. sooner n x) (open_node z u))) es i d l in
        let there : bit (has (λ n. sooner n x) (open_node z (get_or es i d))) ≡ bit (sooner y x) = ap (λ o. bit (has (λ n. sooner n x) o)) e in
        ⊎_elim (λ h. absurd (omega (arith, ap bit h))) (λ h. h) (cases_Bool (sooner y x))
