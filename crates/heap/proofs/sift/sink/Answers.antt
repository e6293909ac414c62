use Rattle.std.proofs.Common.{ℕ, length, get_or, sym, ap, ◌∙◌, ⊎_elim, arith}
use Rattle.std.proofs.lemmas.List.Edits.{Swapped}
use Rattle.std.proofs.lemmas.List.Sorted.{IsPermutation-trans}
use Rattle.std.proofs.lemmas.Bool.{cases_eq}
use Rattle.heap.specs.Order.{above}
use Rattle.heap.proofs.Order.{order}
use Rattle.heap.proofs.Sifts.{sink_under, sink_over}
use Rattle.heap.proofs.sift.sink.Goals as goal

pub returns-then-not-ahead_at : goal.returns-then-not-ahead_at
returns-then-not-ahead_at g c =
    let lt = g.T.Item.ahead in
    let o = order g.met.T.Item.one g.met.T.Item.neither g.met.T.Item.carries in
    let xs = c.loop-at.items in
    let at = c.loop-at.at in
    let child = c.first_child-child.result in
    record {
      heaped = λ was d k p l.
          ⊎_elim
          (λ e.
          let under = c.first_child-child.ensures.first d k p l e in
          let top = sym (c.if-not-ahead_at.ensures d) in
          ap (λ i. lt (get_or xs k d) (get_or xs i d)) e ∙ o.chain (get_or xs k d) (get_or xs child d) (get_or xs at d) under top)
          (λ ne. (c.loop-at.invariant.1 was d).0 k p (omega arith) ne)
          (cases_eq (above k) at);
      shuffled = c.loop-at.invariant.0;
    }

pub loop-at-preserved : goal.loop-at-preserved
loop-at-preserved g c =
    let lt = g.T.Item.ahead in
    let o = order g.met.T.Item.one g.met.T.Item.neither g.met.T.Item.carries in
    let n = length c.args.items.now in
    let at = c.loop-at.at in
    let child = c.first_child-child.result in
    let found = c.first_child-child.ensures in
    let f = λ (d : g.row.T.Denot) (k : ℕ). get_or c.loop-at.items k d in
    let f' = λ (d : g.row.T.Denot) (k : ℕ). get_or c.swap.new.self k d in
    let places = c.swap.ensures.by_index in
    let inv = c.loop-at.invariant in
    let swapped : (d : g.row.T.Denot) → Swapped (f d) (f' d) at child = λ d. (places.0 d, places.1 d, λ k. places.2 k d) in (
      IsPermutation-trans _ _ _ inv.0 c.swap.ensures.permutation,
      λ was d. (
        sink_under lt o n (f d) (f' d) at child (swapped d) found.within.0 (omega arith) found.below (inv.1 was d).0 (inv.1 was d).1 (sym (c.if-not-ahead_at.ensures d)) (λ k p l e. found.first d k p (omega arith) e),
        sink_over lt o n (f d) (f' d) at child (swapped d) found.within.0 found.below (inv.1 was d).0,
      ),
    )

pub returns-clause-heaped : goal.returns-clause-heaped
returns-clause-heaped g c was d k p l = (c.loop-at.invariant.1 was d).0 k p (omega arith) (omega arith)
