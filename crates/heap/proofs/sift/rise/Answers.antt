use Rattle.std.proofs.Common.{ℕ, length, get_or, sym, ap, ◌∙◌, ⊎_elim, arith}
use Rattle.std.proofs.lemmas.List.Edits.{Swapped}
use Rattle.std.proofs.lemmas.List.Sorted.{IsPermutation-trans}
use Rattle.std.proofs.lemmas.Bool.{cases_eq}
use Rattle.heap.specs.Order.{above}
use Rattle.heap.proofs.Order.{order}
use Rattle.heap.proofs.Sifts.{rise_but, rise_over}
use Rattle.heap.proofs.sift.rise.Goals as goal

pub returns-then-not-ahead_at : goal.returns-then-not-ahead_at
returns-then-not-ahead_at g c =
    let lt = g.T.Item.ahead in
    let xs = c.loop-at.items in
    record {
      heaped = λ was d k p l.
          ⊎_elim (λ e. ap (λ i. lt (get_or xs i d) (get_or xs (above i) d)) e ∙ sym (c.if-not-ahead_at.ensures d))
          (λ ne. (c.loop-at.invariant.2 was d).0 k p (omega arith) ne)
          (cases_eq k c.loop-at.at);
      shuffled = c.loop-at.invariant.1;
    }

pub loop-at-preserved : goal.loop-at-preserved
loop-at-preserved g c =
    let lt = g.T.Item.ahead in
    let o = order g.met.T.Item.one g.met.T.Item.neither g.met.T.Item.carries in
    let n = length c.args.items.now in
    let at = c.loop-at.at in
    let f = λ (d : g.row.T.Denot) (k : ℕ). get_or c.loop-at.items k d in
    let f' = λ (d : g.row.T.Denot) (k : ℕ). get_or c.swap.new.self k d in
    let places = c.swap.ensures.by_index in
    let inv = c.loop-at.invariant in
    let swapped : (d : g.row.T.Denot) → Swapped (f d) (f' d) at (above at) = λ d. (places.0 d, places.1 d, λ k. places.2 k d) in (
      omega arith,
      IsPermutation-trans _ _ _ inv.1 c.swap.ensures.permutation,
      λ was d. (
        rise_but lt o n (f d) (f' d) at (swapped d) c.loop-at-test.true inv.0 (inv.2 was d).0 (inv.2 was d).1 (sym (c.if-not-ahead_at.ensures d)),
        rise_over lt o n (f d) (f' d) at (swapped d) c.loop-at-test.true inv.0 (inv.2 was d).0,
      ),
    )

pub returns-clause-heaped : goal.returns-clause-heaped
returns-clause-heaped g c was d k p l = (c.loop-at.invariant.2 was d).0 k p (omega arith) (omega arith)
