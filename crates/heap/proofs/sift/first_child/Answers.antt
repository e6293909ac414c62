use Rattle.std.proofs.Common.{◌≡◌, ◌+◌, ◌*◌, get_or, sym, ap, ◌∙◌, ⊎_elim, arith}
use Rattle.std.proofs.lemmas.Bool.{cases_eq}
use Rattle.heap.proofs.Order.{order, itself}
use Rattle.heap.proofs.sift.first_child.Goals as goal
use Rattle.heap.proofs.sift.first_child.Goals.{else-right-items-via-then-right-items+else-ahead_at, else-right-items-via-else-right-items}

pub returns-then-ahead_at : goal.returns-then-ahead_at
returns-then-ahead_at g c =
    let lt = g.T.Item.ahead in
    let o = order g.met.T.Item.one g.met.T.Item.neither g.met.T.Item.carries in
    let xs = c.args.items.now in
    let left = 2 * c.args.at + 1 in
    let right = left + 1 in
    record {
      below = omega arith;
      within = (omega arith, omega arith);
      first = λ d k p l e.
          ⊎_elim (λ q. let s = itself o (get_or xs right d) in ap (λ i. lt (get_or xs i d) (get_or xs right d)) q ∙ s)
          (λ ne.
          let q : k ≡ left = omega arith in
          ap (λ i. lt (get_or xs i d) (get_or xs right d)) q ∙ o.one_way _ _ (sym (c.if-ahead_at.ensures d)))
          (cases_eq k right);
    }

pub returns-else-right-items : goal.returns-else-right-items
returns-else-right-items g c =
    let lt = g.T.Item.ahead in
    let o = order g.met.T.Item.one g.met.T.Item.neither g.met.T.Item.carries in
    let xs = c.args.items.now in
    let left = 2 * c.args.at + 1 in
    record {
      below = omega arith;
      within = (omega arith, omega arith);
      first = λ d k p l e.
          ⊎_elim (λ q. ap (λ i. lt (get_or xs i d) (get_or xs left d)) q ∙ itself o (get_or xs left d))
          (λ ne.
          let q : k ≡ left + 1 = omega arith in
          elim c.else-right-items.branch [
            | else-right-items-via-then-right-items+else-ahead_at w ↦ ap (λ i. lt (get_or xs i d) (get_or xs left d)) q ∙ sym (w.if-ahead_at.ensures d)
            | else-right-items-via-else-right-items w ↦ absurd (omega (arith, w.if-right-items.false))
          ])
          (cases_eq k left);
    }
