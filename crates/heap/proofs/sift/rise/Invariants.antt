use Rattle.std.proofs.Common.{◌-◌, ◌<◌, length, get_or}
use Rattle.std.specs.List.Sorted.{IsPermutation}
use Rattle.heap.specs.Order.{Kept}
use Rattle.heap.proofs.Sifts.{But, Over}
use Rattle.heap.proofs.sift.rise.Given as goal

abbrev pub invariant-loop-at : goal.invariant-loop-at
invariant-loop-at g l =
    let lt = g.T.Item.ahead in
    let n = length l.initial.items in
    (l.at < n) × IsPermutation l.initial.items l.items × (Kept lt l.initial.items (n - 1) → (d : g.row.T.Denot) → But lt n (λ k. get_or l.items k d) l.at × Over lt n (λ k. get_or l.items k d) l.at)

abbrev pub decreases-loop-at : goal.decreases-loop-at
decreases-loop-at g l = l.at
