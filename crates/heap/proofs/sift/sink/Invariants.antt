use Rattle.std.proofs.Common.{◌-◌, length, get_or}
use Rattle.std.specs.List.Sorted.{IsPermutation}
use Rattle.heap.specs.Order.{KeptBelow}
use Rattle.heap.proofs.Sifts.{Under, Over}
use Rattle.heap.proofs.sift.sink.Given as goal

abbrev pub invariant-loop-at : goal.invariant-loop-at
invariant-loop-at g l =
    let lt = g.T.Item.ahead in
    let n = length l.initial.items in
    IsPermutation l.initial.items l.items × (KeptBelow lt l.initial.items → (d : g.row.T.Denot) → Under lt n (λ k. get_or l.items k d) l.at × Over lt n (λ k. get_or l.items k d) l.at)

abbrev pub decreases-loop-at : goal.decreases-loop-at
decreases-loop-at g l = length l.initial.items - l.at
