use Rattle.std.proofs.Common.{◌-◌, ◌<◌, ◌≤◌, true, nat_lt, nat_le}
use Rattle.entries.specs.Sums.{bound, size}
use Rattle.entries.proofs.table.Table.kth.Given as goal

abbrev pub invariant-loop-low : goal.invariant-loop-low
invariant-loop-low l =
    let es = l.self.entries.items in
    (l.low ≤ l.high)
    × (0 < l.k → l.k ≤ size (λ e. true) es → (size (λ e. nat_lt (bound l.side e) l.low) es < l.k) × (l.k ≤ size (λ e. nat_le (bound l.side e) l.high) es))

abbrev pub decreases-loop-low : goal.decreases-loop-low
decreases-loop-low l = l.high - l.low
