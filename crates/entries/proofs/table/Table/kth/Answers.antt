use Rattle.std.proofs.Common.{arith}
use Rattle.entries.specs.Sums.{bound}
use Rattle.entries.proofs.Halving.{size_below_0, size_up_to_top}
use Rattle.entries.proofs.table.Table.kth.Goals as goal

pub loop-low-init : goal.loop-low-init
loop-low-init c =
    let es = c.args.self.now.entries.items in
    let none = size_below_0 (bound c.args.side) es in
    let all = size_up_to_top (bound c.args.side) es c.top-high.result c.top-high.ensures in
    (omega arith, λ o h. (omega arith, omega arith))
