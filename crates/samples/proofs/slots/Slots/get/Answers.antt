use Rattle.std.proofs.Common.{◌<◌, length, arith, rules}
use Rattle.samples.proofs.Tabled.{at_table}
use Rattle.samples.proofs.slots.Slots.get.Goals as goal

pub returns : goal.returns
returns c =
    let xs = c.args.self.now in
    let i = c.from.result in
    let l : i < length xs.cells = omega arith in
    let e = at_table xs i c.index-self-from.result l in
    search rules
