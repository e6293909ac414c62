use Rattle.std.proofs.Common.{◌≡◌, ◌<◌, true, length, None, arith}
use Rattle.samples.specs.Slots.{table, held}
use Rattle.samples.proofs.Tabled.{set_table, held_table}
use Rattle.std.proofs.lemmas.Bool.Decides.{nat_tests}
use Rattle.samples.proofs.slots.Slots.withdraw.Goals as goal

pub returns : goal.returns
returns c =
    let xs = c.args.self.now in
    let s = c.args.slot in
    let l : c.in_ok-at.at < length xs.cells = omega arith in
    let h = held_table xs c.in_ok-at.at c.index-self-at.result l in
    let h : held (table xs) s ≡ true = grind arith in
    let w = set_table xs s None in
    grind (arith, nat_tests)
