use Rattle.std.proofs.Common.{◌≡◌, ◌<◌, true, false, length, Some, sym, arith}
use Rattle.std.proofs.lemmas.Bool.{and_from, lt-ltb}
use Rattle.std.proofs.lemmas.Bool.Decides.{nat_tests}
use Rattle.samples.specs.Slots.{table, held, legal, point, Point}
use Rattle.samples.proofs.Tabled.{set_table, held_table}
use Rattle.samples.proofs.slots.Slots.admit.Goals as goal

pub returns : goal.returns
returns c =
    let xs = c.args.self.now in
    let s = c.args.slot in
    let l : c.in_ok-at.at < length xs.cells = omega arith in
    let h = held_table xs c.in_ok-at.at c.index-self-at.result l in
    let h : held (table xs) s ≡ false = grind arith in
    let ok : legal s c.args.fibre c.args.values.now ≡ true = and_from _ _ (lt-ltb s 256 (omega arith)) (sym c.in_ok-sample.ensures.test) in
    let w = set_table xs s (Some c.in_ok-sample.sample) in
    let v = c.in_ok-sample.ensures.value in
    let e₁ = v.0 in
    let e₂ = v.1 in
    let p : ◌≡◌ {A = Point} (point c.in_ok-sample.sample) (record { fibre = c.args.fibre; values = c.args.values.now }) = cc in
    grind (arith, nat_tests)
