use Rattle.std.proofs.Common.{◌≡◌, is_some, sum_by, sym, ◌∙◌, arith, rules, tests}
use Rattle.std.proofs.lemmas.Iterator.{YieldsList-from_slice}
use Rattle.std.proofs.lemmas.Iterator.Adapters.{fits_from_length, at_most_from_yields_List}
use mir.Val.{bool_byte}
use Rattle.samples.proofs.Tabled.{samples_counted}
use Rattle.samples.proofs.slots.Slots.count.Goals as goal

pub sum-requires-clause-fits : goal.sum-requires-clause-fits
sum-requires-clause-fits c =
    fits_from_length _ _ 256 _ (at_most_from_yields_List (YieldsList-from_slice c.args.self.now.cells cc) (omega (arith, c.args.self.now.whole))) c.map.ensures.closure (omega arith)
    (λ x r q k. search (rules, tests))

pub returns : goal.returns
returns c =
    let xs = c.args.self.now in
    let e : c.sum.result ≡ sum_by (λ o. bool_byte (is_some o)) xs.cells = search rules in
    e ∙ sym (samples_counted xs)
