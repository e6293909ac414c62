use Rattle.std.proofs.Common.{◌-◌, [], ◌∷◌, ◌++◌, length, set, ap, ◌∙◌, subst, arith}
use Rattle.std.specs.List.Sorted.{IsPermutation}
use Rattle.std.proofs.lemmas.List.{get_or-set_same, length-set, take-set}
use Rattle.heap.proofs.Contents.{last_off}
use Rattle.heap.proofs.calls.put.Goals as goal

pub returns-clause-items : goal.returns-clause-items
returns-clause-items g c =
    let xs = c.args.items.now in
    let n = length xs in
    let x = c.args.item in
    let long = length-set xs (n - 1) x in
    let end = last_off (set xs (n - 1) x) n x long (omega arith) (get_or-set_same xs (n - 1) x x (omega arith)) ∙ ap (λ l. l ++ x ∷ []) (take-set xs (n - 1) x) in
    subst (λ l. IsPermutation l c.rise.new.items) end c.rise.ensures.shuffled
