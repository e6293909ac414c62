use Rattle.std.proofs.Common.{◌+◌, take, drop, sym, ◌∙◌, subst, arith}
use Rattle.std.proofs.lemmas.List.{get_or-take, length-take-le, take_at}
use Rattle.heap.specs.Order.{Kept, Heaped}
use Rattle.heap.proofs.Contents.{kept_same}
use Rattle.heap.proofs.Heap.push.Goals as goal

pub returns-clause-heaped : goal.returns-clause-heaped
returns-clause-heaped g c was =
    let lt = g.T.Item.ahead in
    let xs = c.args.self.now.items.now in
    let n = c.args.self.now.len in
    let zs = c.put.new.items in
    let long = length-take-le (n + 1) xs (omega arith) in
    let front = length-take-le n xs (omega arith) in
    let more =
    c.put.ensures.heaped
    (λ d k p l. kept_same lt n (take n xs) (take (n + 1) xs) (λ d k h. get_or-take (n + 1) xs k d (omega arith) ∙ sym (get_or-take n xs k d h)) (subst (Kept lt (take n xs)) front was) d k p (omega arith))
    in
    subst (Heaped lt) (sym (take_at zs (drop (n + 1) xs) (n + 1) (omega arith))) more
