use Rattle.std.proofs.Common.{◌≡◌, ℕ, ◌-◌, ◌<◌, [], ◌∷◌, ◌++◌, length, get_or, take, drop, sym, ◌∙◌, subst, arith}
use Rattle.std.specs.List.Sorted.{IsPermutation}
use Rattle.std.proofs.lemmas.List.{get_or-take, get_or_append_left, get_or_default, length-take-le, take_at}
use Rattle.std.proofs.lemmas.List.Sorted.{IsPermutation-append_left, IsPermutation-trans}
use Rattle.heap.specs.Order.{above, KeptBelow}
use Rattle.heap.proofs.Contents.{kept_same, last_off}
use Rattle.heap.proofs.Order.{order}
use Rattle.heap.proofs.Sifts.{top_first}
use Rattle.heap.proofs.calls.take_first.Goals as goal

pub returns-clause-items : goal.returns-clause-items
returns-clause-items g c =
    let xs = c.args.items.now in
    let n = length xs in
    let x = c.index-items-0.result in
    let ys = c.swap.new.self in
    let zs = c.sink.new.items in
    let front = length-take-le (n - 1) ys (omega arith) in
    let size : length zs ≡ n - 1 = omega arith in
    let cut = last_off ys n x (omega arith) (omega arith) (c.swap.ensures.by_index.1 x ∙ sym c.index-items-0.is) in
    let moved : IsPermutation xs (zs ++ x ∷ []) =
    IsPermutation-trans _ _ _ (subst (IsPermutation xs) cut c.swap.ensures.permutation)
    (IsPermutation-append_left (x ∷ []) (take (n - 1) ys) zs c.sink.ensures.shuffled)
    in
    subst (λ l. IsPermutation xs (l ++ x ∷ [])) (sym (take_at zs (drop (n - 1) ys) (n - 1) size)) moved

pub returns-clause-first : goal.returns-clause-first
returns-clause-first g c was d k l =
    let xs = c.args.items.now in
    let h = top_first g.T.Item.ahead (order g.met.T.Item.one g.met.T.Item.neither g.met.T.Item.carries) (length xs) (λ i. get_or xs i d) (was d) k l in
    let e = get_or_default xs 0 d c.index-items-0.result (omega arith) in
    cc

pub returns-clause-heaped : goal.returns-clause-heaped
returns-clause-heaped g c was =
    let lt = g.T.Item.ahead in
    let xs = c.args.items.now in
    let n = length xs in
    let ys = c.swap.new.self in
    let zs = c.sink.new.items in
    let front = length-take-le (n - 1) ys (omega arith) in
    let kept : (d : g.row.T.Denot) (k : ℕ) → 0 < k → k < n - 1 → get_or (take (n - 1) ys) k d ≡ get_or xs k d =
    λ d k p l. get_or-take (n - 1) ys k d l ∙ c.swap.ensures.by_index.2 k d (omega arith) (omega arith)
    in
    let below : KeptBelow lt (take (n - 1) ys) =
    λ d k p l ne.
    let h = was d k p (omega arith) in
    let e₁ = kept d k p (omega arith) in
    let e₂ = kept d (above k) (omega arith) (omega arith) in
    cc
    in
    kept_same lt (n - 1) zs _ (λ d k h. get_or_append_left zs _ d k (omega arith))
    (λ d k p l. c.sink.ensures.heaped below d k p (omega arith))
