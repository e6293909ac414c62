use Rattle.std.proofs.Common.{◌≡◌, ℕ, List, get_or, ap, rules}
use Rattle.bounding.specs.Distances.{gap_to}
use Rattle.bounding.proofs.near_gaps.Goals as goal

pub returns : goal.returns
returns c b l =
    let made : get_or c.from_fn.result b 0 ≡ gap_to (get_or c.corner-first.result.now b 0) (get_or c.lasts-last.result b 0) (get_or c.args.reading.now b 0) = search rules in
    let first = ap (λ (xs : List ℕ). get_or xs b 0) c.corner-first.ensures in
    let last = c.lasts-last.ensures b l in
    cc
