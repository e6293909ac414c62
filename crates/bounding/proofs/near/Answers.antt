use Rattle.std.proofs.Common.{◌∙◌, arith}
use Rattle.bounding.proofs.Covered.{join_ext, covered_between}
use Rattle.bounding.proofs.near.Goals as goal

pub returns-clause-value : goal.returns-clause-value
returns-clause-value g c = c.join_gaps.ensures ∙ join_ext _ _ _ _ 7 (λ b l. c.near_gaps.ensures b (omega arith))

pub returns-clause-between : goal.returns-clause-between
returns-clause-between g c =
    let m = c.args.measure.now in
    let laws = g.met.M.Measure in
    covered_between _ _ (laws.weigh_rises m) (laws.join_rises m) _ _
