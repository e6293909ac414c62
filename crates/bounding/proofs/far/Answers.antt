use Rattle.std.proofs.Common.{◌∙◌, arith}
use Rattle.bounding.proofs.Covered.{join_ext}
use Rattle.bounding.proofs.far.Goals as goal

pub returns : goal.returns
returns g c = c.join_gaps.ensures ∙ join_ext _ _ _ _ 7 (λ b l. c.far_gaps.ensures b (omega arith))
