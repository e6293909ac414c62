use Rattle.std.proofs.Common.{rules}
use Rattle.bounding.specs.Distances.{gap_to}
use Rattle.bounding.proofs.gap_to.Goals as goal

pub returns : goal.returns
unfolding gap_to
returns c = search rules
