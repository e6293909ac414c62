use Rattle.std.proofs.Common.{rules}
use Rattle.bounding.specs.Distances.{reach_to}
use Rattle.bounding.proofs.reach_to.Goals as goal

pub returns : goal.returns
unfolding reach_to
returns c = search rules
