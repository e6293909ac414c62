use Rattle.std.proofs.Common.{refl}
use Rattle.trees.specs.Boxes.{side, halved}
use Rattle.boxes.proofs.bounds.methods.side_at.Goals as goal

pub returns : goal.returns
unfolding side halved
returns c = refl
