use Rattle.std.proofs.Common.{refl}
use Rattle.trees.specs.Boxes.{side, halved, is_on_grid}
use Rattle.boxes.proofs.Viewed.{zeros_box}
use Rattle.boxes.proofs.bounds.Bounds.everything.Goals as goal

pub invariant_of-result : goal.invariant_of-result
unfolding is_on_grid side halved
invariant_of-result c = record { on_grid = refl }

pub returns : goal.returns
returns c = zeros_box
