use Rattle.std.proofs.Common.{◌+◌, ◌-◌, ◌*◌}
use Rattle.drawing.proofs.build.Builder.+building.Given as goal

abbrev pub decreases-build_box : goal.decreases-build_box
decreases-build_box l = 2 * (80 - l.k.depth) + 1

abbrev pub decreases-build_shrink : goal.decreases-build_shrink
decreases-build_shrink l = 2 * (80 - l.k.depth)

abbrev pub decreases-build_split : goal.decreases-build_split
decreases-build_split l = 2 * (80 - l.k.depth)
