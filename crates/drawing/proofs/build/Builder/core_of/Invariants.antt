use Rattle.std.proofs.Common.{◌≡◌, ◌-◌}
use Rattle.boxes.specs.Views.{box_of}
use Rattle.trees.specs.Drawing.{core}
use Rattle.drawing.specs.Builds.{over}
use Rattle.drawing.specs.Runs.{Run}
use Rattle.drawing.proofs.build.Builder.core_of.Given as goal

abbrev pub invariant-loop-low : goal.invariant-loop-low
invariant-loop-low l =
    Run (over l.self) (box_of l.deepest) l.run
    × (core (over l.self) (box_of l.deepest) ≡ core (over l.self) (box_of l.initial.deepest))

abbrev pub decreases-loop-low : goal.decreases-loop-low
decreases-loop-low l = 80 - l.deepest.depth
