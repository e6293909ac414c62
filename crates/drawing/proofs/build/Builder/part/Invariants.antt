use Rattle.boxes.specs.Views.{box_of}
use Rattle.trees.specs.Drawing.{lodged}
use Rattle.drawing.specs.Builds.{over}
use Rattle.drawing.proofs.Parting.{Parting}
use Rattle.drawing.proofs.build.Builder.part.Given as goal

abbrev pub invariant-loop-i : goal.invariant-loop-i
invariant-loop-i l = Parting (lodged (over l.self) (box_of l.k)) l.initial.run l.run l.front l.i
