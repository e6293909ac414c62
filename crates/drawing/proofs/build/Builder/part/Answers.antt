use Rattle.std.proofs.Common.{sym, arith}
use Rattle.boxes.specs.Views.{box_of}
use Rattle.trees.specs.Drawing.{lodged}
use Rattle.drawing.specs.Builds.{over}
use Rattle.drawing.proofs.Parting.{parting_skip, parting_swap, parting_all, parting_at}
use Rattle.drawing.proofs.build.Builder.part.Goals as goal
use Rattle.drawing.proofs.build.Builder.part.Goals.{then-is_lodged, else-is_lodged}

pub loop-i-preserved : goal.loop-i-preserved
loop-i-preserved c =
    let p = lodged (over c.args.self.now) (box_of c.args.k.now) in
    let xs = c.args.run.now in
    let ys = c.loop-i.run in
    let m = c.loop-i.front in
    let i = c.loop-i.i in
    elim c.if-is_lodged.branch [
      | then-is_lodged w ↦
          parting_at w.run-is w.front-is
          (parting_swap p xs ys w.swap.new.self m i c.loop-i.invariant (omega arith) (sym w.if-is_lodged.ensures) w.swap.ensures.permutation w.swap.ensures.by_index)
      | else-is_lodged w ↦ parting_at w.run-is w.front-is (parting_skip p xs ys m i c.loop-i.invariant (omega arith) (sym w.if-is_lodged.ensures))
    ]

pub returns : goal.returns
returns c =
    let p = lodged (over c.args.self.now) (box_of c.args.k.now) in
    parting_all p c.args.run.now c.loop-i.run c.loop-i.front c.loop-i.i c.loop-i.invariant (omega arith)
