use Rattle.std.proofs.Common.{sym, ◌∙◌, arith}
use Rattle.std.proofs.lemmas.Bool.{ltb-false}
use Rattle.std.proofs.lemmas.List.Sums.{count_by-le-length}
use Rattle.boxes.specs.Views.{box_of}
use Rattle.boxes.proofs.Gridded.{grid_of}
use Rattle.trees.specs.Drawing.{lodged}
use Rattle.trees.proofs.Drawn.{core_stop}
use Rattle.drawing.specs.Builds.{over}
use Rattle.drawing.proofs.Lodging.{halves_smaller, core_stays, core_goes_low, core_goes_high}
use Rattle.drawing.proofs.build.Builder.core_of.Goals as goal

pub loop-low-smaller-in-0 : goal.loop-low-smaller-in-0
loop-low-smaller-in-0 c =
    let e = c.in-Some.ensures in
    (halves_smaller (over c.args.self.now) (box_of c.loop-low.deepest) _ _ e.value e.test c.args.run.now c.loop-low.invariant.0).1

pub loop-low-preserved-in-0 : goal.loop-low-preserved-in-0
loop-low-preserved-in-0 c =
    let a = over c.args.self.now in
    let e = c.in-Some.ensures in
    let j = box_of c.loop-low.deepest in
    let x = core_goes_high a j _ _ e.value e.test c.args.run.now c.loop-low.invariant.0 c.count_in.result c.count_in.ensures (omega arith) in
    (x.0, x.1 ∙ c.loop-low.invariant.1)

pub loop-low-smaller : goal.loop-low-smaller
loop-low-smaller c =
    let e = c.in-Some.ensures in
    (halves_smaller (over c.args.self.now) (box_of c.loop-low.deepest) _ _ e.value e.test c.args.run.now c.loop-low.invariant.0).0

pub loop-low-preserved : goal.loop-low-preserved
loop-low-preserved c =
    let a = over c.args.self.now in
    let e = c.in-Some.ensures in
    let j = box_of c.loop-low.deepest in
    let x = core_goes_low a j _ _ e.value e.test c.args.run.now c.loop-low.invariant.0 c.count_in.result c.count_in.ensures (omega arith) (omega arith) in
    (x.0, x.1 ∙ c.loop-low.invariant.1)

pub returns-in_default-2 : goal.returns-in_default-2
returns-in_default-2 c =
    let a = over c.args.self.now in
    let e = c.in-Some.ensures in
    let j = box_of c.loop-low.deepest in
    let most = count_by-le-length (lodged a (box_of c.in-Some.low)) c.args.run.now in
    sym (core_stays a j _ _ e.value e.test c.args.run.now c.loop-low.invariant.0 c.count_in.result c.count_in.ensures (omega arith) (omega arith))
    ∙ c.loop-low.invariant.1

pub returns-in_default : goal.returns-in_default
returns-in_default c =
    let a = over c.args.self.now in
    let j = c.loop-low.deepest in
    let least = ltb-false j.depth 80 (sym c.in_default.ensures.test) in
    let most = (grid_of j).0 in
    sym (core_stop a (box_of j) (omega arith)) ∙ c.loop-low.invariant.1
