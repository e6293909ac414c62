use Rattle.std.proofs.Common.{length, ap, arith, rules}
use Rattle.boxes.specs.Views.{box_of}
use Rattle.trees.specs.Drawing.{size}
use Rattle.trees.proofs.Drawn.{rebuilt_size}
use Rattle.drawing.specs.Held.{held_in}
use Rattle.drawing.proofs.Whole.{plan_whole, run_whole, whole_size, whole_bound, whole_numbered, whole_tallied}
use Rattle.drawing.proofs.draw.Goals as goal

pub build_box-requires : goal.build_box-requires
build_box-requires c =
    let a = held_in c.args.slots.now in
    let k = box_of c.everything.result in
    let few = rebuilt_size a (omega arith) in
    let s = ap size (plan_whole a k c.everything.ensures) in
    let none = ap length c.clear.ensures in
    record {
      run = run_whole a k c.everything.ensures c.gather-run.result.items c.deref_mut.result.now c.deref_mut.ensures.value c.gather-run.ensures;
      room = omega arith;
    }

pub returns : goal.returns
returns c =
    let a = held_in c.args.slots.now in
    let k = box_of c.everything.result in
    let all = c.everything.ensures in
    let drawn = c.build_box.ensures.drawn in
    let same = c.build_box.ensures.same.nodes in
    let size = whole_size a k all _ _ c.clear.ensures drawn in
    let numbered = whole_numbered a k all _ _ c.clear.ensures drawn in
    let tallied = whole_tallied a k all _ _ c.clear.ensures drawn in
    let bound = whole_bound a k all _ _ c.clear.ensures drawn (omega arith) in
    record {
      bound = search rules;
      size = search rules;
      numbered = search rules;
      tallied = search rules;
    }
