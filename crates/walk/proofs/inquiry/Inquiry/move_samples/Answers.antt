use Rattle.std.proofs.Common.{◌∙◌, get_or-set_other, arith}
use Rattle.field.specs.Fields.{holds, tree}
use Rattle.walk.specs.Places.{moved_place}
use Rattle.walk.proofs.Moved.{written_more}
use Rattle.walk.proofs.inquiry.Inquiry.move_samples.Goals as goal

pub loop-slot-preserved : goal.loop-slot-preserved
loop-slot-preserved g c =
    let d = c.args.self.now.field.now in
    let i = c.loop-slot.invariant in
    record {
      moved = written_more (moved_place (holds d) (tree d) c.args.number) c.args.places.now c.loop-slot.places c.loop-slot.slot c.place_after.result (omega arith) c.place_after.ensures i.moved i.rest;
      rest = λ s l. get_or-set_other c.loop-slot.places c.loop-slot.slot s c.place_after.result 0 (omega arith) ∙ i.rest s (omega arith);
    }

pub returns : goal.returns
returns g c s l = c.loop-slot.invariant.moved s (omega arith)
