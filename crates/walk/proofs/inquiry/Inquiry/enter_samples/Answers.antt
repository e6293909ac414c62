use Rattle.std.proofs.Common.{◌≡◌, ◌+◌, eqb, get_or, ap, ◌∙◌, subst, arith}
use Rattle.entries.specs.Shows.{Shows}
use Rattle.walk.specs.Inquiries.{scene_in}
use Rattle.walk.specs.Places.{singled}
use Rattle.walk.proofs.Entered.{single_begins}
use Rattle.walk.proofs.inquiry.Inquiry.enter_samples.Goals as goal

pub loop-slot-init : goal.loop-slot-init
loop-slot-init g c p shows stand =
    single_begins (scene_in g.M.Measure.weighed g.M.Measure.joined c.args.self.now) c.args.number p c.args.table.now.entries.items shows

pub loop-slot-preserved : goal.loop-slot-preserved
loop-slot-preserved g c p shows stand =
    c.enter_sample.ensures c.args.number p (c.loop-slot.invariant p shows stand) (λ h. ap (λ i. eqb (get_or c.args.places.now i 0) c.args.number) c.from.ensures ∙ stand c.loop-slot.slot (omega arith) h)

pub returns-2 : goal.returns-2
returns-2 g c p shows stand =
    let z = scene_in g.M.Measure.weighed g.M.Measure.joined c.args.self.now in
    let last : c.loop-slot.slot + 1 ≡ 256 = omega arith in
    subst (λ n. Shows z (singled z n c.args.number p) c.enter_sample.new.table.entries.items) last
    (c.enter_sample.ensures c.args.number p (c.loop-slot.invariant p shows stand) (λ h. ap (λ i. eqb (get_or c.args.places.now i 0) c.args.number) c.from.ensures ∙ stand c.loop-slot.slot (omega arith) h))
