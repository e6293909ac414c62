use Rattle.std.proofs.Common.{ℕ}
use Rattle.entries.specs.Shows.{Shows}
use Rattle.walks.specs.Walk.{Place}
use Rattle.walk.specs.Inquiries.{scene_in}
use Rattle.walk.specs.Places.{leaving, singled, StandIn}
use Rattle.walk.proofs.inquiry.Inquiry.enter_samples.Given as goal

abbrev pub invariant-loop-slot : goal.invariant-loop-slot
invariant-loop-slot g l =
    let z = scene_in g.M.Measure.weighed g.M.Measure.joined l.self in
    (p : ℕ → Place) → Shows z (leaving z l.number p) l.initial.table.entries.items → StandIn z l.number p l.places → Shows z (singled z l.slot l.number p) l.table.entries.items
