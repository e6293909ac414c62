use Rattle.std.proofs.Common.{◌≡◌, ℕ, ◌<◌, true, refl, sym, ◌∙◌, arith}
use Rattle.bounding.specs.Fields.{belongs_in}
use Rattle.field.specs.Fields.{holds}
use Rattle.samples.specs.Slots.{held}
use Rattle.walks.specs.Walk.{walk}
use Rattle.walks.proofs.Alike.{listed_entered}
use Rattle.walks.proofs.Moments.{listed_many}
use Rattle.walks.proofs.Walked.{bounded}
use Rattle.walk.specs.Moments.{scene_then, view_then, wants}
use Rattle.walk.specs.declared.moment.Wanted.TheVariants.{Listed}
use Rattle.walk.proofs.Filling.{wants_listed, wants_count, fills_lists}
use Rattle.walk.proofs.Settling.{asked_some}
use Rattle.walk.proofs.Stepping.{fair, walked_at}
use Rattle.walk.proofs.moment.Moment.list.Goals as goal

pub returns : goal.returns
returns g c i now =
    let z = c.args.self.now in
    let m = z.measure.now in
    let q = z.question.now in
    let d = z.field.now in
    let laws = g.met.M.Measure in
    let some = asked_some q in
    let e = scene_then g.M.Measure.weighed g.M.Measure.joined z in
    let v = view_then g.M.Measure.weighed g.M.Measure.joined z i in
    let known = walked_at _ _ (laws.weigh_rises m) (laws.join_rises m) d q.reading.values q.k some c.requires i in
    let bounds = bounded e (belongs_in d) q.k (fair _ _ (laws.weigh_rises m) (laws.join_rises m) d q.reading.values) (walk e q.k i) known in
    let many = listed_many v q.k bounds some known.enough in
    let last = c.last_active-last.ensures i now in
    let r = c.last_active-last.result in
    let held_wanted : (s : ℕ) → s < 256 → wants (Listed r) v q.k s ≡ true → held (holds d) s ≡ true = λ s l h.
    let a = wants_listed v q.k refl r last s l in
    let b : v.entered s ≡ true = listed_entered v q.k s (sym a ∙ h) in
    grind arith
    in
    let all = wants_count v q.k refl r last many in
    fills_lists v q.k refl r last many c.fill.result (c.fill.ensures v.weight (wants (Listed r) v q.k) (c.queue.ensures.holds i now) (omega arith) held_wanted)
