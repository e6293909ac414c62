use Rattle.std.proofs.Common.{◌≡◌, arith, true, false, get_or, subst, Some}
use Rattle.bounding.specs.Fields.{belongs_in}
use Rattle.field.specs.Fields.{holds}
use Rattle.std.specs.List.{All, Contains}
use Rattle.std.specs.Prelude.{MatchOption}
use Rattle.entries.specs.declared.entry.Entry.{Entry}
use Rattle.samples.proofs.Tabled.{held_some}
use Rattle.samples.specs.Slots.{at, point, table}
use Rattle.samples.specs.declared.slots.Slots.{Slots}
use Rattle.walks.specs.Walk.{walk}
use Rattle.walk.specs.Moments.{scene_then, stands_by}
use Rattle.walk.proofs.Settling.{asked_some}
use Rattle.walk.proofs.Spotting.{spotted}
use Rattle.walk.proofs.Stepping.{whole_at}
use Rattle.walk.proofs.moment.Moment.spot.Goals as goal

pub returns : goal.returns
returns g c i now =
    let z = c.args.self.now in
    let m = z.measure.now in
    let q = z.question.now in
    let d = z.field.now in
    let laws = g.met.M.Measure in
    let e = scene_then g.M.Measure.weighed g.M.Measure.joined z in
    let whole = whole_at _ _ (laws.weigh_rises m) (laws.join_rises m) d q.reading.values q.k (asked_some q) c.requires i in
    spotted e (belongs_in d) (walk e q.k i) whole z.places.now now.placed c.args.slot (omega arith)
    (held_some (holds d) c.args.slot (point c.in_ok-get.field-0.now) (subst (λ (xs : Slots). Some (point c.in_ok-get.field-0.now) ≡ at (table xs) c.args.slot) c.slots.ensures c.in_ok-get.ensures))
    z.table.now.entries.items now.shows c.find.result
    (subst (λ n. MatchOption c.find.result (All (λ (y : Entry). stands_by y.of c.args.slot (get_or z.places.now n 0) ≡ false) z.table.now.entries.items) (λ (y : Entry). Contains z.table.now.entries.items y × (stands_by y.of c.args.slot (get_or z.places.now n 0) ≡ true))) c.from.ensures c.find.ensures)
