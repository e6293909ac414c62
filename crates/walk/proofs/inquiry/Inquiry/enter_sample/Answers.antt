use Rattle.std.proofs.Common.{◌≡◌, false, is_some, Some, ap, sym, ◌∙◌, subst, arith}
use Rattle.samples.specs.Slots.{at, table, point, held}
use Rattle.samples.specs.declared.slots.Slots.{Slots}
use Rattle.samples.proofs.Tabled.{held_some}
use Rattle.field.specs.Fields.{holds}
use Rattle.walk.proofs.Entered.{single_none}
use Rattle.walk.proofs.Pushed.{pushed_single}
use Rattle.walk.specs.Inquiries.{scene_in}
use Rattle.walk.proofs.inquiry.Inquiry.enter_sample.Goals as goal

pub returns-then-asked : goal.returns-then-asked
returns-then-asked g c x p shows asked =
    let z = scene_in g.M.Measure.weighed g.M.Measure.joined c.args.self.now in
    let got = subst (λ (xs : Slots). Some (point c.in-Some.sample.now) ≡ at (table xs) c.args.slot) c.slots.ensures c.in-Some.ensures in
    let h = held_some (holds c.args.self.now.field.now) c.args.slot (point c.in-Some.sample.now) got in
    pushed_single z c.args.table.now.entries.items c.try_push.new.self.items c.sample_entry.result c.try_push.result c.try_push.ensures.variant c.try_push.ensures.ok x p c.args.slot (omega arith) shows h (sym (asked h) ∙ c.if-asked.true) c.sample_entry.ensures

pub returns-else-asked : goal.returns-else-asked
returns-else-asked g c x p shows asked =
    let z = scene_in g.M.Measure.weighed g.M.Measure.joined c.args.self.now in
    let no = c.if-asked.false in
    single_none z x p c.args.slot c.args.table.now.entries.items shows (omega arith) (grind arith)

pub returns-in_default : goal.returns-in_default
returns-in_default g c x p shows asked =
    let z = scene_in g.M.Measure.weighed g.M.Measure.joined c.args.self.now in
    let none : held (holds c.args.self.now.field.now) c.args.slot ≡ false = ap (λ (xs : Slots). held (table xs) c.args.slot) (sym c.slots.ensures) ∙ ap is_some (sym c.in_default.ensures) in
    single_none z x p c.args.slot c.args.table.now.entries.items shows (omega arith) (grind arith)
