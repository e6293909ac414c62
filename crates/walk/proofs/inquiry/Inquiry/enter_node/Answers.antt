use Rattle.walk.proofs.Entered.{entered_none}
use Rattle.walk.proofs.Pushed.{pushed_node}
use Rattle.bounding.specs.Fields.{belongs_in}
use Rattle.walk.specs.Inquiries.{scene_in}
use Rattle.walk.proofs.inquiry.Inquiry.enter_node.Goals as goal

pub returns-in-Some : goal.returns-in-Some
returns-in-Some g c p shows vacant =
    let z = scene_in g.M.Measure.weighed g.M.Measure.joined c.args.self.now in
    pushed_node z c.args.table.now.entries.items c.try_push.new.self.items c.in-Some.entry c.try_push.result c.try_push.ensures.variant c.try_push.ensures.ok (belongs_in c.args.self.now.field.now) p shows c.args.number vacant c.in-Some.ensures

pub returns-in_default : goal.returns-in_default
returns-in_default g c p shows vacant =
    let z = scene_in g.M.Measure.weighed g.M.Measure.joined c.args.self.now in
    entered_none z (belongs_in c.args.self.now.field.now) p c.args.table.now.entries.items shows c.args.number vacant c.in_default.ensures
