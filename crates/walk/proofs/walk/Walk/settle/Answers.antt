use Rattle.std.proofs.Common.{refl, ◌∙◌}
use Rattle.walks.specs.Walk.{walk}
use Rattle.walk.specs.Inquiries.{scene_in}
use Rattle.walk.specs.Stands.{undropped}
use Rattle.walk.proofs.Settling.{asked_some, undropped_walked, settled_table, settled_places, settled_span}
use Rattle.walk.proofs.walk.Walk.settle.Goals as goal

pub returns-clause-stands : goal.returns-clause-stands
returns-clause-stands g c i shows placed =
    let z = scene_in g.M.Measure.weighed g.M.Measure.joined c.args.inquiry.now in
    let q = c.args.inquiry.now.question.now in
    let m = c.args.inquiry.now.measure.now in
    let d = c.args.inquiry.now.field.now in
    let laws = g.met.M.Measure in
    let some = asked_some q in
    let before = undropped z q.k i in
    let known = undropped_walked _ _ (laws.weigh_rises m) (laws.join_rises m) d q.reading.values q.k some c.requires i in
    let spans = c.span-self.ensures z before shows some known.enough in
    let es = c.drop_above.new.self.entries.items in
    let table = settled_table _ _ (laws.weigh_rises m) (laws.join_rises m) d q.reading.values q.k some c.requires i es (c.drop_above.ensures z before q.k shows spans.1) in
    let places = settled_places _ _ (laws.weigh_rises m) (laws.join_rises m) d q.reading.values q.k some c.requires i c.args.self.now.places placed in
    let span = settled_span _ _ (laws.weigh_rises m) (laws.join_rises m) d q.reading.values q.k some c.requires i c.span-self.result spans in
    let concludes = c.conclude-end.ensures i table places span in
    record {
      shows = table;
      placed = places;
      spans = span;
      ends = concludes.end ∙ c.end-end.ensures z (walk z q.k i) refl table span;
      list = concludes.list;
    }
