use Rattle.std.proofs.Common.{◌≡◌, ℕ, List, get_or, sym, ap, ◌∙◌, subst}
use Rattle.boxes.specs.Views.{children_of}
use Rattle.boxes.specs.declared.node.Node.{Node}
use Rattle.bounding.specs.Fields.{belongs_in}
use Rattle.entries.specs.Shows.{Shows}
use Rattle.walks.specs.Walk.{walk}
use Rattle.walk.specs.Inquiries.{scene_in}
use Rattle.walk.specs.Places.{leaving, entering}
use Rattle.walk.specs.Stands.{Opening}
use Rattle.walk.proofs.Moved.{children_below}
use Rattle.walk.proofs.Settling.{asked_some}
use Rattle.walk.proofs.Stepping.{left_table, stand_in, leaf_table, leaf_places, vacant_first, vacant_second, split_table, split_places}
use Rattle.walk.proofs.inquiry.Inquiry.open_node.Given.{Over}
use Rattle.walk.proofs.inquiry.Inquiry.open_node.Goals as goal
use Rattle.walk.proofs.inquiry.Inquiry.open_node.Goals.{After-index-nodes-from}

-- the node that was read
read : (g : Over) (c : After-index-nodes-from g) → c.index-nodes-from.result ≡ get_or c.args.self.now.field.now.nodes.items c.args.number c.index-nodes-from.result
read g c =
    let n = c.index-nodes-from.result in
    c.index-nodes-from.is ∙ ap (λ (xs : List Node). get_or xs c.from.result n) c.nodes.ensures.tree ∙ ap (λ i. get_or c.args.self.now.field.now.nodes.items i n) c.from.ensures

-- the table without the entry of the node
left : (g : Over) (c : After-index-nodes-from g) (i : ℕ) → Opening (scene_in g.M.Measure.weighed g.M.Measure.joined c.args.self.now) (belongs_in c.args.self.now.field.now) c.args.self.now.question.now.k i c.args.at c.args.number c.args.table.now.entries.items c.args.places.now → Shows (scene_in g.M.Measure.weighed g.M.Measure.joined c.args.self.now) (leaving (scene_in g.M.Measure.weighed g.M.Measure.joined c.args.self.now) c.args.number (walk (scene_in g.M.Measure.weighed g.M.Measure.joined c.args.self.now) c.args.self.now.question.now.k i)) c.swap_remove.new.self.items
left g c i ready =
    let q = c.args.self.now.question.now in
    let m = c.args.self.now.measure.now in
    let laws = g.met.M.Measure in
    let z = scene_in g.M.Measure.weighed g.M.Measure.joined c.args.self.now in
    subst (Shows z (leaving z c.args.number (walk z q.k i))) (sym c.swap_remove.ensures.items)
    (left_table _ _ (laws.weigh_rises m) (laws.join_rises m) c.args.self.now.field.now q.reading.values q.k (asked_some q) c.requires.enough i c.args.at c.args.number c.args.table.now.entries.items c.args.places.now ready c.requires.within c.requires.number c.index-nodes-from.result (read g c) c.swap_remove.result)

pub enter_node-requires : goal.enter_node-requires
enter_node-requires g c =
    let is = read g (goal.at.enter_node-requires g c).After-index-nodes-from in
    (children_below c.args.self.now.field.now c.args.number c.requires.number c.index-nodes-from.result is c.in-Some.first c.in-Some.second (c.in-Some.ensures ∙ ap (λ (y : Node). children_of y.kind) (sym c.index-nodes-from.is))).0

pub enter_node-requires-in-Some : goal.enter_node-requires-in-Some
enter_node-requires-in-Some g c =
    let is = read g (goal.at.enter_node-requires-in-Some g c).After-index-nodes-from in
    (children_below c.args.self.now.field.now c.args.number c.requires.number c.index-nodes-from.result is c.in-Some.first c.in-Some.second (c.in-Some.ensures ∙ ap (λ (y : Node). children_of y.kind) (sym c.index-nodes-from.is))).1

pub returns-in-None-clause-shows : goal.returns-in-None-clause-shows
returns-in-None-clause-shows g c i ready =
    let q = c.args.self.now.question.now in
    let m = c.args.self.now.measure.now in
    let laws = g.met.M.Measure in
    let d = c.args.self.now.field.now in
    let z = scene_in g.M.Measure.weighed g.M.Measure.joined c.args.self.now in
    let n = c.index-nodes-from.result in
    let before = (goal.at.returns-in-None-clause-shows g c).After-index-nodes-from in
    let is = read g before in
    leaf_table _ _ (laws.weigh_rises m) (laws.join_rises m) d q.reading.values q.k (asked_some q) c.requires.enough i c.args.at c.args.number c.args.table.now.entries.items c.args.places.now ready c.requires.within c.requires.number n is (c.in-None.ensures ∙ ap (λ (y : Node). children_of y.kind) (sym c.index-nodes-from.is)) c.enter_samples.new.table.entries.items (c.enter_samples.ensures (walk z q.k i) (left g before i ready) (stand_in _ _ (laws.weigh_rises m) (laws.join_rises m) d q.reading.values q.k (asked_some q) c.requires.enough i c.args.at c.args.number c.args.table.now.entries.items c.args.places.now ready c.requires.within c.requires.number n is))

pub returns-in-None-clause-placed : goal.returns-in-None-clause-placed
returns-in-None-clause-placed g c i ready =
    let q = c.args.self.now.question.now in
    let m = c.args.self.now.measure.now in
    let laws = g.met.M.Measure in
    let d = c.args.self.now.field.now in
    let z = scene_in g.M.Measure.weighed g.M.Measure.joined c.args.self.now in
    let n = c.index-nodes-from.result in
    let before = (goal.at.returns-in-None-clause-placed g c).After-index-nodes-from in
    let is = read g before in
    leaf_places _ _ (laws.weigh_rises m) (laws.join_rises m) d q.reading.values q.k (asked_some q) c.requires.enough i c.args.at c.args.number c.args.table.now.entries.items c.args.places.now ready c.requires.within c.requires.number n is (c.in-None.ensures ∙ ap (λ (y : Node). children_of y.kind) (sym c.index-nodes-from.is))

pub returns-in-Some-clause-shows : goal.returns-in-Some-clause-shows
returns-in-Some-clause-shows g c i ready =
    let q = c.args.self.now.question.now in
    let m = c.args.self.now.measure.now in
    let laws = g.met.M.Measure in
    let d = c.args.self.now.field.now in
    let z = scene_in g.M.Measure.weighed g.M.Measure.joined c.args.self.now in
    let n = c.index-nodes-from.result in
    let before = (goal.at.returns-in-Some-clause-shows g c).After-index-nodes-from in
    let is = read g before in
    let p = walk z q.k i in
    split_table _ _ (laws.weigh_rises m) (laws.join_rises m) d q.reading.values q.k (asked_some q) c.requires.enough i c.args.at c.args.number c.args.table.now.entries.items c.args.places.now ready c.requires.within c.requires.number n is c.in-Some.first c.in-Some.second (c.in-Some.ensures ∙ ap (λ (y : Node). children_of y.kind) (sym c.index-nodes-from.is)) c.enter_node-in-Some.new.table.entries.items
    (c.enter_node-in-Some.ensures (entering z (belongs_in d) c.in-Some.first (leaving z c.args.number p)) (c.enter_node.ensures (leaving z c.args.number p) (left g before i ready) (vacant_first _ _ (laws.weigh_rises m) (laws.join_rises m) d q.reading.values q.k (asked_some q) c.requires.enough i c.args.at c.args.number c.args.table.now.entries.items c.args.places.now ready c.requires.within c.requires.number n is c.in-Some.first c.in-Some.second (c.in-Some.ensures ∙ ap (λ (y : Node). children_of y.kind) (sym c.index-nodes-from.is)))) (vacant_second _ _ (laws.weigh_rises m) (laws.join_rises m) d q.reading.values q.k (asked_some q) c.requires.enough i c.args.at c.args.number c.args.table.now.entries.items c.args.places.now ready c.requires.within c.requires.number n is c.in-Some.first c.in-Some.second (c.in-Some.ensures ∙ ap (λ (y : Node). children_of y.kind) (sym c.index-nodes-from.is))))

pub returns-in-Some-clause-placed : goal.returns-in-Some-clause-placed
returns-in-Some-clause-placed g c i ready =
    let q = c.args.self.now.question.now in
    let m = c.args.self.now.measure.now in
    let laws = g.met.M.Measure in
    let d = c.args.self.now.field.now in
    let z = scene_in g.M.Measure.weighed g.M.Measure.joined c.args.self.now in
    let n = c.index-nodes-from.result in
    let before = (goal.at.returns-in-Some-clause-placed g c).After-index-nodes-from in
    let is = read g before in
    split_places _ _ (laws.weigh_rises m) (laws.join_rises m) d q.reading.values q.k (asked_some q) c.requires.enough i c.args.at c.args.number c.args.table.now.entries.items c.args.places.now ready c.requires.within c.requires.number n is c.in-Some.first c.in-Some.second (c.in-Some.ensures ∙ ap (λ (y : Node). children_of y.kind) (sym c.index-nodes-from.is)) c.move_samples.new.places c.move_samples.ensures
