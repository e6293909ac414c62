use Rattle.std.proofs.Common.{◌≡◌, List, get_or, ap, sym, ◌∙◌, arith}
use Rattle.boxes.specs.Views.{children_of}
use Rattle.boxes.specs.declared.node.Node.{Node}
use Rattle.field.specs.Fields.{holds}
use Rattle.samples.specs.Slots.{point}
use Rattle.samples.proofs.Tabled.{held_some, values_some}
use Rattle.walk.proofs.Moved.{children_below, moved_first, moved_second}
use Rattle.walk.proofs.inquiry.Inquiry.place_after.Given.{Over}
use Rattle.walk.proofs.inquiry.Inquiry.place_after.Goals as goal
use Rattle.walk.proofs.inquiry.Inquiry.place_after.Goals.{After-index-nodes-from}

-- the node that was read
read : (g : Over) (c : After-index-nodes-from g) → c.index-nodes-from.result ≡ get_or c.args.self.now.field.now.nodes.items c.args.number c.index-nodes-from.result
read g c =
    let n = c.index-nodes-from.result in
    c.index-nodes-from.is ∙ ap (λ (xs : List Node). get_or xs c.from.result n) c.nodes.ensures.tree ∙ ap (λ i. get_or c.args.self.now.field.now.nodes.items i n) c.from.ensures

pub bounds-nodes-from-in-Some-sample : goal.bounds-nodes-from-in-Some-sample
bounds-nodes-from-in-Some-sample g c =
    let d = c.args.self.now.field.now in
    let is = read g (goal.at.bounds-nodes-from-in-Some-sample g c).After-index-nodes-from in
    let below = children_below d c.args.number c.requires c.index-nodes-from.result is c.in-Some.first c.in-Some.second (c.in-Some.ensures ∙ ap (λ (y : Node). children_of y.kind) (sym c.index-nodes-from.is)) in
    let long = c.nodes-in-Some-sample.ensures.len in
    let from = c.from-in-Some-sample.ensures in
    omega arith

pub returns-then-covers : goal.returns-then-covers
returns-then-covers g c =
    let d = c.args.self.now.field.now in
    let z = point c.in-Some-sample.sample in
    let is = read g (goal.at.returns-then-covers g c).After-index-nodes-from in
    moved_first d c.args.number c.requires c.index-nodes-from.result is c.in-Some.first c.in-Some.second (c.in-Some.ensures ∙ ap (λ (y : Node). children_of y.kind) (sym c.index-nodes-from.is)) c.args.slot c.args.place c.if-place-number.true
    (held_some (holds d) c.args.slot z c.in-Some-sample.ensures)
    c.nodes-in-Some-sample.result.now c.nodes-in-Some-sample.ensures.tree c.from-in-Some-sample.result c.from-in-Some-sample.ensures
    c.values.result.now (values_some (holds d) c.args.slot z c.in-Some-sample.ensures ∙ sym c.values.ensures) c.index-nodes-from-in-Some-sample.result c.if-covers.ensures

pub returns-else-covers : goal.returns-else-covers
returns-else-covers g c =
    let d = c.args.self.now.field.now in
    let z = point c.in-Some-sample.sample in
    let is = read g (goal.at.returns-else-covers g c).After-index-nodes-from in
    moved_second d c.args.number c.requires c.index-nodes-from.result is c.in-Some.first c.in-Some.second (c.in-Some.ensures ∙ ap (λ (y : Node). children_of y.kind) (sym c.index-nodes-from.is)) c.args.slot c.args.place c.if-place-number.true
    (held_some (holds d) c.args.slot z c.in-Some-sample.ensures)
    c.nodes-in-Some-sample.result.now c.nodes-in-Some-sample.ensures.tree c.from-in-Some-sample.result c.from-in-Some-sample.ensures
    c.values.result.now (values_some (holds d) c.args.slot z c.in-Some-sample.ensures ∙ sym c.values.ensures) c.index-nodes-from-in-Some-sample.result c.if-covers.ensures
