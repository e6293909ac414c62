use Rattle.std.proofs.Common.{◌≡◌, ◌&&◌, List, get_or, sym, ap, ◌∙◌, arith}
use Rattle.std.proofs.lemmas.List.{get_or_default}
use Rattle.ranking.proofs.Counted.{count_le}
use Rattle.boxes.specs.Views.{blank, box_of}
use Rattle.boxes.specs.declared.node.Node.{Node}
use Rattle.bounding.specs.Distances.{near_of, far_of}
use Rattle.bounding.specs.Fields.{belongs_in}
use Rattle.entries.specs.declared.entry.Of.TheVariants as of
use Rattle.field.specs.Fields.{holds}
use Rattle.samples.specs.Slots.{held}
use Rattle.walk.proofs.Totals.{node_votes, node_total}
use Rattle.walk.proofs.inquiry.Inquiry.node_entry.Given.{Over}
use Rattle.walk.proofs.inquiry.Inquiry.node_entry.Goals as goal
use Rattle.walk.proofs.inquiry.Inquiry.node_entry.Goals.{After-index-nodes-from}

-- the node that was read
read : (g : Over) (c : After-index-nodes-from g) → c.index-nodes-from.result ≡ get_or c.args.self.now.field.now.nodes.items c.args.number c.index-nodes-from.result
read g c =
    let n = c.index-nodes-from.result in
    c.index-nodes-from.is ∙ ap (λ (xs : List Node). get_or xs c.from.result n) c.nodes.ensures.tree ∙ ap (λ i. get_or c.args.self.now.field.now.nodes.items i n) c.from.ensures

pub overflow_cast-count : goal.overflow_cast-count
overflow_cast-count g c =
    let d = c.args.self.now.field.now in
    let n = c.index-nodes-from.result in
    let t = node_total d c.args.number c.requires n (read g (goal.at.overflow_cast-count g c).After-index-nodes-from) c.total-count.ensures.len in
    let v = c.total-count.ensures.value in
    let few = count_le (λ s. held (holds d) s && belongs_in d c.args.number s) 256 in
    omega arith

pub returns-then-count-eq0 : goal.returns-then-count-eq0
returns-then-count-eq0 g c =
    let d = c.args.self.now.field.now in
    let n = c.index-nodes-from.result in
    let t = node_total d c.args.number c.requires n (read g (goal.at.returns-then-count-eq0 g c).After-index-nodes-from) c.total-count.ensures.len in
    let v = c.total-count.ensures.value in
    omega arith

pub returns : goal.returns
returns g c =
    let w = g.M.Measure.weighed c.args.self.now.measure.now in
    let j = g.M.Measure.joined c.args.self.now.measure.now in
    let d = c.args.self.now.field.now in
    let n = c.index-nodes-from.result in
    let is = read g (goal.at.returns g c).After-index-nodes-from in
    let same : n ≡ get_or d.nodes.items c.args.number blank = is ∙ sym (get_or_default d.nodes.items c.args.number blank n c.requires) in
    let r = c.reading-reading.ensures in
    record {
      of = ap (λ t. of.Node c.args.number t) (c.depth.ensures.value ∙ ap (λ (y : Node). y.bounds.depth) same);
      near = c.near.ensures.value ∙ ap (near_of w j (box_of n.bounds)) r ∙ ap (λ (y : Node). near_of w j (box_of y.bounds) c.args.self.now.question.now.reading.values) same;
      far = c.far.ensures ∙ ap (far_of w j (box_of n.bounds)) r ∙ ap (λ (y : Node). far_of w j (box_of y.bounds) c.args.self.now.question.now.reading.values) same;
      some = omega arith;
      counts = c.total-count.ensures.value ∙ node_total d c.args.number c.requires n is c.total-count.ensures.len;
      votes = node_votes d c.args.number c.requires n is c.total-count.ensures.len;
    }
