use Rattle.std.proofs.Common.{ap, ◌∙◌, subst}
use Rattle.samples.specs.Slots.{table}
use Rattle.trees.specs.Boxes.{everything}
use Rattle.trees.specs.Drawing.{Plan, size, Numbered, Tallied}
use Rattle.boxes.specs.Views.{node_at, counts_at}
use Rattle.drawing.specs.Held.{held_in}
use Rattle.field.proofs.Redrawn.{drawn_few, drawn_lawful, drawn_right, empty_plan, empty_of_fibre}
use Rattle.field.proofs.state.Field.new.Goals as goal

pub invariant_of-result : goal.invariant_of-result
invariant_of-result c =
    let d = c.draw.ensures in
    let xs = c.new-slots.result in
    let ns = c.draw.new.nodes.items in
    record {
      len_fits = drawn_few xs ns _ d.size d.numbered d.tallied;
      rules_hold = drawn_lawful xs ns _ d.size d.numbered d.tallied;
      counts_hold = drawn_right xs ns _ d.size d.numbered d.tallied;
    }

pub returns-clause-tree : goal.returns-clause-tree
returns-clause-tree c =
    let d = c.draw.ensures in
    let t = table c.new-slots.result in
    let ns = c.draw.new.nodes.items in
    let e = empty_plan t c.new-slots.ensures in
    record {
      size = d.size ∙ ap size e;
      node = subst (λ (p : Plan). Numbered (node_at ns) p everything 0) e d.numbered;
      counts = λ g l. subst (λ (p : Plan). Tallied (held_in c.new-slots.result) (counts_at ns) p everything 0) e d.tallied g l ∙ empty_of_fibre t c.new-slots.ensures g;
    }
