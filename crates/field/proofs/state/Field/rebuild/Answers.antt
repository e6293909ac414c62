use Rattle.field.proofs.Redrawn.{drawn_few, drawn_lawful, drawn_right}
use Rattle.field.proofs.state.Field.rebuild.Goals as goal

pub invariant_of-self : goal.invariant_of-self
invariant_of-self c =
    let d = c.draw.ensures in
    let xs = c.args.self.now.slots in
    let ns = c.draw.new.nodes.items in
    record {
      len_fits = drawn_few xs ns _ d.size d.numbered d.tallied;
      rules_hold = drawn_lawful xs ns _ d.size d.numbered d.tallied;
      counts_hold = drawn_right xs ns _ d.size d.numbered d.tallied;
    }
