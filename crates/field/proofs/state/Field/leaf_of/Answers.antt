use Rattle.field.proofs.Upheld.{rules_seen}
use Rattle.field.proofs.state.Field.leaf_of.Goals as goal

pub leaf_of-requires : goal.leaf_of-requires
leaf_of-requires c = let f = c.args.self.now in record { rules = rules_seen f.nodes c.nodes.result.now c.nodes.ensures.tree f.rules_hold }
