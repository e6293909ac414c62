-- What a field holds is what the theory of files calls a field. Assumes nothing.
use Rattle.drawing.proofs.Sound.{valid_samples}
use Rattle.field.specs.Fields.{holds, tree, counts, node_count}
use Rattle.field.specs.declared.state.Field.{Field}
use Rattle.trees.proofs.Lawfully.{rules_from_lawful, right_says}
use Rattle.records.specs.Described.{IsField}

pub is_field : (f : Field) → IsField (holds f) (node_count f) (tree f) (counts f)
is_field f = record {
  valid = valid_samples f.slots;
  room = f.len_fits;
  rules = rules_from_lawful _ _ f.rules_hold;
  right = right_says _ _ _ _ f.counts_hold;
}
