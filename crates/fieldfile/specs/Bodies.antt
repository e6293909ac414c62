-- What the steps of reading a file give. Assumes nothing.
--   Says r e             the sample record r says the numbers e
--   ReadsNodes bs r      the nodes of a file, or the fault of the lowest record that is none by itself
--   named_leaf bs f i    sample record i names the leaf in which its values belong in the tree of the field f
--   same_counts bs f x   node record x says the counts of node x of the field f
use Rattle.std.specs.Prelude.{◌≡◌, ℕ, ◌-◌, ◌<◌, Bool, List, None, Ok, Err, Result, nat_eq, ◌==◌}
use Rattle.arrayvec.specs.ArrayVec.{ArrayVec, array_vec_len}
use Rattle.boxes.specs.Views.{entries, node_at}
use Rattle.boxes.specs.declared.node.Node.{Node}
use Rattle.ranking.specs.Lowest.{lowest}
use Rattle.trees.specs.Boxes.{every}
use Rattle.trees.specs.Trees.{reached}
use Rattle.field.specs.Fields.{node_count, tree, counts}
use Rattle.field.specs.declared.state.Field.{Field}
use Rattle.records.specs.Checks.{bad_node}
use Rattle.records.specs.Parts.{slot_in, fibre_in, leaf_in, values_in}
use Rattle.records.specs.Readings.{node_total, sample_part, tree_in, counts_in}
use Rattle.fieldfile.specs.Faults.{blame}
use Rattle.fieldfile.specs.declared.body.parts.Entry.{Entry}
use Rattle.fieldfile.specs.declared.faults.Check.TheVariants as checks
use Rattle.fieldfile.specs.declared.faults.Fault.{Fault}

pub record Says (r : List ℕ) (e : Entry) : Type 0 where
  pub byte : e.slot < 256
  pub slot : e.slot ≡ slot_in r
  pub fibre : e.fibre ≡ fibre_in r
  pub leaf : e.leaf ≡ leaf_in r
  pub values : e.values ≡ values_in r

pub record Nodes (bs : List ℕ) (ns : ArrayVec Node) : Type 0 where
  pub good : lowest (bad_node bs) (node_total bs) ≡ None
  pub size : array_vec_len ns ≡ node_total bs
  pub nodes : (x : ℕ) → x < node_total bs → node_at ns.items x ≡ tree_in bs x

abbrev pub ReadsNodes : List ℕ → Result (ArrayVec Node) Fault → Type 0
ReadsNodes bs (Ok ns) = Nodes bs ns
ReadsNodes bs (Err e) = Err e ≡ blame checks.Node (lowest (bad_node bs) (node_total bs))

abbrev pub named_leaf : List ℕ → Field → ℕ → Bool
named_leaf bs f i = leaf_in (sample_part bs i) == reached (tree f) (entries (values_in (sample_part bs i))) (node_count f - 1)

abbrev pub same_counts : List ℕ → Field → ℕ → Bool
same_counts bs f x = every (λ g. nat_eq (counts_in bs x g) (counts f x g)) 8
