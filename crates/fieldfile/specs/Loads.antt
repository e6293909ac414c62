-- What loading a file does to a field. Assumes nothing.
--   Reads bs r               the field that a file describes, or the check that it fails first, with the lowest record
--   Loads bs before after r  the same of a field that is loaded: it is the file's then, or as it was
--   Same f g                 two fields hold the same samples in the same tree with the same counts
use Rattle.std.specs.Prelude.{◌≡◌, ℕ, ◌-◌, List, Some, Ok, Err, Result}
use Rattle.field.specs.Fields.{holds, node_count, tree, counts}
use Rattle.field.specs.declared.state.Field.{Field}
use Rattle.records.specs.Checks.{checks, first_fault, FailsFirst}
use Rattle.records.specs.Described.{Describes, SameSamples, SameTree, SameCounts}
use Rattle.records.specs.Readings.{table_in}
use Rattle.records.specs.Rules.{Keeps}
use Rattle.fieldfile.specs.Faults.{check_number}
use Rattle.fieldfile.specs.Format.{file_of}
use Rattle.fieldfile.specs.declared.faults.Fault.{Fault}

pub record Same (f g : Field) : Type 0 where
  pub samples : SameSamples (holds f) (holds g)
  pub size : node_count f ≡ node_count g
  pub nodes : SameTree (node_count f) (tree f) (tree g)
  pub counts : SameCounts (node_count f) (counts f) (counts g)

-- the file keeps the rules, it describes the field, and it is what the field is written as, and no other field's
pub record Taken (bs : List ℕ) (f : Field) : Type 0 where
  pub keeps : Keeps bs
  pub samples : holds f ≡ table_in bs
  pub describes : Describes bs (holds f) (node_count f) (tree f) (counts f)
  pub written : file_of f ≡ bs
  pub alone : (g : Field) → file_of g ≡ bs → Same f g

-- the file breaks the rules, by the lowest check that fails and the lowest record that fails it; it is the file of no field
pub record Refused (bs : List ℕ) (e : Fault) : Type 0 where
  pub broken : Keeps bs → ⊥
  pub fault : first_fault bs ≡ Some (check_number e.check, e.«record»)
  -- checks are numbered from 1
  pub lowest : FailsFirst (checks bs) (check_number e.check - 1) e.«record»
  pub foreign : (g : Field) → file_of g ≡ bs → ⊥

abbrev pub Reads : List ℕ → Result Field Fault → Type 0
Reads bs (Ok f) = Taken bs f
Reads bs (Err e) = Refused bs e

abbrev pub Loads : List ℕ → Field → Field → Result (Unit {0}) Fault → Type 0
Loads bs before after (Ok _) = Taken bs after
Loads bs before after (Err e) = Refused bs e × (after ≡ before)
