-- What an examined file holds. Assumes nothing.
--   Held bs h       the file keeps the rules, h says how many records it has, and it is written back as it was
--   Examines bs r   the same, or the check that the file fails first and the lowest record
use Rattle.std.specs.Prelude.{◌≡◌, ℕ, true, List, Some, Ok, Err, Result}
use Rattle.records.specs.Checks.{first_fault}
use Rattle.records.specs.Readings.{sample_total, node_total}
use Rattle.records.specs.Rules.{Keeps}
use Rattle.fieldfile.specs.Faults.{check_number}
use Rattle.fieldfile.specs.declared.examining.Holding.{Holding}
use Rattle.fieldfile.specs.declared.faults.Fault.{Fault}

pub record Held (bs : List ℕ) (h : Holding) : Type 0 where
  pub keeps : Keeps bs
  pub samples : h.samples ≡ sample_total bs
  pub nodes : h.nodes ≡ node_total bs
  pub same : h.same ≡ true

abbrev pub Examines : List ℕ → Result Holding Fault → Type 0
Examines bs (Ok h) = Held bs h
Examines bs (Err e) = first_fault bs ≡ Some (check_number e.check, e.«record»)
