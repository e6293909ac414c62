-- What is wrong with a file, by number. Assumes nothing.
--   check_number c   the number of a check
--   flaw_fault e     the check and the record by which a file's tree is refused
--   blame c o        no fault, or that of the lowest record that fails the check c
use Rattle.std.specs.Prelude.{ℕ, Some, None, Option, Ok, Err, Result}
use Rattle.field.specs.declared.flaws.Flaw.{Flaw}
use Rattle.field.specs.declared.flaws.Flaw.TheVariants as flaws
use Rattle.fieldfile.specs.declared.faults.Check.{Check}
use Rattle.fieldfile.specs.declared.faults.Check.TheVariants.{Mark, Layout, Sample, Node, Links, Boxes, Leaf, Counts}
use Rattle.fieldfile.specs.declared.faults.Fault.{Fault}

abbrev pub check_number : Check → ℕ
check_number Mark = 1
check_number Layout = 2
check_number Sample = 3
check_number Node = 4
check_number Links = 5
check_number Boxes = 6
check_number Leaf = 7
check_number Counts = 8

abbrev pub flaw_fault : Flaw → Fault
flaw_fault flaws.Root = record { check = Node; «record» = 0 }
flaw_fault (flaws.Links x) = record { check = Links; «record» = x }
flaw_fault (flaws.Boxes x) = record { check = Boxes; «record» = x }

abbrev pub blame : Check → Option ℕ → Result (Unit {0}) Fault
blame c None = Ok tt
blame c (Some i) = Err (record { check = c; «record» = i })
