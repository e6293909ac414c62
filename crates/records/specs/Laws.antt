-- What is shown of all files. Assumes nothing.
--   Kept       a file keeps the rules exactly where no record fails a check
--   Named      the check and the record that are named are the lowest that fail
--   Described  what is written can be read: a file describes the samples and the tree that were written
--   Filed      every field has a file, and it keeps the rules
--   Fielded    a file that keeps the rules describes a field
--   Rewritten  what such a file describes is written as the same bytes
use Rattle.std.specs.Prelude.{◌≡◌, ℕ, ◌-◌, ◌≤◌, List, Some, None}
use Rattle.samples.specs.Slots.{Table}
use Rattle.trees.specs.Trees.{Node}
use Rattle.records.specs.Bytes.{IsBytes}
use Rattle.records.specs.Checks.{checks, first_fault, FailsFirst}
use Rattle.records.specs.Described.{Describes, IsField}
use Rattle.records.specs.Format.{file}
use Rattle.records.specs.Readings.{node_total, tree_in, counts_in, table_in}
use Rattle.records.specs.Rules.{Keeps}

abbrev pub Kept : Type 0
Kept = (bs : List ℕ) → (Keeps bs → first_fault bs ≡ None) × (first_fault bs ≡ None → Keeps bs)

-- checks are numbered from 1
abbrev pub Named : Type 0
Named = (bs : List ℕ) (c i : ℕ) → first_fault bs ≡ Some (c, i) → (1 ≤ c) × FailsFirst (checks bs) (c - 1) i

abbrev pub Described : Type 0
Described = (t : Table) (m : ℕ) (p : ℕ → Node) (c : ℕ → ℕ → ℕ) → Describes (file t m p c) t m p c

abbrev pub Filed : Type 0
Filed = (t : Table) (m : ℕ) (p : ℕ → Node) (c : ℕ → ℕ → ℕ) → IsField t m p c → Keeps (file t m p c)

abbrev pub Fielded : Type 0
Fielded = (bs : List ℕ) → IsBytes bs → Keeps bs → IsField (table_in bs) (node_total bs) (tree_in bs) (counts_in bs)

abbrev pub Rewritten : Type 0
Rewritten = (bs : List ℕ) → IsBytes bs → Keeps bs → (t : Table) (m : ℕ) (p : ℕ → Node) (c : ℕ → ℕ → ℕ) → Describes bs t m p c → file t m p c ≡ bs
