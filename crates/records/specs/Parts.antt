-- What stands in a record, by its place in the record's bytes. Assumes nothing.
--   slot_in r, fibre_in r     of a sample record: its slot and its fibre code,
--   leaf_in r                 the number of the leaf in which the sample belongs,
--   values_in r, point_in r   its eight values, and the sample itself
--   code_in r, coded c        of a node record: the byte of its kind, and the kind with the code c,
--   node_in r                 the node, with its box and its child numbers,
--   tally_in r                how many samples of each fibre it counts
use Rattle.std.specs.Prelude.{ℕ, cond, List, slice_index, ◌==◌}
use Rattle.samples.specs.Slots.{Point}
use Rattle.trees.specs.Trees.{Kind, leaf, split, shrink, Node}
use Rattle.boxes.specs.Views.{entries}
use Rattle.records.specs.Bytes.{two, row_in}

abbrev pub slot_in : List ℕ → ℕ
slot_in r = slice_index r 0

abbrev pub fibre_in : List ℕ → ℕ
fibre_in r = slice_index r 1

abbrev pub leaf_in : List ℕ → ℕ
leaf_in r = two r 2

abbrev pub values_in : List ℕ → List ℕ
values_in r = row_in r 4

abbrev pub point_in : List ℕ → Point
point_in r = record { fibre = fibre_in r; values = values_in r }

abbrev pub code_in : List ℕ → ℕ
code_in r = slice_index r 0

-- a code above 2 is of no kind, and is read like the last
abbrev pub coded : ℕ → Kind
coded c = cond (c == 0) leaf (cond (c == 1) split shrink)

unfoldable pub node_in : List ℕ → Node
node_in r = record { kind = coded (code_in r); box = record { depth = slice_index r 1; corner = entries (row_in r 6) }; first = two r 2; second = two r 4 }

abbrev pub tally_in : List ℕ → List ℕ
tally_in r = row_in r 22
