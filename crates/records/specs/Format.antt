-- The field file: sample records in rising slot order, node records in number order, a trailer. Assumes nothing.
--   kind_code k                 the byte of a kind: leaf 0, split 1, shrink 2
--   leaf_number t m node s      the leaf, among m nodes, in which the sample in slot s belongs
--   sample_record               20 bytes: slot, fibre, leaf number, eight values
--   node_record                 38 bytes: kind, depth, two children, corner, counts
--   sample_bytes t m node s     the record of the sample in slot s of the table t
--   samples_bytes t m node n    the records of the samples in the slots below n
--   nodes_bytes node counts m   the records of m nodes with their counts
--   trailer_bytes n m           14 bytes: how many samples and nodes, the way back to each, the mark
--   file t m node counts        the whole file
use Rattle.std.specs.Prelude.{ℕ, ◌+◌, ◌-◌, ◌*◌, cond, List, [], ◌∷◌, ◌++◌}
use Rattle.samples.specs.Slots.{Table, held, fibre_at, values_at}
use Rattle.samples.specs.Verdict.{samples}
use Rattle.trees.specs.Trees.{Kind, leaf, split, shrink, Node, reached}
use Rattle.boxes.specs.Views.{entries}
use Rattle.records.specs.Bytes.{le2, le4, pieces, row}

abbrev pub kind_code : Kind → ℕ
kind_code leaf = 0
kind_code split = 1
kind_code shrink = 2

abbrev pub leaf_number : Table → ℕ → (ℕ → Node) → ℕ → ℕ
leaf_number t m node s = reached node (entries (values_at t s)) (m - 1)

unfoldable pub sample_record : ℕ → ℕ → ℕ → (ℕ → ℕ) → List ℕ
sample_record slot fibre number values = slot ∷ fibre ∷ (le2 number ++ row values)

unfoldable pub node_record : Node → (ℕ → ℕ) → List ℕ
node_record x tally =
    kind_code x.kind ∷ x.box.depth ∷ (le2 x.first ++ (le2 x.second ++ (row x.box.corner ++ row tally)))

abbrev pub sample_bytes : Table → ℕ → (ℕ → Node) → ℕ → List ℕ
sample_bytes t m node s = sample_record s (fibre_at t s) (leaf_number t m node s) (entries (values_at t s))

abbrev pub node_bytes : (ℕ → Node) → (ℕ → ℕ → ℕ) → ℕ → List ℕ
node_bytes node counts x = node_record (node x) (counts x)

unfoldable pub trailer_bytes : ℕ → ℕ → List ℕ
trailer_bytes n m = le2 n ++ (le2 m ++ (le4 (38 * m) ++ (le4 (38 * m + 20 * n) ++ (0x46 ∷ 0x36 ∷ []))))

abbrev pub samples_bytes : Table → ℕ → (ℕ → Node) → ℕ → List ℕ
samples_bytes t m node n = pieces (λ s. cond (held t s) (sample_bytes t m node s) []) n

abbrev pub nodes_bytes : (ℕ → Node) → (ℕ → ℕ → ℕ) → ℕ → List ℕ
nodes_bytes node counts m = pieces (node_bytes node counts) m

unfoldable pub file : Table → ℕ → (ℕ → Node) → (ℕ → ℕ → ℕ) → List ℕ
file t m node counts = samples_bytes t m node 256 ++ (nodes_bytes node counts m ++ trailer_bytes (samples t) m)
