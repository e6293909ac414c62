-- What the bytes of a file say: its trailer, its records by number, and the samples and the tree that they describe. Assumes nothing.
--   end bs                           where the last 14 bytes begin, the trailer
--   sample_total bs, node_total bs   how many records of samples and of nodes the trailer says there are
--   sample_part bs i                 the bytes of sample record i
--   node_part bs x                   the bytes of node record x
--   tree_in bs, counts_in bs         the nodes by number, and their counts
--   samples_in bs                    the samples by the number of their record
--   record_of bs n s                 which of the first n sample records names the slot s
--   table_upto bs n, table_in bs     what the slots hold by the first n sample records, and by all
use Rattle.std.specs.Prelude.{ℕ, ◌+◌, ◌-◌, ◌*◌, true, List, length, map, Option, ◌==◌}
use Rattle.std.specs.List.{range_with_len}
use Rattle.std.specs.Option.{option_map}
use Rattle.ranking.specs.Lowest.{lowest}
use Rattle.samples.specs.Slots.{Table}
use Rattle.trees.specs.Samples.{Samples}
use Rattle.trees.specs.Trees.{Node}
use Rattle.boxes.specs.Views.{entries}
use Rattle.records.specs.Bytes.{two, chunk}
use Rattle.records.specs.Parts.{slot_in, fibre_in, values_in, point_in, node_in, tally_in}

abbrev pub end : List ℕ → ℕ
end bs = length bs - 14

abbrev pub sample_total : List ℕ → ℕ
sample_total bs = two bs (end bs)

abbrev pub node_total : List ℕ → ℕ
node_total bs = two bs (end bs + 2)

unfoldable pub sample_part : List ℕ → ℕ → List ℕ
sample_part bs i = chunk bs (20 * i) 20

unfoldable pub node_part : List ℕ → ℕ → List ℕ
node_part bs x = chunk bs (20 * sample_total bs + 38 * x) 38

abbrev pub tree_in : List ℕ → ℕ → Node
tree_in bs x = node_in (node_part bs x)

abbrev pub counts_in : List ℕ → ℕ → ℕ → ℕ
counts_in bs x = entries (tally_in (node_part bs x))

abbrev pub samples_in : List ℕ → Samples
samples_in bs = record {
  slots = sample_total bs;
  held = λ i. true;
  fibre = λ i. fibre_in (sample_part bs i);
  value = λ i. entries (values_in (sample_part bs i));
}

abbrev pub record_of : List ℕ → ℕ → ℕ → Option ℕ
record_of bs n s = lowest (λ i. slot_in (sample_part bs i) == s) n

unfoldable pub table_upto : List ℕ → ℕ → Table
table_upto bs n = map (λ s. option_map (λ i. point_in (sample_part bs i)) (record_of bs n s)) (range_with_len 0 256)

abbrev pub table_in : List ℕ → Table
table_in bs = table_upto bs (sample_total bs)
