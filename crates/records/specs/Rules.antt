-- The rules that a field file keeps. Assumes nothing.
use Rattle.std.specs.Prelude.{◌≡◌, ℕ, ◌+◌, ◌-◌, ◌*◌, ◌<◌, ◌≤◌, List, length, slice_index}
use Rattle.trees.specs.Samples.{Right}
use Rattle.trees.specs.Trees.{Rules, reached}
use Rattle.boxes.specs.Views.{entries}
use Rattle.records.specs.Bytes.{four}
use Rattle.records.specs.Parts.{slot_in, fibre_in, leaf_in, values_in, code_in}
use Rattle.records.specs.Readings.{end, sample_total, node_total, sample_part, node_part, tree_in, counts_in, samples_in}

pub record Keeps (bs : List ℕ) : Type 0 where
  -- it ends in a trailer, which ends in the mark
  pub trailer : 14 ≤ length bs
  pub mark : (slice_index bs (end bs + 12) ≡ 0x46) × (slice_index bs (end bs + 13) ≡ 0x36)
  -- the trailer's numbers are in range, and the ways back and the length are those of so many records
  pub totals : (sample_total bs ≤ 256) × (1 ≤ node_total bs) × (node_total bs ≤ 1021)
  pub to_nodes : four bs (end bs + 4) ≡ 38 * node_total bs
  pub to_samples : four bs (end bs + 8) ≡ 38 * node_total bs + 20 * sample_total bs
  pub size : length bs ≡ 20 * sample_total bs + 38 * node_total bs + 14
  -- samples are in range and in rising slot order
  pub fibres : (i : ℕ) → i < sample_total bs → fibre_in (sample_part bs i) < 8
  pub values : (i b : ℕ) → i < sample_total bs → b < 8 → entries (values_in (sample_part bs i)) b < 1024
  pub rising : (i j : ℕ) → i < j → j < sample_total bs → slot_in (sample_part bs i) < slot_in (sample_part bs j)
  -- nodes have a kind and make a tree
  pub kinds : (x : ℕ) → x < node_total bs → code_in (node_part bs x) ≤ 2
  pub tree : Rules (node_total bs) (tree_in bs)
  -- each sample names the leaf in which it belongs, and each node counts the samples that belong at or below it
  pub leaves : (i : ℕ) → i < sample_total bs → leaf_in (sample_part bs i) ≡ reached (tree_in bs) (entries (values_in (sample_part bs i))) (node_total bs - 1)
  pub counts : Right (node_total bs) (tree_in bs) (counts_in bs) (samples_in bs)
