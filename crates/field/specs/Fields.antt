-- What a field holds: its samples, and its tree by node. Assumes nothing.
--   holds f        the table of the samples
--   node_count f   how many nodes the tree has
--   tree f         the nodes of the tree by number
--   counts f       how many samples of each fibre each node has
--   Drawn f        its tree is the one that rebuild draws
--   Bare f         its tree is one leaf, as a field is made
--   Change         the counts after one sample came or went: raised or lowered
--   Recounts       a field after one sample of fibre g with values v came or went, or after neither where that was refused
use Rattle.std.specs.Prelude.{◌≡◌, ℕ, ◌<◌, Ok, Err, Result}
use Rattle.arrayvec.specs.ArrayVec.{array_vec_len}
use Rattle.boxes.specs.Views.{node_at, counts_at}
use Rattle.samples.specs.Slots.{Table, table}
use Rattle.drawing.specs.Held.{samples_of}
use Rattle.trees.specs.Boxes.{everything}
use Rattle.trees.specs.Drawing.{size, rebuilt, Is, Numbered, Tallied}
use Rattle.trees.specs.Trees.{Node, leaf}
use Rattle.field.specs.declared.state.Field.{Field}

abbrev pub holds : Field → Table
holds f = table f.slots

abbrev pub node_count : Field → ℕ
node_count f = array_vec_len f.nodes

abbrev pub tree : Field → ℕ → Node
tree f = node_at f.nodes.items

abbrev pub counts : Field → ℕ → ℕ → ℕ
counts f = counts_at f.nodes.items

-- from the nodes, their counts, the fibre and the values to the counts after
abbrev pub Change : Type 0
Change = (ℕ → Node) → (ℕ → ℕ → ℕ) → ℕ → (ℕ → ℕ) → ℕ → ℕ → ℕ

-- the nodes stay as they were; the counts change along the path of the values, or not at all
pub record Moves (c : Change) (g : ℕ) (v : ℕ → ℕ) (before after : Field) : Type 0 where
  pub size : node_count after ≡ node_count before
  pub shape : (x : ℕ) → tree after x ≡ tree before x
  pub counts : (x f : ℕ) → x < node_count before → counts after x f ≡ c (tree before) (counts before) g v x f

pub record Stays (before after : Field) : Type 0 where
  pub size : node_count after ≡ node_count before
  pub nodes : after.nodes ≡ before.nodes

abbrev pub Recounts : {X Y : Type 0} → Change → ℕ → (ℕ → ℕ) → Field → Field → Result X Y → Type 0
Recounts c g v before after (Ok _) = Moves c g v before after
Recounts c g v before after (Err _) = Stays before after

-- the tree is the one that is drawn over the samples, node for node, with their counts
pub record Drawn (f : Field) : Type 0 where
  pub size : node_count f ≡ size (rebuilt (samples_of (holds f)))
  pub nodes : Numbered (tree f) (rebuilt (samples_of (holds f))) everything 0
  pub counts : Tallied (samples_of (holds f)) (counts f) (rebuilt (samples_of (holds f))) everything 0

-- one leaf with the box of all readings, which counts nothing
pub record Bare (f : Field) : Type 0 where
  pub size : node_count f ≡ 1
  pub node : Is (tree f 0) leaf everything 0 0
  pub counts : (g : ℕ) → g < 8 → counts f 0 g ≡ 0
