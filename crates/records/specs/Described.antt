-- The samples and the tree that a file describes. Assumes nothing.
--   SameSamples t u        the slots of two tables hold the same samples: fibre and values, band by band
--   SameTree m p q         m nodes are the same: kind, box and child numbers
--   SameCounts m c d       m nodes have the same counts
--   Describes bs t m p c   the file says these samples, and this tree with these counts
--   IsField t m p c        samples in range, and a tree that keeps the rules, with right counts, as a field has them
use Rattle.std.specs.Prelude.{◌≡◌, ℕ, ◌<◌, ◌≤◌, List}
use Rattle.boxes.specs.Views.{entries}
use Rattle.drawing.specs.Held.{samples_of}
use Rattle.samples.specs.Slots.{Table, held, fibre_at, values_at}
use Rattle.trees.specs.Drawing.{Is}
use Rattle.trees.specs.Samples.{Valid, Right}
use Rattle.trees.specs.Trees.{Node, Rules}
use Rattle.records.specs.Readings.{node_total, tree_in, counts_in, table_in}

pub record SameSamples (t u : Table) : Type 0 where
  pub held : (s : ℕ) → s < 256 → held t s ≡ held u s
  pub fibre : (s : ℕ) → s < 256 → fibre_at t s ≡ fibre_at u s
  pub values : (s b : ℕ) → s < 256 → b < 8 → entries (values_at t s) b ≡ entries (values_at u s) b

abbrev pub SameTree : ℕ → (ℕ → Node) → (ℕ → Node) → Type 0
SameTree m p q = (x : ℕ) → x < m → Is (p x) (q x).kind (q x).box (q x).first (q x).second

abbrev pub SameCounts : ℕ → (ℕ → ℕ → ℕ) → (ℕ → ℕ → ℕ) → Type 0
SameCounts m c d = (x f : ℕ) → x < m → f < 8 → c x f ≡ d x f

pub record Describes (bs : List ℕ) (t : Table) (m : ℕ) (p : ℕ → Node) (c : ℕ → ℕ → ℕ) : Type 0 where
  pub samples : SameSamples t (table_in bs)
  pub size : m ≡ node_total bs
  pub nodes : SameTree m p (tree_in bs)
  pub counts : SameCounts m c (counts_in bs)

pub record IsField (t : Table) (m : ℕ) (p : ℕ → Node) (c : ℕ → ℕ → ℕ) : Type 0 where
  pub valid : Valid (samples_of t)
  pub room : m ≤ 1021
  pub rules : Rules m p
  pub right : Right m p c (samples_of t)
