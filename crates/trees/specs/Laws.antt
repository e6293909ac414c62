-- What is shown of every box, every tree that keeps the rules, and every tree that is drawn. Assumes nothing.
--   Halves    the halves lie in a box, and together cover what it covers, and nothing twice
--   Singles   after eighty halvings a box covers one value in each band
--   Paths     the path of values begins at node 0, takes one child at a time, and ends in one leaf
--   Counting  right counts add up, and stay right when a sample comes or goes along its path
--   Drawing   a drawn tree keeps the rules with right counts; s samples need at most 4s - 3 nodes, 256 at most 1021
use Rattle.std.specs.Prelude.{◌≡◌, ℕ, ◌+◌, ◌-◌, ◌*◌, ◌<◌, ◌≤◌, true, false, ◌&&◌}
use Rattle.ranking.specs.Counts.{bit}
use Rattle.trees.specs.Boxes.{Box, side, covers, lower, upper, Inside, everything}
use Rattle.trees.specs.Drawing.{size, many, plan, rebuilt, Numbered, Tallied}
use Rattle.trees.specs.Samples.{Samples, Valid, Right, filled, emptied, raised, lowered}
use Rattle.trees.specs.Trees.{leaf, Node, parts, names, Rules, next, reached, under}

abbrev pub Halves : Type 0
Halves =
    (k : Box) (v : ℕ → ℕ) → k.depth < 80 → Inside (lower k) k × Inside (upper k) k × (bit (covers k v) ≡ bit (covers (lower k) v) + bit (covers (upper k) v))

abbrev pub Singles : Type 0
Singles = (b : ℕ) → b < 8 → side 80 b ≡ 1

pub record PathOf (m : ℕ) (node : ℕ → Node) (v : ℕ → ℕ) : Type 0 where
  pub root : under node v 0 ≡ true
  pub child : (x y : ℕ) → x < m → names node x y ≡ true → under node v y ≡ (under node v x && next node v x y)
  pub one_child : (x : ℕ) → x < m → parts (node x).kind ≡ true → bit (under node v x) ≡ bit (under node v (node x).first) + bit (under node v (node x).second)
  pub covered : (x : ℕ) → x < m → under node v x ≡ true → covers (node x).box v ≡ true
  pub end_leaf : ((node (reached node v (m - 1))).kind ≡ leaf) × (under node v (reached node v (m - 1)) ≡ true)
  pub one_leaf : (x : ℕ) → x < m → (node x).kind ≡ leaf → under node v x ≡ true → x ≡ reached node v (m - 1)

abbrev pub Paths : Type 0
Paths = (m : ℕ) (node : ℕ → Node) → Rules m node → (v : ℕ → ℕ) → ((b : ℕ) → b < 8 → v b < 1024) → PathOf m node v

pub record CountsOf (m : ℕ) (node : ℕ → Node) (counts : ℕ → ℕ → ℕ) (a : Samples) : Type 0 where
  pub adds : (x f : ℕ) → x < m → f < 8 → parts (node x).kind ≡ true → counts x f ≡ counts (node x).first f + counts (node x).second f
  pub admits : (z f : ℕ) (v : ℕ → ℕ) → z < a.slots → a.held z ≡ false → Right m node (raised node counts f v) (filled a z f v)
  pub withdraws : (z : ℕ) → z < a.slots → a.held z ≡ true → Right m node (lowered node counts (a.fibre z) (a.value z)) (emptied a z)

abbrev pub Counting : Type 0
Counting = (m : ℕ) (node : ℕ → Node) (counts : ℕ → ℕ → ℕ) (a : Samples) → Rules m node → Right m node counts a → CountsOf m node counts a

pub record DrawnOf (a : Samples) : Type 0 where
  pub nodes : (k : Box) → 0 < many a k → size (plan a k) + 3 ≤ 4 * many a k
  pub most : a.slots ≤ 256 → size (rebuilt a) ≤ 1021
  pub rules : (node : ℕ → Node) → Numbered node (rebuilt a) everything 0 → Rules (size (rebuilt a)) node
  pub right : (node : ℕ → Node) (counts : ℕ → ℕ → ℕ) → Valid a → Numbered node (rebuilt a) everything 0 → Tallied a counts (rebuilt a) everything 0 → Right (size (rebuilt a)) node counts a

abbrev pub Drawing : Type 0
Drawing = (a : Samples) → DrawnOf a
