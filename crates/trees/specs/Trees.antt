-- A tree of nested boxes: nodes by number, each a leaf, a split or a shrink. Assumes nothing.
--   parts k            a kind of node that has children
--   names node x y     node x has y for a child
--   Rules m node       the rules of a tree with m nodes
--   choice node x v    the child of x in which values v belong
--   reached node v x   the last node of the path of v among those numbered up to x
--   under node v x     node x is on the path of v from node 0: v belongs to a leaf at or below x
use Rattle.std.specs.Prelude.{◌≡◌, ℕ, zero, suc, ◌%◌, ◌<◌, ◌≤◌, Bool, true, false, cond, ◌&&◌, ◌||◌, ◌==◌, ◌≢◌}
use Rattle.ranking.specs.Counts.{count}
use Rattle.trees.specs.Boxes.{side, Box, covers, lower, upper, Alike, Inside}

pub data Kind : Type 0 where
  leaf : Kind
  split : Kind
  shrink : Kind

pub record Node : Type 0 where
  pub kind : Kind
  pub box : Box
  pub first : ℕ
  pub second : ℕ

abbrev pub parts : Kind → Bool
parts leaf = false
parts split = true
parts shrink = true

unfoldable pub names : (ℕ → Node) → ℕ → ℕ → Bool
names node x y = parts (node x).kind && ((node x).first == y || (node x).second == y)

pub record Rules (m : ℕ) (node : ℕ → Node) : Type 0 where
  pub some : 0 < m
  pub depths : (x : ℕ) → x < m → (node x).box.depth ≤ 80
  pub corners : (x b : ℕ) → x < m → b < 8 → ((node x).box.corner b < 1024) × ((node x).box.corner b % side (node x).box.depth b ≡ 0)
  pub root : ((node 0).box.depth ≡ 0) × ((b : ℕ) → b < 8 → (node 0).box.corner b ≡ 0)
  pub leaves : (x : ℕ) → x < m → (node x).kind ≡ leaf → ((node x).first ≡ 0) × ((node x).second ≡ 0)
  -- children come after their parent, and each node but the first has one parent
  pub links : (x : ℕ) → x < m → parts (node x).kind ≡ true → (x < (node x).first) × ((node x).first < m) × (x < (node x).second) × ((node x).second < m)
  pub twice : (x : ℕ) → x < m → parts (node x).kind ≡ true → (node x).first ≢ (node x).second
  pub once : (y : ℕ) → 0 < y → y < m → count (λ x. names node x y) m ≡ 1
  -- a split's children have its halves, in order
  pub splits : (x : ℕ) → x < m → (node x).kind ≡ split →
      ((node x).box.depth < 80) × Alike (node (node x).first).box (lower (node x).box) × Alike (node (node x).second).box (upper (node x).box)
  -- a shrink's core has a deeper box inside its own, and its rim is a leaf with its own box
  pub shrinks : (x : ℕ) → x < m → (node x).kind ≡ shrink →
      Inside (node (node x).first).box (node x).box × ((node (node x).second).kind ≡ leaf) × Alike (node (node x).second).box (node x).box

-- the first child if its box covers the values, else the second: the half of a split, the core or the rim of a shrink
unfoldable pub choice : (ℕ → Node) → ℕ → (ℕ → ℕ) → ℕ
choice node x v = cond (covers (node (node x).first).box v) (node x).first (node x).second

-- y follows x on the path of v
unfoldable pub next : (ℕ → Node) → (ℕ → ℕ) → ℕ → ℕ → Bool
next node v x y = parts (node x).kind && choice node x v == y

abbrev pub onward : (ℕ → Node) → (ℕ → ℕ) → ℕ → ℕ → ℕ
onward node v x y = cond (next node v x y) y x

unfoldable pub reached : (ℕ → Node) → (ℕ → ℕ) → ℕ → ℕ
reached node v zero = 0
reached node v (suc x) = onward node v (reached node v x) (suc x)

unfoldable pub under : (ℕ → Node) → (ℕ → ℕ) → ℕ → Bool
under node v x = reached node v x == x
