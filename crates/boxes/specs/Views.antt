-- The program's boxes and nodes, as the tree's. Assumes nothing.
--   entries l b        the number at b in a list, 0 past its end
--   box_of k           the box that the bounds stand for
--   Halved k l u       l and u are the halves of k, and what k covers lies in one of them, and in one alone
--   kind_of, node_of   the kind and the node that stand for the program's
--   children_of k      the first and the second child of a split or a shrink; links_of k gives 0 and 0 for a leaf
--   node_at ns x       node x of a list
--   counts_at ns x f   how many samples of fibre f node x of a list counts
use Rattle.std.specs.Prelude.{◌≡◌, ℕ, ◌+◌, true, Option, None, Some, unwrap_or, List, [], get_or, slice_index, slice_index_or, refl}
use Rattle.ranking.specs.Counts.{bit}
use Rattle.trees.specs.Boxes.{Box, halved, side, covers, lower, upper, is_on_grid}
use Rattle.trees.specs.Trees as trees
use Rattle.boxes.specs.Grids.{gridded}
use Rattle.boxes.specs.declared.bounds.Bounds.{Bounds}
use Rattle.boxes.specs.declared.node.Kind.{Kind}
use Rattle.boxes.specs.declared.node.Kind.TheVariants.{Leaf, Split, Shrink}
use Rattle.boxes.specs.declared.node.Node.{Node}

abbrev pub entries : List ℕ → ℕ → ℕ
entries l b = slice_index l b

abbrev pub box_of : Bounds → Box
box_of k = record { depth = k.depth; corner = entries k.corner }

pub record Halved (k l u : Box) : Type 0 where
  pub low : l ≡ lower k
  pub high : u ≡ upper k
  pub once : (v : ℕ → ℕ) → bit (covers k v) ≡ bit (covers l v) + bit (covers u v)

abbrev pub kind_of : Kind → trees.Kind
kind_of Leaf = trees.leaf
kind_of (Split l u) = trees.split
kind_of (Shrink c r) = trees.shrink

abbrev pub children_of : Kind → Option (ℕ × ℕ)
children_of Leaf = None
children_of (Split l u) = Some (l, u)
children_of (Shrink c r) = Some (c, r)

-- a leaf's child numbers are 0
abbrev pub links_of : Kind → ℕ × ℕ
links_of k = unwrap_or (children_of k) (0, 0)

abbrev pub node_of : Node → trees.Node
node_of n = record { kind = kind_of n.kind; box = box_of n.bounds; first = (links_of n.kind).0; second = (links_of n.kind).1 }

-- a list has this leaf past its end
pub blank_on_grid : gridded 0 [] ≡ true
unfolding is_on_grid side halved
blank_on_grid = refl

abbrev pub blank : Node
blank = record { kind = Leaf; bounds = record { depth = 0; corner = []; on_grid = blank_on_grid }; counts = [] }

abbrev pub node_at : List Node → ℕ → trees.Node
node_at ns x = node_of (slice_index_or ns x blank)

abbrev pub counts_at : List Node → ℕ → ℕ → ℕ
counts_at ns x f = slice_index (get_or ns x blank).counts f
