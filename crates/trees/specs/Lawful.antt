-- The rules of a tree as tests of one node after another. Assumes nothing.
--   alike, inside       two boxes of the same depth and corner; a deeper box within another
--   sound node x        node x by itself: its depth, its corner, no child of a leaf; node 0 is the box of all readings
--   linked node m x     the links of node x: its children come after it, and node x after 0 is a child of exactly one
--   nested node x       the boxes of its children, and the kind of a rim
--   lawful m node       all m nodes are sound, linked and nested
--   counted, right      the counts of node x, and of all nodes, are those of the samples
use Rattle.std.specs.Prelude.{ℕ, ◌+◌, Bool, true, false, not, ◌&&◌, ◌||◌, ◌==◌, nat_eq, nat_le, nat_lt}
use Rattle.ranking.specs.Counts.{count}
use Rattle.trees.specs.Boxes.{every, side, Box, lower, upper, is_on_grid}
use Rattle.trees.specs.Samples.{Samples, lies}
use Rattle.trees.specs.Trees.{Kind, leaf, split, shrink, Node, parts, names}

unfoldable pub alike : Box → Box → Bool
alike j k = j.depth == k.depth && every (λ b. nat_eq (j.corner b) (k.corner b)) 8

-- in band b what j covers lies within what k covers
abbrev pub within : Box → Box → ℕ → Bool
within j k b = nat_le (k.corner b) (j.corner b) && nat_le (j.corner b + side j.depth b) (k.corner b + side k.depth b)

unfoldable pub inside : Box → Box → Bool
inside j k = nat_lt k.depth j.depth && every (within j k) 8

abbrev pub childless : Node → Bool
childless x = parts x.kind || (x.first == 0 && x.second == 0)

abbrev pub whole : Box → Bool
whole k = k.depth == 0 && every (λ b. nat_eq (k.corner b) 0) 8

unfoldable pub sound : (ℕ → Node) → ℕ → Bool
sound node x = is_on_grid (node x).box && (childless (node x) && (nat_lt 0 x || whole (node x).box))

-- a child number above x and below m
abbrev pub follows : ℕ → ℕ → ℕ → Bool
follows m x y = nat_lt x y && nat_lt y m

unfoldable pub linked : ℕ → (ℕ → Node) → ℕ → Bool
linked m node x =
    (not (parts (node x).kind) || (follows m x (node x).first && (follows m x (node x).second && not ((node x).first == (node x).second))))
    && (x == 0 || count (λ y. names node y x) m == 1)

abbrev pub is_leaf : Kind → Bool
is_leaf leaf = true
is_leaf split = false
is_leaf shrink = false

abbrev pub nested_by : Kind → Box → Node → Node → Bool
nested_by leaf k f s = true
nested_by split k f s = nat_lt k.depth 80 && (alike f.box (lower k) && alike s.box (upper k))
nested_by shrink k f s = inside f.box k && (is_leaf s.kind && alike s.box k)

unfoldable pub nested : (ℕ → Node) → ℕ → Bool
nested node x = nested_by (node x).kind (node x).box (node (node x).first) (node (node x).second)

unfoldable pub lawful : ℕ → (ℕ → Node) → Bool
lawful m node = nat_lt 0 m && (every (sound node) m && (every (linked m node) m && every (nested node) m))

unfoldable pub counted : (ℕ → Node) → (ℕ → ℕ → ℕ) → Samples → ℕ → Bool
counted node counts a x = every (λ f. nat_eq (counts x f) (count (lies node a x f) a.slots)) 8

unfoldable pub right : ℕ → (ℕ → Node) → (ℕ → ℕ → ℕ) → Samples → Bool
right m node counts a = every (counted node counts a) m
