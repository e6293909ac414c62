-- How a tree is drawn over samples, and how its nodes are numbered. Assumes nothing.
--   Plan             a tree before its nodes have numbers: a leaf, two halves, or a core with its rim
--   size p           how many nodes a plan has
--   lodged a k s     slot s holds a sample in the box k
--   many a k         how many samples lie in the box k
--   both a k         both halves of k hold samples
--   core a k         the deepest box that holds all the samples of k
--   few a k          k holds at most 4 samples, or has depth 80
--   plan a k         the tree over the samples in the box k
--   Numbered         which nodes the numbers from n on have: the parent, the whole first child, the second
--   Tallied          the counts of those nodes
use Rattle.std.specs.Prelude.{◌≡◌, ℕ, zero, suc, ◌+◌, ◌-◌, ◌<◌, Bool, true, false, ◌&&◌, ◌||◌, ◌==◌, nat_le, nat_lt}
use Rattle.ranking.specs.Counts.{count}
use Rattle.trees.specs.Boxes.{Box, covers, lower, upper, Alike, Inside, Grid, everything}
use Rattle.trees.specs.Samples.{Samples}
use Rattle.trees.specs.Trees.{Kind, leaf, split, shrink, Node}

pub data Plan : Type 0 where
  stop : Plan
  halve : Plan → Plan → Plan
  focus : Box → Plan → Plan

abbrev pub size : Plan → ℕ
size stop = 1
size (halve p q) = suc (size p + size q)
size (focus j p) = suc (size p + 1)

unfoldable pub lodged : Samples → Box → ℕ → Bool
lodged a k s = a.held s && covers k (a.value s)

abbrev pub many : Samples → Box → ℕ
many a k = count (lodged a k) a.slots

unfoldable pub both : Samples → Box → Bool
both a k = nat_lt 0 (many a (lower k)) && nat_lt 0 (many a (upper k))

-- stay where both halves hold samples, else go on from the half that does
abbrev pub descend : (Box → Box) → Box → Bool → Bool → Box
descend d k true low = k
descend d k false true = d (lower k)
descend d k false false = d (upper k)

unfoldable pub deepest : Samples → ℕ → Box → Box
deepest a zero k = k
deepest a (suc n) k = descend (deepest a n) k (both a k) (nat_lt 0 (many a (lower k)))

unfoldable pub core : Samples → Box → Box
core a k = deepest a (80 - k.depth) k

unfoldable pub few : Samples → Box → Bool
few a k = nat_le (many a k) 4 || nat_le 80 k.depth

-- few samples make a leaf; else the box is split where both halves hold samples, and shrunk where one does not
abbrev pub boxed : (Box → Plan) → Samples → Box → Bool → Bool → Plan
boxed d a k true parted = stop
boxed d a k false true = halve (d (lower k)) (d (upper k))
boxed d a k false false = focus (core a k) (d (core a k))

-- with at most n halvings to go
unfoldable pub draw : Samples → ℕ → Box → Plan
draw a zero k = stop
draw a (suc n) k = boxed (draw a n) a k (few a k) (both a k)

unfoldable pub plan : Samples → Box → Plan
plan a k = draw a (80 - k.depth) k

-- the tree over all the samples
abbrev pub rebuilt : Samples → Plan
rebuilt a = draw a 80 everything

-- what one node is
abbrev pub Is : Node → Kind → Box → ℕ → ℕ → Type 0
Is x t k f s = (x.kind ≡ t) × Alike x.box k × (x.first ≡ f) × (x.second ≡ s)

abbrev pub Numbered : (ℕ → Node) → Plan → Box → ℕ → Type 0
Numbered node stop k n = Is (node n) leaf k 0 0
Numbered node (halve p q) k n = Is (node n) split k (suc n) (suc n + size p) × Numbered node p (lower k) (suc n) × Numbered node q (upper k) (suc n + size p)
Numbered node (focus j p) k n = Is (node n) shrink k (suc n) (suc n + size p) × Numbered node p j (suc n) × Is (node (suc n + size p)) leaf k 0 0

-- how many samples of fibre f lie in the box k
unfoldable pub of_fibre : Samples → Box → ℕ → ℕ
of_fibre a k f = count (λ s. lodged a k s && a.fibre s == f) a.slots

-- each node counts the samples in its box, and a rim none
abbrev pub Tallied : Samples → (ℕ → ℕ → ℕ) → Plan → Box → ℕ → Type 0
Tallied a counts stop k n = (f : ℕ) → f < 8 → counts n f ≡ of_fibre a k f
Tallied a counts (halve l r) k n = ((f : ℕ) → f < 8 → counts n f ≡ of_fibre a k f) × Tallied a counts l (lower k) (suc n) × Tallied a counts r (upper k) (suc n + size l)
Tallied a counts (focus j c) k n = ((f : ℕ) → f < 8 → counts n f ≡ of_fibre a k f) × Tallied a counts c j (suc n) × ((f : ℕ) → f < 8 → counts (suc n + size c) f ≡ 0)

-- a plan whose boxes are on the grid and lie in one another
abbrev pub Fits : Plan → Box → Type 0
Fits stop k = Grid k
Fits (halve p q) k = Grid k × (k.depth < 80) × Fits p (lower k) × Fits q (upper k)
Fits (focus j p) k = Grid k × Inside j k × Fits p j
