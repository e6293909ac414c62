-- Which rule of a tree its nodes break first, and a field with a given tree. Assumes nothing.
--   rooted m node   there is a node, and node 0 has the box of all readings
--   tied m node x   the links of node x: its children come after it, and node x after 0 is one child number of all
--   flaw m node     the first rule that the nodes break, with the lowest node that breaks it
--   ahead m x o     the children o of node x, if it has any, are two of m nodes and come after it
--   Planted ns f    the field f holds no sample, and its tree has these nodes, which count none
use Rattle.std.specs.Prelude.{◌≡◌, ℕ, ◌<◌, Bool, true, not, cond, ◌&&◌, ◌==◌, List, length, replicate, Some, None, Option, nat_lt}
use Rattle.std.specs.Option.{option_map, option_or}
use Rattle.ranking.specs.Lowest.{lowest}
use Rattle.boxes.specs.Views.{node_at}
use Rattle.boxes.specs.declared.node.Node.{Node as BoxNode}
use Rattle.trees.specs.Lawful.{whole, follows, linked, nested}
use Rattle.trees.specs.Trees.{Node}
use Rattle.records.specs.Checks.{named_once}
use Rattle.field.specs.Fields.{holds, node_count, tree, counts}
use Rattle.field.specs.declared.flaws.Flaw.{Flaw}
use Rattle.field.specs.declared.flaws.Flaw.TheVariants.{Root, Links, Boxes}
use Rattle.field.specs.declared.state.Field.{Field}

abbrev pub rooted : ℕ → (ℕ → Node) → Bool
rooted m node = nat_lt 0 m && whole (node 0).box

abbrev pub tied : ℕ → (ℕ → Node) → ℕ → Bool
tied m node x = linked m node x && named_once m node x

-- the links of all nodes are tested before the boxes of any
unfoldable pub flaw : ℕ → (ℕ → Node) → Option Flaw
flaw m node =
    cond (rooted m node)
    (option_or (option_map Links (lowest (λ x. not (tied m node x)) m)) (option_map Boxes (lowest (λ x. not (nested node x)) m)))
    (Some Root)

abbrev pub ahead : ℕ → ℕ → Option (ℕ × ℕ) → Bool
ahead m x None = true
ahead m x (Some (p, q)) = follows m x p && (follows m x q && not (p == q))

pub record Planted (ns : List BoxNode) (f : Field) : Type 0 where
  pub samples : holds f ≡ replicate 256 None
  pub size : node_count f ≡ length ns
  pub shape : (x : ℕ) → tree f x ≡ node_at ns x
  pub counts : (x g : ℕ) → x < length ns → g < 8 → counts f x g ≡ 0
