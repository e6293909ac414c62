-- One step along the path of values, as the code takes it. Assumes nothing.
use Rattle.std.proofs.Common.{◌≡◌, ℕ, ◌<◌, true, false, not, unwrap_or, List, length, get_or, Some, sym, refl, ap, ◌∙◌, arith}
use Rattle.std.proofs.lemmas.List.{get_or_default}
use Rattle.trees.specs.Boxes.{covers}
use Rattle.trees.specs.Trees.{Rules, parts, next}
use Rattle.trees.specs.Trees as trees
use Rattle.trees.proofs.Pathed.{next_first, next_second}
use Rattle.boxes.specs.Views.{box_of, blank, children_of, kind_of, links_of, node_of, node_at}
use Rattle.field.specs.Paths.{Goes}
use Rattle.boxes.specs.declared.node.Kind.{Kind}
use Rattle.boxes.specs.declared.node.Kind.TheVariants.{Leaf, Split, Shrink}
use Rattle.boxes.specs.declared.node.Node.{Node}

-- node x, as the code read it
pub read : (ns : List Node) (x : ℕ) (n : Node) → x < length ns → node_at ns x ≡ node_of (get_or ns x n)
read ns x n l = ap node_of (get_or_default ns x blank n l)

-- the code's test says that a kind is not the leaf's
pub no_leaf : (k : Kind) (p q : ℕ) → Some (p, q) ≡ children_of k → k ≡ Leaf → ⊥
no_leaf Leaf p q e h = cc
no_leaf (Split l u) p q e h = cc
no_leaf (Shrink c r) p q e h = cc

parted : (k : Kind) (p q : ℕ) → Some (p, q) ≡ children_of k → parts (kind_of k) ≡ true
parted Leaf p q e = absurd (no_leaf Leaf p q e refl)
parted (Split l u) p q e = refl
parted (Shrink c r) p q e = refl

-- node x of the tree ns was read, which has the children p and q, and then the first of them
module _ (ns : List Node) (rules : Rules (length ns) (node_at ns)) (v : ℕ → ℕ) (x : ℕ) (l : x < length ns) (n : Node) (p q : ℕ) (e : Some (p, q) ≡ children_of (get_or ns x n).kind) where
  has_children : parts (node_at ns x).kind ≡ true
  has_children = ap (λ (y : trees.Node). parts y.kind) (read ns x n l) ∙ parted (get_or ns x n).kind p q e

  links_are : links_of (get_or ns x n).kind ≡ (p, q)
  links_are = ap (λ o. unwrap_or o (0, 0)) (sym e)

  first_is : (node_at ns x).first ≡ p
  first_is = ap (λ (y : trees.Node). y.first) (read ns x n l) ∙ ap (λ (t : ℕ × ℕ). t.0) links_are

  second_is : (node_at ns x).second ≡ q
  second_is = ap (λ (y : trees.Node). y.second) (read ns x n l) ∙ ap (λ (t : ℕ × ℕ). t.1) links_are

  pub ups : (x < p) × (p < length ns) × (x < q) × (q < length ns)
  ups =
      let u = rules.links x l has_children in
      let a = first_is in
      let b = second_is in
      (omega (arith, u.0), omega (arith, u.1), omega (arith, u.2), omega (arith, u.3))

  module _ (f : Node) where
    covers_read : covers (node_at ns (node_at ns x).first).box v ≡ covers (box_of (get_or ns p f).bounds) v
    covers_read =
        ap (λ y. covers (node_at ns y).box v) first_is ∙ ap (λ (y : trees.Node). covers y.box v) (read ns p f ups.1)

    pub to_first : true ≡ covers (box_of (get_or ns p f).bounds) v → Goes (node_at ns) v (length ns) x (Some p)
    to_first c =
        let a = next_first (length ns) (node_at ns) rules v x l has_children ∙ covers_read ∙ sym c in
        (rw first_is at a, ups.0, ups.1)

    pub to_second : false ≡ covers (box_of (get_or ns p f).bounds) v → Goes (node_at ns) v (length ns) x (Some q)
    to_second c =
        let a = next_second (length ns) (node_at ns) rules v x l has_children ∙ ap not (covers_read ∙ sym c) in
        (rw second_is at a, ups.2, ups.3)
