-- The tests of one node of a list, as the code puts them to its kind and its box. Assumes nothing.
use Rattle.std.proofs.Common.{◌≡◌, ℕ, zero, suc, ◌+◌, ◌<◌, ◌≤◌, Bool, true, false, not, ◌&&◌, ◌||◌, eqb, List, length, replicate, get_or, Some, None, Option, is_none, sym, refl, ap, ◌∙◌, arith}
use Rattle.std.specs.Prelude.{Decides}
use Rattle.std.proofs.lemmas.Bool.Decides.{nat_tests, same_from_decides}
use Rattle.ranking.specs.Counts.{bit}
use Rattle.ranking.proofs.Counted.{count_zero, count_more, count_le}
use Rattle.boxes.specs.Views.{entries, box_of, kind_of, links_of, children_of, node_of, node_at}
use Rattle.boxes.specs.declared.node.Kind.{Kind}
use Rattle.boxes.specs.declared.node.Kind.TheVariants.{Leaf, Split, Shrink}
use Rattle.boxes.specs.declared.node.Node.{Node}
use Rattle.trees.specs.Boxes.{Box, Inside}
use Rattle.trees.specs.Lawful.{inside, follows, is_leaf, nested, nested_by}
use Rattle.trees.specs.Trees as trees
use Rattle.trees.specs.Trees.{parts}
use Rattle.trees.proofs.Lawfully.{inside_says, inside_from}
use Rattle.records.specs.Checks.{namings, named_once}
use Rattle.records.proofs.Links.{links_by_numbers}
use Rattle.field.specs.Flaws.{ahead, tied}
use Rattle.field.proofs.Stepped.{read}

-- how often the children name y
abbrev pub naming : ℕ → Option (ℕ × ℕ) → ℕ
naming y None = 0
naming y (Some (p, q)) = bit (eqb p y) + bit (eqb q y)

ahead_is : (m x : ℕ) (k : Kind) → (not (parts (kind_of k)) || (follows m x (links_of k).0 && (follows m x (links_of k).1 && not (eqb (links_of k).0 (links_of k).1)))) ≡ ahead m x (children_of k)
ahead_is m x Leaf = refl
ahead_is m x (Split p q) = refl
ahead_is m x (Shrink p q) = refl

naming_is : (y : ℕ) (k : Kind) → bit (parts (kind_of k) && eqb (links_of k).0 y) + bit (parts (kind_of k) && eqb (links_of k).1 y) ≡ naming y (children_of k)
naming_is y Leaf = refl
naming_is y (Split p q) = refl
naming_is y (Shrink p q) = refl

abbrev nests : (ℕ → trees.Node) → Box → Kind → Bool
nests node b k = nested_by (kind_of k) b (node (links_of k).0) (node (links_of k).1)

pub leaf_is : (k : Kind) → is_leaf (kind_of k) ≡ is_none (children_of k)
leaf_is Leaf = refl
leaf_is (Split p q) = refl
leaf_is (Shrink p q) = refl

pub inside_is : (j k : Box) (r : Bool) → Decides r (Inside j k) → r ≡ inside j k
inside_is j k r d = same_from_decides r (inside j k) d (inside_says j k, inside_from j k)

-- node x is n, as the code read it
pub seen : (ns : List Node) (x : ℕ) (n : Node) → x < length ns → n ≡ get_or ns x n → node_at ns x ≡ node_of n
seen ns x n l is = read ns x n l ∙ ap node_of (sym is)

module _ (ns : List Node) (x : ℕ) (n : Node) (at : node_at ns x ≡ node_of n) where
  pub tied_is : tied (length ns) (node_at ns) x ≡ (ahead (length ns) x (children_of n.kind) && (eqb x 0 || eqb (namings (length ns) (node_at ns) x) 1))
  tied_is =
      links_by_numbers (length ns) (node_at ns) x
      ∙ ap (λ (z : trees.Node). (not (parts z.kind) || (follows (length ns) x z.first && (follows (length ns) x z.second && not (eqb z.first z.second)))) && named_once (length ns) (node_at ns) x) at
      ∙ ap (λ b. b && named_once (length ns) (node_at ns) x) (ahead_is (length ns) x n.kind)

  pub children_within : (p q : ℕ) → tied (length ns) (node_at ns) x ≡ true → children_of n.kind ≡ Some (p, q) → (p < length ns) × (q < length ns)
  children_within p q h e =
      let t = sym tied_is ∙ h in
      let a : ahead (length ns) x (Some (p, q)) ≡ true = ap (ahead (length ns) x) (sym e) ∙ grind arith in
      (grind (arith, nat_tests), grind (arith, nat_tests))

  nested_is : nested (node_at ns) x ≡ nests (node_at ns) (box_of n.bounds) n.kind
  unfolding nested
  nested_is = ap (λ (z : trees.Node). nested_by z.kind z.box (node_at ns z.first) (node_at ns z.second)) at

  pub nested_by_kind : (k : Kind) → n.kind ≡ k → nested (node_at ns) x ≡ nests (node_at ns) (box_of n.bounds) k
  nested_by_kind k e = nested_is ∙ ap (nests (node_at ns) (box_of n.bounds)) e

-- how often y is named, with one node more
pub named_more : (ns : List Node) (i : ℕ) (n : Node) → node_at ns i ≡ node_of n → (y : ℕ) (o : Option (ℕ × ℕ)) → children_of n.kind ≡ o → namings (i + 1) (node_at ns) y ≡ namings i (node_at ns) y + naming y o
unfolding namings
named_more ns i n at y o e =
    let a = count_more (λ x. parts (node_at ns x).kind && eqb (node_at ns x).first y) i in
    let b = count_more (λ x. parts (node_at ns x).kind && eqb (node_at ns x).second y) i in
    let c = ap (λ (z : trees.Node). bit (parts z.kind && eqb z.first y) + bit (parts z.kind && eqb z.second y)) at ∙ naming_is y n.kind ∙ ap (naming y) e in
    omega arith

bit_one : (b : Bool) → bit b ≤ 1
bit_one true = omega arith
bit_one false = omega arith

-- so few are named, and one more
pub named_few : (ns : List Node) (i y : ℕ) (b : Bool) → i ≤ 1021 → namings i (node_at ns) y + bit b < 65535
unfolding namings
named_few ns i y b l =
    omega (arith, count_le (λ x. parts (node_at ns x).kind && eqb (node_at ns x).first y) i, count_le (λ x. parts (node_at ns x).kind && eqb (node_at ns x).second y) i, bit_one b)

-- no child yet
pub zero_at : (n y : ℕ) → entries (replicate n 0) y ≡ 0
zero_at zero y = refl
zero_at (suc n) zero = refl
zero_at (suc n) (suc y) = zero_at n y

pub none_named : (ns : List Node) (y : ℕ) → 0 ≡ namings 0 (node_at ns) y
unfolding namings
none_named ns y =
    sym (λ i. count_zero (λ x. parts (node_at ns x).kind && eqb (node_at ns x).first y) i + count_zero (λ x. parts (node_at ns x).kind && eqb (node_at ns x).second y) i)
