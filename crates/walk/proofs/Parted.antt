-- The two children of a node, as a walk sees them: each sample below it belongs below one. Assumes nothing.
use Rattle.std.proofs.Common.{◌≡◌, ℕ, ◌<◌, Bool, true, false, ◌&&◌, ◌||◌, eqb, List, refl, arith}
use Rattle.std.proofs.lemmas.Bool.Decides.{nat_tests}
use Rattle.boxes.specs.Views.{entries}
use Rattle.samples.specs.Slots.{Table, values_at}
use Rattle.trees.specs.Lawful.{is_leaf}
use Rattle.trees.specs.Trees.{Kind, leaf, split, shrink, Node, Rules, parts, names, choice, next}
use Rattle.trees.proofs.Pathed.{child, first_named, second_named, has_next, choice_names}
use Rattle.walks.specs.Scenes.{Scene}
use Rattle.bounding.specs.Fields.{scene, belongs}
use Rattle.walk.proofs.Whole.{Upward}

-- a and b are the children of node x
pub record Parted (c : Scene) (u : ℕ → ℕ → Bool) (x a b : ℕ) : Type 0 where
  pub inner : c.leaf x ≡ false
  pub up : (x < a) × (x < b)
  pub below : (a < c.nodes) × (b < c.nodes)
  pub twice : a ≡ b → ⊥
  pub first : (s : ℕ) → u a s ≡ (u x s && eqb (c.child x s) a)
  pub second : (s : ℕ) → u b s ≡ (u x s && eqb (c.child x s) b)
  pub one : (s : ℕ) → (eqb (c.child x s) a || eqb (c.child x s) b) ≡ true

inner_parts : (k : Kind) → is_leaf k ≡ false → parts k ≡ true
inner_parts leaf e = absurd (cc)
inner_parts split e = refl
inner_parts shrink e = refl

parts_inner : (k : Kind) → parts k ≡ true → is_leaf k ≡ false
parts_inner leaf e = absurd (cc)
parts_inner split e = refl
parts_inner shrink e = refl

module _ (w j : ℕ → ℕ → ℕ) (t : Table) (m : ℕ) (node : ℕ → Node) (r : List ℕ) (rules : Rules m node) where
  value : ℕ → ℕ → ℕ
  value s = entries (values_at t s)

  next_is : (v : ℕ → ℕ) (x y : ℕ) → parts (node x).kind ≡ true → next node v x y ≡ eqb (choice node x v) y
  unfolding next
  next_is v x y p = grind arith

  one_of_two : (v : ℕ → ℕ) (x : ℕ) → (eqb (choice node x v) (node x).first || eqb (choice node x v) (node x).second) ≡ true
  unfolding choice
  one_of_two v x = grind (arith, nat_tests)

  child_is : (x y s : ℕ) → x < m → parts (node x).kind ≡ true → names node x y ≡ true → belongs node t y s ≡ (belongs node t x s && eqb (choice node x (entries (values_at t s))) y)
  child_is x y s l p n =
      let v = entries (values_at t s) in
      let a = child m node rules v x y l n in
      let b = next_is v x y p in
      cc

  pub parted : (x : ℕ) → x < m → parts (node x).kind ≡ true → Parted (scene w j t m node r) (belongs node t) x (node x).first (node x).second
  parted x l p =
      let links = rules.links x l p in
      let v = entries (values_at t 0) in
      record {
        inner = parts_inner (node x).kind p;
        up = (links.0, links.2);
        below = (links.1, links.3);
        twice = rules.twice x l p;
        first = λ s. child_is x (node x).first s l p (first_named m node rules v x p);
        second = λ s. child_is x (node x).second s l p (second_named m node rules v x p);
        one = λ s. one_of_two (entries (values_at t s)) x;
      }

  pub upward : Upward (scene w j t m node r) (belongs node t)
  upward x s z l e h =
      let p = inner_parts (node x).kind e in
      let v = entries (values_at t s) in
      let n = choice_names node v x (choice node x v) (has_next m node rules v x p) in
      let a = child_is x (choice node x v) z l p n in
      (grind arith, grind (arith, nat_tests))
