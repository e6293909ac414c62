-- The first rule that nodes break, and that nodes which break none are a tree. Assumes nothing.
use Rattle.std.proofs.Common.{◌≡◌, ℕ, zero, suc, ◌<◌, Bool, true, false, not, cond, ◌||◌, ltb, List, length, get_or, Some, None, Option, sym, refl, ap, ◌∙◌, arith}
use Rattle.std.specs.Option.{option_map, option_or}
use Rattle.std.proofs.lemmas.Bool.{and_parts, and_from, ltb-true, lt-ltb}
use Rattle.ranking.specs.Lowest.{lowest}
use Rattle.ranking.proofs.Found.{lowest_none, none_lowest}
use Rattle.trees.specs.Boxes.{is_on_grid}
use Rattle.trees.specs.Lawful.{childless, whole, sound, linked, nested, lawful}
use Rattle.trees.specs.Trees as trees
use Rattle.trees.proofs.Boxed.{every_at, every_all}
use Rattle.boxes.specs.Views.{blank, node_of, node_at}
use Rattle.boxes.specs.declared.node.Kind.{Kind}
use Rattle.boxes.specs.declared.node.Kind.TheVariants.{Leaf, Split, Shrink}
use Rattle.boxes.specs.declared.node.Node.{Node}
use Rattle.trees.proofs.Lawfully.{rules_from_lawful}
use Rattle.records.proofs.Links.{once_from_rules}
use Rattle.field.specs.Flaws.{rooted, tied, flaw}
use Rattle.field.specs.declared.flaws.Flaw.{Flaw}
use Rattle.field.specs.declared.flaws.Flaw.TheVariants.{Root, Links, Boxes}

module _ (m : ℕ) (node : ℕ → trees.Node) where
  unlinked : Option ℕ
  unlinked = lowest (λ x. not (tied m node x)) m

  unnested : Option ℕ
  unnested = lowest (λ x. not (nested node x)) m

  pub flaw_root : rooted m node ≡ false → flaw m node ≡ Some Root
  unfolding flaw
  flaw_root e = ap (λ b. cond b (option_or (option_map Links (lowest (λ x. not (tied m node x)) m)) (option_map Boxes (lowest (λ x. not (nested node x)) m))) (Some Root)) e

  pub flaw_rooted : (o : Option ℕ) → rooted m node ≡ true → o ≡ lowest (λ x. not (tied m node x)) m → flaw m node ≡ option_or (option_map Links o) (option_map Boxes (lowest (λ x. not (nested node x)) m))
  unfolding flaw
  flaw_rooted o e h =
      ap (λ b. cond b (option_or (option_map Links (lowest (λ x. not (tied m node x)) m)) (option_map Boxes (lowest (λ x. not (nested node x)) m))) (Some Root)) e
      ∙ ap (λ q. option_or (option_map Links q) (option_map Boxes (lowest (λ x. not (nested node x)) m))) (sym h)

  -- a test that no node fails
  pub all_pass : (p : ℕ → Bool) → None ≡ lowest (λ x. not (p x)) m → (x : ℕ) → x < m → p x ≡ true
  all_pass p h x l = let n = lowest_none (λ x. not (p x)) m (sym h) x l in grind arith

  none_fails : (p : ℕ → Bool) → ((x : ℕ) → x < m → p x ≡ true) → lowest (λ x. not (p x)) m ≡ None
  none_fails p h = none_lowest (λ x. not (p x)) m (λ x l. ap not (h x l))

  pub unflawed : lawful m node ≡ true → flaw m node ≡ None
  unfolding lawful sound
  unflawed h =
      let p = and_parts _ _ h in
      let q = and_parts _ _ p.1 in
      let r = and_parts _ _ q.1 in
      let some : ltb 0 m ≡ true = p.0 in
      let root : whole (node 0).box ≡ true = let s = every_at (sound node) m 0 q.0 (ltb-true _ _ some) in (and_parts _ _ (and_parts _ _ s).1).1 in
      flaw_rooted None (and_from _ _ some root) (sym (none_fails (tied m node) (λ x l. and_from _ _ (every_at (linked m node) m x r.0 l) (once_from_rules m node (rules_from_lawful m node h) x l))))
      ∙ ap (λ q. option_map Boxes q) (none_fails (nested node) (λ x l. every_at (nested node) m x r.1 l))

  flawless : ((x : ℕ) → x < m → (is_on_grid (node x).box ≡ true) × (childless (node x) ≡ true)) → rooted m node ≡ true → None ≡ lowest (λ x. not (tied m node x)) m → None ≡ lowest (λ x. not (nested node x)) m → lawful m node ≡ true
  unfolding lawful sound
  flawless alone root links boxes =
      let r = and_parts _ _ root in
      and_from _ _ r.0
      (and_from _ _ (every_all (sound node) m (λ x l. and_from _ _ (alone x l).0 (and_from _ _ (alone x l).1 (first r.1 x))))
      (and_from _ _ (every_all (linked m node) m (λ x l. (and_parts _ _ (all_pass (tied m node) links x l)).0)) (every_all (nested node) m (all_pass (nested node) boxes))))
    where
      first : whole (node 0).box ≡ true → (y : ℕ) → (ltb 0 y || whole (node y).box) ≡ true
      first w zero = w
      first w (suc y) = let p = lt-ltb 0 (suc y) (omega arith) in grind arith

-- the nodes of a list have boxes on the grid, and no child of a leaf
module _ (ns : List Node) where
  bare : (k : Kind) (n : Node) → n.kind ≡ k → childless (node_of n) ≡ true
  bare Leaf n e = grind arith
  bare (Split p q) n e = grind arith
  bare (Shrink p q) n e = grind arith

  pub listed_lawful : flaw (length ns) (node_at ns) ≡ None → lawful (length ns) (node_at ns) ≡ true
  listed_lawful h = go (rooted (length ns) (node_at ns)) refl
    where
      links : Option ℕ
      links = lowest (λ x. not (tied (length ns) (node_at ns) x)) (length ns)

      boxes : Option ℕ
      boxes = lowest (λ x. not (nested (node_at ns) x)) (length ns)

      by : rooted (length ns) (node_at ns) ≡ true → (o q : Option ℕ) → o ≡ lowest (λ x. not (tied (length ns) (node_at ns) x)) (length ns) → q ≡ lowest (λ x. not (nested (node_at ns) x)) (length ns)
          → option_or (option_map Links o) (option_map Boxes q) ≡ None → lawful (length ns) (node_at ns) ≡ true
      by r None None a b e = flawless (length ns) (node_at ns) (λ x _. ((get_or ns x blank).bounds.on_grid, bare (get_or ns x blank).kind (get_or ns x blank) refl)) r a b
      by r None (Some q) a b e = absurd cc
      by r (Some o) q a b e = absurd cc

      go : (r : Bool) → rooted (length ns) (node_at ns) ≡ r → lawful (length ns) (node_at ns) ≡ true
      go true e = by e (lowest (λ x. not (tied (length ns) (node_at ns) x)) (length ns)) (lowest (λ x. not (nested (node_at ns) x)) (length ns)) refl refl (sym (flaw_rooted (length ns) (node_at ns) _ e refl) ∙ h)
      go false e = let f = sym (flaw_root (length ns) (node_at ns) e) ∙ h in absurd cc

  pub flawed : (e : Flaw) → flaw (length ns) (node_at ns) ≡ Some e → lawful (length ns) (node_at ns) ≡ false
  flawed e h = go (lawful (length ns) (node_at ns)) refl
    where
      go : (b : Bool) → lawful (length ns) (node_at ns) ≡ b → b ≡ false
      go false l = refl
      go true l = let f = sym (unflawed (length ns) (node_at ns) l) ∙ h in absurd cc
