-- A step over a field: what opening a node makes of the table and of the node of each slot. Assumes nothing.
use Rattle.std.proofs.Common.{◌≡◌, ℕ, ◌<◌, ◌≤◌, Bool, true, cond, ◌&&◌, eqb, List, length, get_or, unwrap_or, Some, None, sym, refl, ap, ◌∙◌, subst, arith}
use Rattle.std.specs.List.{swap_remove}
use Rattle.std.proofs.lemmas.Bool.Decides.{nat_tests}
use Rattle.std.proofs.lemmas.List.{get_or_default}
use Rattle.boxes.specs.Views.{blank, children_of, links_of, kind_of, node_of}
use Rattle.boxes.specs.declared.node.Kind.{Kind}
use Rattle.boxes.specs.declared.node.Kind.TheVariants.{Leaf, Split, Shrink}
use Rattle.boxes.specs.declared.node.Node.{Node}
use Rattle.bounding.specs.Fields.{scene_of, belongs_in}
use Rattle.bounding.proofs.Seen.{fair_field}
use Rattle.entries.specs.OpenNodes.{stands_for}
use Rattle.entries.specs.Shows.{members, Shows}
use Rattle.entries.specs.declared.entry.Entry.{Entry}
use Rattle.entries.specs.declared.entry.Of.{Of}
use Rattle.entries.specs.declared.entry.Of.TheVariants.{Node as InNode, Sample}
use Rattle.entries.proofs.Replaced.{lost_entry}
use Rattle.field.specs.Fields.{holds, node_count, tree}
use Rattle.field.specs.declared.state.Field.{Field}
use Rattle.ranking.specs.Counts.{count}
use Rattle.samples.specs.Slots.{held}
use Rattle.trees.specs.Lawful.{is_leaf}
use Rattle.trees.specs.Trees.{parts, Rules}
use Rattle.trees.specs.Trees as trees
use Rattle.trees.proofs.Lawfully.{rules_from_lawful}
use Rattle.walks.specs.Scenes.{Scene, Fair}
use Rattle.walks.specs.Walk.{Place, dropped, is_within, opening, walk}
use Rattle.walks.proofs.Walked.{Stands, Walked, walked}
use Rattle.walk.specs.Places.{leaving, entering, singled, Vacant, Placed, StandIn, moved_place}
use Rattle.walk.specs.Stands.{Opening}
use Rattle.walk.proofs.Opening.{leaf_opening, first_vacant, second_vacant, split_opening, stands_test, placed_leaf, placed_split}
use Rattle.walk.proofs.Parted.{Parted, parted, upward}
use Rattle.walk.proofs.Shown.{shows_ext}
use Rattle.walk.proofs.Whole.{Whole, walk_whole}

stands_members : (c : Scene) (p : ℕ → Place) (o : Of) (x s : ℕ) → stands_for o x ≡ true → members c p o s ≡ (c.held s && is_within (p s) x)
stands_members c p (InNode y t) x s e = let f : y ≡ x = grind (arith, nat_tests) in ap (λ z. c.held s && is_within (p s) z) f
stands_members c p (Sample r) x s e = absurd (cc)

leaf_kind : (k : Kind) → None ≡ children_of k → is_leaf (kind_of k) ≡ true
leaf_kind Leaf e = refl
leaf_kind (Split a b) e = absurd (cc)
leaf_kind (Shrink a b) e = absurd (cc)

parts_kind : (k : Kind) (a b : ℕ) → Some (a, b) ≡ children_of k → parts (kind_of k) ≡ true
parts_kind Leaf a b e = absurd (cc)
parts_kind (Split c d) a b e = refl
parts_kind (Shrink c d) a b e = refl

module _ (w j : ℕ → ℕ → ℕ) (weigh_rises : (b g h : ℕ) → g ≤ h → w b g ≤ w b h)
    (join_rises : (u v s t : ℕ) → u ≤ s → v ≤ t → j u v ≤ j s t) (d : Field) (r : List ℕ) where
  abbrev c : Scene
  c = scene_of w j d r

  abbrev u : ℕ → ℕ → Bool
  u = belongs_in d

  pub fair : Fair (scene_of w j d r) (belongs_in d)
  fair = fair_field w j weigh_rises join_rises d r

  rules : Rules (node_count d) (tree d)
  rules = rules_from_lawful (node_count d) (tree d) d.rules_hold

  module _ (k : ℕ) (positive : 0 < k) (many : k ≤ count (held (holds d)) 256) where
    pub walked_at : (i : ℕ) → Walked (scene_of w j d r) (belongs_in d) k (walk (scene_of w j d r) k i)
    walked_at i = walked c u k fair positive many i

    pub whole_at : (i : ℕ) → Whole (scene_of w j d r) (belongs_in d) (walk (scene_of w j d r) k i)
    whole_at =
        walk_whole c u k (upward w j (holds d) (node_count d) (tree d) r rules)
        (λ i x s l h e. (subst (λ q. Stands c u s q) e ((walked_at i).stands s l h)).0)

    -- node x was read as n, and its entry is the i-th of the table
    module _ (t i x : ℕ) (es : List Entry) (at : List ℕ) (ready : Opening c u k t i x es at) (within : i < length es) (l : x < node_count d) (n : Node) (is : n ≡ get_or d.nodes.items x n) where
      abbrev p : ℕ → Place
      p = walk c k t

      of_node : {A : Type 0} (f : trees.Node → A) → f (tree d x) ≡ f (node_of n)
      of_node f = ap (λ (y : Node). f (node_of y)) (get_or_default d.nodes.items x blank n l ∙ sym is)

      pub left_table : (e : Entry) → Shows (scene_of w j d r) (leaving (scene_of w j d r) x (walk (scene_of w j d r) k t)) (swap_remove es i e)
      left_table e =
          let of : (s : ℕ) → members c p (get_or es i e).of s ≡ (c.held s && is_within (p s) x) = λ s. stands_members c p (get_or es i e).of x s (ready.stands e) in
          lost_entry c p (leaving c x p) es ready.shows i e within
          (λ s m h. ap (λ b. cond b dropped (p s)) (sym (of s) ∙ h))
          (λ s m h. ap (λ b. cond b dropped (p s)) (sym (of s) ∙ h))

      pub stand_in : StandIn (scene_of w j d r) x (walk (scene_of w j d r) k t) at
      stand_in s m h = stands_test c u k p (walked_at t) (whole_at t) x ready.opens at ready.placed s m h

      module _ (none : None ≡ children_of n.kind) where
        leaf : c.leaf x ≡ true
        leaf = of_node (λ y. is_leaf y.kind) ∙ leaf_kind n.kind none

        pub leaf_table : (new : List Entry) → Shows c (singled c 256 x p) new → Shows (scene_of w j d r) (opening (scene_of w j d r) k (walk (scene_of w j d r) k t)) new
        leaf_table new shows = shows_ext c (singled c 256 x p) (opening c k p) new (leaf_opening c u k p (walked_at t) (whole_at t) x ready.opens leaf) shows

        pub leaf_places : Placed (scene_of w j d r) (belongs_in d) (opening (scene_of w j d r) k (walk (scene_of w j d r) k t)) at
        leaf_places = placed_leaf c u k p (walked_at t) (whole_at t) x ready.opens at ready.placed leaf

      module _ (a b : ℕ) (some : Some (a, b) ≡ children_of n.kind) where
        links : links_of n.kind ≡ (a, b)
        links = ap (λ o. unwrap_or o (0, 0)) (sym some)

        inner : parts (tree d x).kind ≡ true
        inner = of_node (λ y. parts y.kind) ∙ parts_kind n.kind a b some

        two : Parted c u x a b
        two =
            let f : (tree d x).first ≡ a = of_node (λ y. y.first) ∙ ap (λ (z : ℕ × ℕ). z.0) links in
            let s : (tree d x).second ≡ b = of_node (λ y. y.second) ∙ ap (λ (z : ℕ × ℕ). z.1) links in
            subst (λ y. Parted c u x y b) f (subst (λ y. Parted c u x (tree d x).first y) s (parted w j (holds d) (node_count d) (tree d) r rules x l inner))

        pub children_in : (a < node_count d) × (b < node_count d)
        children_in = two.below

        pub vacant_first : Vacant c u a (leaving c x p)
        vacant_first = first_vacant c u k p (walked_at t) (whole_at t) x ready.opens a b two

        pub vacant_second : Vacant c u b (entering c u a (leaving c x p))
        vacant_second = second_vacant c u k p (walked_at t) (whole_at t) x ready.opens a b two

        pub split_table : (new : List Entry) → Shows c (entering c u b (entering c u a (leaving c x p))) new → Shows (scene_of w j d r) (opening (scene_of w j d r) k (walk (scene_of w j d r) k t)) new
        split_table new shows = shows_ext c (entering c u b (entering c u a (leaving c x p))) (opening c k p) new (split_opening c u k p (walked_at t) (whole_at t) x ready.opens a b two) shows

        pub split_places : (new : List ℕ) → ((s : ℕ) → s < 256 → get_or new s 0 ≡ moved_place (holds d) (tree d) x s (get_or at s 0)) → Placed (scene_of w j d r) (belongs_in d) (opening (scene_of w j d r) k (walk (scene_of w j d r) k t)) new
        split_places new moved =
            placed_split c u k p (walked_at t) (whole_at t) x ready.opens at ready.placed fair two.inner new
            (λ s m h. moved s m ∙ ap (λ g. cond g (c.child x s) (get_or at s 0)) (let q = inner in let e : (parts (tree d x).kind && (held (holds d) s && eqb (get_or at s 0) x)) ≡ eqb (get_or at s 0) x = grind arith in e))
