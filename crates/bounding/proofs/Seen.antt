-- A walk over a field goes through a fair scene. Assumes nothing.
use Rattle.std.proofs.Common.{◌≡◌, ℕ, ◌≤◌, true, false, List, refl, sym, subst, arith}
use Rattle.boxes.specs.Views.{entries}
use Rattle.drawing.specs.Held.{samples_of}
use Rattle.drawing.proofs.Sound.{valid_samples}
use Rattle.samples.specs.Slots.{Table, values_at}
use Rattle.trees.specs.Lawful.{is_leaf}
use Rattle.trees.specs.Samples.{Valid}
use Rattle.trees.specs.Trees.{Kind, leaf, split, shrink, Node, Rules, parts, names, choice}
use Rattle.trees.proofs.Lawfully.{rules_from_lawful}
use Rattle.trees.proofs.Pathed.{count_one, choice_names, under_root, has_next, next_up, next_under, under_covers}
use Rattle.field.specs.Fields.{holds, node_count, tree}
use Rattle.field.specs.declared.state.Field.{Field}
use Rattle.walks.specs.Scenes.{Fair}
use Rattle.bounding.specs.Fields.{scene, scene_of, belongs, belongs_in}
use Rattle.bounding.proofs.Covered.{covered_between}

no_leaf_parts : (k : Kind) → is_leaf k ≡ false → parts k ≡ true
no_leaf_parts leaf e = absurd (cc)
no_leaf_parts split e = refl
no_leaf_parts shrink e = refl

module _ (w j : ℕ → ℕ → ℕ) (weigh_rises : (b g h : ℕ) → g ≤ h → w b g ≤ w b h)
    (join_rises : (u v s t : ℕ) → u ≤ s → v ≤ t → j u v ≤ j s t) where
  pub fair_scene : (t : Table) (m : ℕ) (node : ℕ → Node) (r : List ℕ) → Rules m node → Valid (samples_of t) → Fair (scene w j t m node r) (belongs node t)
  fair_scene t m node r rules valid = record {
    some = rules.some;
    root = λ s l h. under_root node (entries (values_at t s));
    down = λ x s l k h e u.
        let v = entries (values_at t s) in
        let n = has_next m node rules v x (no_leaf_parts (node x).kind e) in
        let up = next_up m node rules v x (choice node x v) l n in
        (up.0, up.1, next_under m node rules v x (choice node x v) l u n);
    parent = λ x y a b l k e h same.
        let v = entries (values_at t a) in
        let u = entries (values_at t b) in
        let n = has_next m node rules v x (no_leaf_parts (node x).kind e) in
        let o = has_next m node rules u y (no_leaf_parts (node y).kind h) in
        let up = next_up m node rules v x (choice node x v) l n in
        count_one (λ z. names node z (choice node x v)) m x y (rules.once (choice node x v) (omega (arith, up.0)) up.1) l k (choice_names node v x (choice node x v) n) (subst (λ z. names node y z ≡ true) (sym same) (choice_names node u y (choice node y u) o));
    bounds = λ x s l k h u. covered_between w j weigh_rises join_rises (node x).box r (values_at t s) (under_covers m node rules (entries (values_at t s)) (valid s k h).1 x l u);
  }

  pub fair_field : (f : Field) (r : List ℕ) → Fair (scene_of w j f r) (belongs_in f)
  fair_field f r = fair_scene (holds f) (node_count f) (tree f) r (rules_from_lawful (node_count f) (tree f) f.rules_hold) (valid_samples f.slots)
