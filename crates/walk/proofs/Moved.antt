-- Where the sample of a slot goes when a node is opened, as the code finds it. Assumes nothing.
use Rattle.std.proofs.Common.{◌≡◌, ℕ, ◌<◌, Bool, true, false, cond, ◌&&◌, eqb, List, length, get_or, Some, sym, ap, ◌∙◌, ⊎_elim, ◌≢◌, ◌+◌, ◌≤◌, set, get_or-set_same, get_or-set_other, arith}
use Rattle.std.proofs.lemmas.Bool.{cases_eq}
use Rattle.std.proofs.lemmas.Bool.Decides.{nat_tests}
use Rattle.boxes.specs.Views.{entries, box_of, children_of, node_at}
use Rattle.boxes.specs.declared.node.Node.{Node}
use Rattle.field.specs.Fields.{holds, node_count, tree}
use Rattle.field.specs.declared.state.Field.{Field}
use Rattle.field.proofs.Stepped.{ups, to_first, to_second}
use Rattle.samples.specs.Slots.{held, values_at}
use Rattle.trees.specs.Boxes.{covers}
use Rattle.trees.specs.Trees.{parts, choice, next, Rules}
use Rattle.trees.specs.Trees as trees
use Rattle.trees.proofs.Lawfully.{rules_from_lawful}
use Rattle.walk.specs.Places.{moved_place}

next_says : (node : ℕ → trees.Node) (v : ℕ → ℕ) (x y : ℕ) → next node v x y ≡ true → (parts (node x).kind ≡ true) × (choice node x v ≡ y)
unfolding next
next_says node v x y h = (grind arith, grind (arith, nat_tests))

-- node x was read as n, which has the children a and b
module _ (d : Field) (x : ℕ) (l : x < node_count d) (n : Node) (is : n ≡ get_or d.nodes.items x n) (a b : ℕ) (e : Some (a, b) ≡ children_of n.kind) where
  rules : Rules (length d.nodes.items) (node_at d.nodes.items)
  rules = rules_from_lawful (node_count d) (tree d) d.rules_hold

  named : Some (a, b) ≡ children_of (get_or d.nodes.items x n).kind
  named = e ∙ ap (λ (y : Node). children_of y.kind) is

  pub children_below : (a < node_count d) × (b < node_count d)
  children_below = let u = ups d.nodes.items rules (λ b. 0) x l n a b named in (u.1, u.3)

  -- the sample of slot s stands in x, and the first child was read as f
  module _ (s y : ℕ) (here : y ≡ x) (h : held (holds d) s ≡ true) (ns : List Node) (same : ns ≡ d.nodes.items) (i : ℕ) (at : i ≡ a) (vs : List ℕ) (values : values_at (holds d) s ≡ vs) (f : Node) where
    goes : (z : ℕ) → next (tree d) (entries vs) x z ≡ true → z ≡ moved_place (holds d) (tree d) x s y
    goes z g =
        let t = next_says (tree d) (entries vs) x z g in
        let p = t.0 in
        let c : (parts (tree d x).kind && (held (holds d) s && eqb y x)) ≡ true = grind (arith, nat_tests) in
        sym (t.1) ∙ ap (λ ws. choice (tree d) x (entries ws)) (sym values) ∙ ap (λ b. cond b (choice (tree d) x (entries (values_at (holds d) s))) y) (sym c)

    tested : (r : Bool) → r ≡ covers (box_of (get_or ns i f).bounds) (entries vs) → r ≡ covers (box_of (get_or d.nodes.items a f).bounds) (entries vs)
    tested r t = t ∙ ap (λ (ms : List Node). covers (box_of (get_or ms i f).bounds) (entries vs)) same ∙ ap (λ k. covers (box_of (get_or d.nodes.items k f).bounds) (entries vs)) at

    pub moved_first : true ≡ covers (box_of (get_or ns i f).bounds) (entries vs) → a ≡ moved_place (holds d) (tree d) x s y
    moved_first t = goes a (to_first d.nodes.items rules (entries vs) x l n a b named f (tested true t)).0

    pub moved_second : false ≡ covers (box_of (get_or ns i f).bounds) (entries vs) → b ≡ moved_place (holds d) (tree d) x s y
    moved_second t = goes b (to_second d.nodes.items rules (entries vs) x l n a b named f (tested false t)).0

-- one slot more was written, by what was there
pub written_more : (h : ℕ → ℕ → ℕ) (old now : List ℕ) (i v : ℕ) → i < length now → v ≡ h i (get_or now i 0) → ((s : ℕ) → s < i → get_or now s 0 ≡ h s (get_or old s 0)) → ((s : ℕ) → i ≤ s → get_or now s 0 ≡ get_or old s 0) → (s : ℕ) → s < i + 1 → get_or (set now i v) s 0 ≡ h s (get_or old s 0)
written_more h old now i v l is before rest s m =
    ⊎_elim (λ (e : s ≡ i). rw e (get_or-set_same now i v 0 l ∙ is ∙ ap (h i) (rest i (omega arith)))) (λ (n : s ≢ i). get_or-set_other now i s v 0 n ∙ before s (omega arith))
    (cases_eq s i)
