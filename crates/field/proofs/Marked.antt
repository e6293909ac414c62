-- Counts changed node by node along a path. Assumes nothing.
use Rattle.std.proofs.Common.{◌≡◌, ℕ, ◌<◌, Bool, true, false, ◌&&◌, eqb, ltb, List, length, sym, ap, ◌∙◌, ⊎_elim, subst, refl, arith}
use Rattle.std.proofs.lemmas.Bool.{cases_eq, ne_eqb}
use Rattle.std.proofs.lemmas.Bool.Decides.{nat_tests}
use Rattle.trees.specs.Trees.{Rules, under, next, leaf}
use Rattle.trees.proofs.Pathed.{under_between, under_after}
use Rattle.boxes.specs.Views.{node_at, counts_at}
use Rattle.boxes.specs.declared.node.Node.{Node}

-- from os to ns, R changed the count of fibre f in the nodes that pass t; all other counts are as they were
pub record Marks (R : ℕ → ℕ → Type 0) (f : ℕ) (t : ℕ → Bool) (os ns : List Node) : Type 0 where
  pub changed : (y : ℕ) → t y ≡ true → R (counts_at os y f) (counts_at ns y f)
  pub kept : (y g : ℕ) → (eqb f g && t y) ≡ false → counts_at ns y g ≡ counts_at os y g

-- one node more
module _ (R : ℕ → ℕ → Type 0) (f : ℕ) (os ns ts : List Node) (t u : ℕ → Bool) (x : ℕ) (h : Marks R f t os ns) (d : R (counts_at ns x f) (counts_at ts x f)) (k : (y g : ℕ) → (eqb f g && eqb y x) ≡ false → counts_at ts y g ≡ counts_at ns y g) (out : t x ≡ false) (now : u x ≡ true) (same : (y : ℕ) → (y ≡ x → ⊥) → u y ≡ t y) where
  changed_here : R (counts_at os x f) (counts_at ts x f)
  changed_here = subst (λ n. R n (counts_at ts x f)) (h.kept x f (grind arith)) d

  changed_there : (y : ℕ) → (y ≡ x → ⊥) → u y ≡ true → R (counts_at os y f) (counts_at ts y f)
  changed_there y ne e =
      let q = ne_eqb y x ne in
      subst (λ n. R (counts_at os y f) n) (sym (k y f (grind arith))) (h.changed y (sym (same y ne) ∙ e))

  pub marks_more : Marks R f u os ts
  marks_more = record {
    changed = λ y e.
        ⊎_elim
        (λ (s : y ≡ x). subst (λ i. R (counts_at os i f) (counts_at ts i f)) (sym s) changed_here)
        (λ ne. changed_there y ne e)
        (cases_eq y x);
    kept = λ y g e.
        ⊎_elim
        (λ (s : y ≡ x). let a : u y ≡ true = ap u s ∙ now in let b : t y ≡ false = ap t s ∙ out in k y g (grind arith) ∙ h.kept y g (grind arith))
        (λ ne. let q = ne_eqb y x ne in let a = same y ne in k y g (grind arith) ∙ h.kept y g (grind arith))
        (cases_eq y x);
  }

-- along the path of v in the tree os
module _ (R : ℕ → ℕ → Type 0) (f : ℕ) (v : ℕ → ℕ) (os : List Node) (rules : Rules (length os) (node_at os)) where
  abbrev pub before : ℕ → ℕ → Bool
  before x y = under (node_at os) v y && ltb y x

  pub mark_begins : Marks R f (before 0) os os
  mark_begins = record { changed = λ y e. absurd (grind (arith, nat_tests)); kept = λ y g e. refl }

  module _ (ns ts : List Node) (x : ℕ) (l : x < length os) (u : under (node_at os) v x ≡ true) (h : Marks R f (before x) os ns) (d : R (counts_at ns x f) (counts_at ts x f)) (k : (y g : ℕ) → (eqb f g && eqb y x) ≡ false → counts_at ts y g ≡ counts_at ns y g) where
    pub mark_steps : (z : ℕ) → next (node_at os) v x z ≡ true → x < z → Marks R f (before z) os ts
    mark_steps z n up =
        marks_more R f os ns ts (before x) (before z) x h d k (grind (arith, nat_tests)) (grind (arith, nat_tests))
        (λ y ne. let w : x < y → y < z → under (node_at os) v y ≡ false = λ p q. under_between (length os) (node_at os) rules v x z y l u n p q in grind (arith, nat_tests))

    pub mark_ends : (node_at os x).kind ≡ leaf → Marks R f (under (node_at os) v) os ts
    mark_ends e =
        marks_more R f os ns ts (before x) (under (node_at os) v) x h d k (grind (arith, nat_tests)) u
        (λ y ne. let w : x < y → under (node_at os) v y ≡ false = λ p. under_after (length os) (node_at os) rules v x y e u p in grind (arith, nat_tests))
