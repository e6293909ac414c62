-- What a field's type says holds of a tree that keeps the rules and counts nothing, over no samples. Assumes nothing.
use Rattle.std.proofs.Common.{◌≡◌, ℕ, ◌<◌, true, false, List, length, replicate, None, sym, ap, ◌∙◌, arith}
use Rattle.arrayvec.specs.ArrayVec.{ArrayVec, array_vec_len, with_items}
use Rattle.arrayvec.proofs.ArrayVecLemmas.{items-with_items}
use Rattle.ranking.proofs.Counted.{count_none}
use Rattle.samples.specs.Slots.{Table, held}
use Rattle.trees.specs.Lawful.{lawful, right}
use Rattle.trees.specs.Samples.{lies}
use Rattle.trees.specs.Trees as trees
use Rattle.trees.proofs.Lawfully.{right_from}
use Rattle.boxes.specs.Views.{node_at, counts_at}
use Rattle.boxes.specs.declared.node.Node.{Node}
use Rattle.drawing.specs.Held.{samples_of}
use Rattle.field.proofs.Redrawn.{none_held}

none_lies : (node : ℕ → trees.Node) (t : Table) → t ≡ replicate 256 None → (x f s : ℕ) → lies node (samples_of t) x f s ≡ false
unfolding lies
none_lies node t e x f s = let h : held t s ≡ false = ap (λ u. held u s) e ∙ none_held 256 s in grind arith

-- the nodes of w, seen as the slice os, were written over with ns
module _ (w : ArrayVec Node) (os ns : List Node) (is : os ≡ w.items) (long : length ns ≡ length os) (shape : (x : ℕ) → node_at ns x ≡ node_at os x) (zero : (x g : ℕ) → x < length os → g < 8 → counts_at ns x g ≡ 0) where
  items : (with_items w ns).items ≡ ns
  items = items-with_items w ns (long ∙ ap length is)

  pub cleared_size : array_vec_len (with_items w ns) ≡ array_vec_len w
  cleared_size = ap length items ∙ long ∙ ap length is

  pub cleared_shape : (x : ℕ) → node_at (with_items w ns).items x ≡ node_at w.items x
  cleared_shape x = ap (λ l. node_at l x) items ∙ shape x ∙ ap (λ l. node_at l x) is

  pub cleared_counts : (x g : ℕ) → x < array_vec_len w → g < 8 → counts_at (with_items w ns).items x g ≡ 0
  cleared_counts x g l k = ap (λ l. counts_at l x g) items ∙ zero x g (omega (arith, ap length is)) k

  pub cleared_lawful : lawful (array_vec_len w) (node_at w.items) ≡ true → lawful (array_vec_len (with_items w ns)) (node_at (with_items w ns).items) ≡ true
  cleared_lawful h = (λ i. lawful (cleared_size i) (λ x. cleared_shape x i)) ∙ h

  pub cleared_right : (t : Table) → t ≡ replicate 256 None → right (array_vec_len (with_items w ns)) (node_at (with_items w ns).items) (counts_at (with_items w ns).items) (samples_of t) ≡ true
  cleared_right t e =
      right_from _ _ _ _
      (λ x f l k. cleared_counts x f (omega (arith, cleared_size)) k ∙ sym (count_none (lies (node_at (with_items w ns).items) (samples_of t) x f) 256 (λ s _. none_lies _ t e x f s)))
