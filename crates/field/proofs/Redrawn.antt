-- What a field's type says holds of a tree that was just drawn; and an empty field's tree is one leaf. Assumes nothing.
use Rattle.std.proofs.Common.{◌≡◌, ℕ, ◌≤◌, zero, suc, true, false, ◌&&◌, eqb, List, replicate, None, refl, ap, ◌∙◌, arith}
use Rattle.ranking.proofs.Counted.{count_none}
use Rattle.samples.specs.Slots.{Table, table, held}
use Rattle.samples.specs.declared.slots.Slots.{Slots}
use Rattle.trees.specs.Boxes.{everything}
use Rattle.trees.specs.Drawing.{stop, size, lodged, rebuilt, of_fibre, Numbered, Tallied}
use Rattle.trees.specs.Lawful.{lawful, right}
use Rattle.trees.proofs.Drawn.{draw_few, rebuilt_size}
use Rattle.trees.proofs.Rebuilt.{rebuilt_lawful, rebuilt_right}
use Rattle.boxes.specs.Views.{node_at, counts_at}
use Rattle.boxes.specs.declared.node.Node.{Node}
use Rattle.drawing.specs.Held.{samples_of, held_in}
use Rattle.drawing.proofs.Sound.{valid_samples}

module _ (xs : Slots) (ns : List Node) (m : ℕ) (e : m ≡ size (rebuilt (held_in xs))) (n : Numbered (node_at ns) (rebuilt (held_in xs)) everything 0) (t : Tallied (held_in xs) (counts_at ns) (rebuilt (held_in xs)) everything 0) where
  pub drawn_few : m ≤ 1021
  drawn_few = omega (arith, e, rebuilt_size (held_in xs) (omega arith))

  pub drawn_lawful : lawful m (node_at ns) ≡ true
  drawn_lawful = ap (λ k. lawful k (node_at ns)) e ∙ rebuilt_lawful (held_in xs) (node_at ns) n

  pub drawn_right : right m (node_at ns) (counts_at ns) (samples_of (table xs)) ≡ true
  drawn_right =
      ap (λ k. right k (node_at ns) (counts_at ns) (samples_of (table xs))) e
      ∙ rebuilt_right (held_in xs) (node_at ns) n (valid_samples xs) (counts_at ns) t

pub none_held : (n s : ℕ) → held (replicate n None) s ≡ false
none_held zero s = refl
none_held (suc n) zero = refl
none_held (suc n) (suc s) = none_held n s

module _ (t : Table) (e : t ≡ replicate 256 None) where
  none_lodged : (s : ℕ) → lodged (samples_of t) everything s ≡ false
  unfolding lodged
  none_lodged s = let h : held t s ≡ false = ap (λ u. held u s) e ∙ none_held 256 s in grind arith

  pub empty_plan : rebuilt (samples_of t) ≡ stop
  empty_plan =
      let none = count_none (lodged (samples_of t) everything) 256 (λ s _. none_lodged s) in
      draw_few (samples_of t) 79 everything (omega arith)

  pub empty_of_fibre : (f : ℕ) → of_fibre (samples_of t) everything f ≡ 0
  unfolding of_fibre
  empty_of_fibre f = count_none (λ s. lodged (samples_of t) everything s && eqb ((samples_of t).fibre s) f) 256 (λ s _. let h = none_lodged s in grind arith)
