-- The tree over all the samples is the plan of the box of all values. Assumes nothing.
use Rattle.std.proofs.Common.{◌≡◌, ℕ, ◌≤◌, List, [], length, sym, ap, subst, arith}
use Rattle.boxes.specs.Views.{node_at, counts_at}
use Rattle.boxes.specs.declared.node.Node.{Node}
use Rattle.trees.specs.Boxes.{Box, everything}
use Rattle.trees.specs.Drawing.{Plan, size, plan, rebuilt, Numbered, Tallied}
use Rattle.trees.specs.Samples.{Samples}
use Rattle.trees.proofs.Drawn.{rebuilt_size}
use Rattle.drawing.specs.Builds.{Built}
use Rattle.drawing.specs.Runs.{Run}

module _ (a : Samples) (k : Box) (e : k ≡ everything) where
  pub plan_whole : plan a k ≡ rebuilt a
  unfolding plan
  plan_whole = ap (plan a) e

  pub run_whole : (xs ys : List ℕ) → ys ≡ xs → Run a everything xs → Run a k ys
  run_whole xs ys s r = subst (λ (j : Box). Run a j ys) (sym e) (subst (Run a everything) (sym s) r)

  -- behind no nodes
  module _ (old new : List Node) (none : old ≡ []) (b : Built a (plan a k) k old new) where
    whole : Built a (rebuilt a) everything [] new
    whole =
        subst (λ (p : Plan). Built a p everything [] new) plan_whole
        (subst (λ (j : Box). Built a (plan a k) j [] new) e (subst (λ (l : List Node). Built a (plan a k) k l new) none b))

    pub whole_size : length new ≡ size (rebuilt a)
    whole_size = let l = whole.long in omega arith

    pub whole_bound : a.slots ≤ 256 → length new ≤ 1021
    whole_bound h = omega (arith, whole_size, rebuilt_size a h)

    pub whole_numbered : Numbered (node_at new) (rebuilt a) everything 0
    whole_numbered = whole.numbered

    pub whole_tallied : Tallied a (counts_at new) (rebuilt a) everything 0
    whole_tallied = whole.tallied
