-- A tree that is numbered and counted as rebuild draws it keeps the rules, with right counts. Assumes nothing.
use Rattle.std.proofs.Common.{◌≡◌, ℕ, true, refl}
use Rattle.trees.specs.Boxes.{everything}
use Rattle.trees.specs.Drawing.{size, rebuilt, Numbered, Tallied}
use Rattle.trees.specs.Lawful.{lawful, right}
use Rattle.trees.specs.Samples.{Samples, Valid}
use Rattle.trees.specs.Trees.{Node, Rules}
use Rattle.trees.proofs.Drawn.{draw_fits, everything_grid}
use Rattle.trees.proofs.Lawfully.{lawful_from_rules, right_from}
use Rattle.trees.proofs.Numbering.{numbered_rules}
use Rattle.trees.proofs.Tallying.{draw_holds, tallied_right}

module _ (a : Samples) (node : ℕ → Node) (numbered : Numbered node (rebuilt a) everything 0) where
  pub rebuilt_rules : Rules (size (rebuilt a)) node
  rebuilt_rules = numbered_rules node (rebuilt a) numbered (draw_fits a 80 everything (everything_grid a))

  pub rebuilt_lawful : lawful (size (rebuilt a)) node ≡ true
  rebuilt_lawful = lawful_from_rules _ node rebuilt_rules

  pub rebuilt_right : Valid a → (counts : ℕ → ℕ → ℕ) → Tallied a counts (rebuilt a) everything 0 → right (size (rebuilt a)) node counts a ≡ true
  rebuilt_right ok counts t =
      right_from _ node counts a (tallied_right (size (rebuilt a)) node rebuilt_rules a counts (rebuilt a) refl ok numbered (draw_holds a 80 everything) t)
