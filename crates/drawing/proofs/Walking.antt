-- A walk over the slots that hold samples, told of the slots that it was made over. Assumes nothing.
use Rattle.std.proofs.Common.{◌≡◌, ℕ, Option, ap, ◌∙◌, subst}
use Rattle.samples.specs.Slots.{Point, NextHeld, table}
use Rattle.samples.specs.declared.slots.Slots.{Slots}
use Rattle.samples.specs.declared.slots.held.Held.{Held}

-- the walk that a loop makes begins at the first slot
pub walk_begins : (w it : Held) (xs : Slots) → w ≡ it → it.from ≡ 0 → it.slots.now ≡ xs → (w.from ≡ 0) × (w.slots.now ≡ xs)
walk_begins w it xs same from slots = (ap (λ v. v.from) same ∙ from, ap (λ v. v.slots.now) same ∙ slots)

-- what a step finds, it finds in those slots
pub step_finds : (xs ys : Slots) (s : ℕ) (o : Option (ℕ × Point)) (n : ℕ) → ys ≡ xs → NextHeld (table ys) s o n → NextHeld (table xs) s o n
step_finds xs ys s o n e h = subst (λ (zs : Slots). NextHeld (table zs) s o n) e h
