-- The tree of the examples is the one that is drawn over either five samples, and bounds their weights. Assumes nothing.
use Rattle.std.proofs.Common.{◌≡◌, ℕ, zero, suc, ◌<◌, ◌≤◌, Bool, true, not, ◌&&◌, ◌||◌, nat_lt, List, refl, arith}
use Rattle.std.proofs.lemmas.Bool.Decides.{nat_tests}
use Rattle.boxes.specs.Views.{entries}
use Rattle.drawing.specs.Held.{samples_of}
use Rattle.measure.specs.Weight.{held_sum}
use Rattle.ranking.specs.Counts.{count}
use Rattle.samples.specs.Examples.{five}
use Rattle.samples.specs.Slots.{Table, held, fibre_at, values_at}
use Rattle.trees.specs.Boxes.{everything, halved, side, spans, covers, lower, upper}
use Rattle.trees.specs.Drawing.{rebuilt, Numbered, lodged, both, deepest, core, few, draw}
use Rattle.trees.specs.Trees.{Rules}
use Rattle.trees.proofs.Rebuilt.{rebuilt_rules}
use Rattle.bounding.specs.Fields.{belongs}
use Rattle.bounding.proofs.Seen.{fair_scene}
use Rattle.walks.specs.Scenes.{Fair}
use Rattle.examples.specs.Walks.{blend, halves, only, seen}
use Rattle.examples.proofs.Agreed.{Told, slot_told}
use Rattle.examples.proofs.Five.{each_slot}

pub blend_drawn : Numbered halves (rebuilt (samples_of blend)) everything 0
unfolding count halved side spans covers lower upper lodged both deepest core few draw
blend_drawn = ((refl, (refl, λ b l. refl), refl, refl), (refl, (refl, λ b l. refl), refl, refl), (refl, (refl, λ b l. refl), refl, refl))

pub five_drawn : Numbered halves (rebuilt (samples_of five)) everything 0
unfolding count halved side spans covers lower upper lodged both deepest core few draw
five_drawn = ((refl, (refl, λ b l. refl), refl, refl), (refl, (refl, λ b l. refl), refl, refl), (refl, (refl, λ b l. refl), refl, refl))

rules : Rules 3 halves
unfolding count halved side spans covers lower upper lodged both deepest core few draw
rules = rebuilt_rules (samples_of five) halves five_drawn

only_below : (x : ℕ) → x < 1024 → (b : ℕ) → entries (only x) b < 1024
only_below x l zero = l
only_below x l (suc zero) = omega arith
only_below x l (suc (suc zero)) = omega arith
only_below x l (suc (suc (suc zero))) = omega arith
only_below x l (suc (suc (suc (suc zero)))) = omega arith
only_below x l (suc (suc (suc (suc (suc zero))))) = omega arith
only_below x l (suc (suc (suc (suc (suc (suc zero)))))) = omega arith
only_below x l (suc (suc (suc (suc (suc (suc (suc zero))))))) = omega arith
only_below x l (suc (suc (suc (suc (suc (suc (suc (suc b)))))))) = omega arith

-- bounds are right where each of the five slots holds a sample in range
seen_fair : (t : Table) → Told t → ((s : ℕ) → nat_lt s 5 ≡ true → (fibre_at t s < 8) × ((b : ℕ) → b < 8 → entries (values_at t s) b < 1024)) → Fair (seen t) (belongs halves t)
seen_fair t e valid =
    fair_scene (λ b g. g) held_sum (λ b g h l. l) (λ u v s x a b. omega arith) t 3 halves (only 11) rules (λ s l h. valid s (slot_told t e s l h))

pub blend_fair : Fair (seen blend) (belongs halves blend)
blend_fair =
    seen_fair blend refl
    (each_slot _ (omega arith, λ b l. only_below 10 (omega arith) b) (omega arith, λ b l. only_below 12 (omega arith) b) (omega arith, λ b l. only_below 610 (omega arith) b) (omega arith, λ b l. only_below 600 (omega arith) b) (omega arith, λ b l. only_below 14 (omega arith) b))

pub five_fair : Fair (seen five) (belongs halves five)
five_fair =
    seen_fair five refl
    (each_slot _ (omega arith, λ b l. only_below 10 (omega arith) b) (omega arith, λ b l. only_below 12 (omega arith) b) (omega arith, λ b l. only_below 600 (omega arith) b) (omega arith, λ b l. only_below 610 (omega arith) b) (omega arith, λ b l. only_below 14 (omega arith) b))
