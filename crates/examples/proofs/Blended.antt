-- Where the samples of the examples stand after each step. Assumes nothing.
use Rattle.std.proofs.Common.{◌≡◌, ℕ, ◌+◌, ◌<◌, ◌≤◌, Bool, true, nat_lt, refl, sym, subst, add-one, arith}
use Rattle.ranking.specs.Counts.{count}
use Rattle.ranking.specs.Ranks.{nearer}
use Rattle.samples.specs.Examples.{five}
use Rattle.samples.specs.Slots.{Table, held}
use Rattle.bounding.specs.Fields.{belongs}
use Rattle.walks.specs.Scenes.{Scene}
use Rattle.walks.specs.Views.{kth, pick}
use Rattle.walks.specs.Walk.{Place, within, alone, dropped, dropping, is_active, opens, opening, walk}
use Rattle.examples.specs.Walks.{blend, halves, seen}
use Rattle.examples.proofs.Agreed.{Told, slot_told, blend_plain, five_plain, blend_agrees, five_agrees}
use Rattle.examples.proofs.Drawn.{blend_fair, five_fair}
use Rattle.examples.proofs.Five.{by_slot, each_slot}
use Rattle.examples.proofs.Reached.{Stand, begins, steps}

-- all in node 0, then in its halves, then the lower half's samples each by itself
abbrev pub together : ℕ → Place
together = by_slot (within 0) (within 0) (within 0) (within 0) (within 0)

abbrev pub apart : ℕ → Place
apart = by_slot (within 1) (within 1) (within 2) (within 2) (within 1)

abbrev pub lower_alone : Place → Place → ℕ → Place
lower_alone c d = by_slot alone alone c d alone

on_five : (t : Table) → Told t → (p q : ℕ → Place) → p 0 ≡ q 0 → p 1 ≡ q 1 → p 2 ≡ q 2 → p 3 ≡ q 3 → p 4 ≡ q 4 → (s : ℕ) → s < 256 → held t s ≡ true → p s ≡ q s
on_five t e p q a b c d f s l h = each_slot (λ s. p s ≡ q s) a b c d f s (slot_told t e s l h)

pub blend_many : 4 ≤ count (seen blend).held 256
unfolding count
blend_many = omega arith

pub five_many : 3 ≤ count (seen five).held 256
unfolding count
five_many = omega arith

abbrev pub BlendAt : ℕ → (ℕ → Place) → Type 0
BlendAt i q = (s : ℕ) → s < 256 → held blend s ≡ true → walk (seen blend) 4 i s ≡ q s

abbrev pub FiveAt : ℕ → (ℕ → Place) → Type 0
FiveAt i q = (s : ℕ) → s < 256 → held five s ≡ true → walk (seen five) 3 i s ≡ q s

blend_steps : (i : ℕ) (q o r : ℕ → Place) → BlendAt i q → ((s : ℕ) → s < 256 → held blend s ≡ true → opening blend_plain 4 q s ≡ o s) → ((s : ℕ) → s < 256 → held blend s ≡ true → dropping blend_plain 4 o s ≡ r s) → BlendAt (i + 1) r
blend_steps i q o r at opens drops =
    subst (λ n. BlendAt n r) (sym (add-one i)) (steps (seen blend) blend_plain blend_agrees (belongs halves blend) 4 blend_fair (omega arith) blend_many i q o r at opens drops)

five_steps : (i : ℕ) (q o r : ℕ → Place) → FiveAt i q → ((s : ℕ) → s < 256 → held five s ≡ true → opening five_plain 3 q s ≡ o s) → ((s : ℕ) → s < 256 → held five s ≡ true → dropping five_plain 3 o s ≡ r s) → FiveAt (i + 1) r
five_steps i q o r at opens drops =
    subst (λ n. FiveAt n r) (sym (add-one i)) (steps (seen five) five_plain five_agrees (belongs halves five) 3 five_fair (omega arith) five_many i q o r at opens drops)

pub blend_0 : BlendAt 0 together
unfolding dropping kth pick count nearer
blend_0 =
    begins (seen blend) blend_plain blend_agrees (belongs halves blend) 4 blend_fair (omega arith) blend_many together
    (on_five blend refl (dropping blend_plain 4 (λ s. within 0)) together refl refl refl refl refl)

pub blend_1 : BlendAt 1 apart
unfolding dropping kth pick count nearer opening opens is_active
blend_1 =
    blend_steps 0 together apart apart blend_0 (on_five blend refl (opening blend_plain 4 together) apart refl refl refl refl refl)
    (on_five blend refl (dropping blend_plain 4 apart) apart refl refl refl refl refl)

pub blend_2 : BlendAt 2 (lower_alone (within 2) (within 2))
unfolding dropping kth pick count nearer opening opens is_active
blend_2 =
    let o = lower_alone (within 2) (within 2) in
    blend_steps 1 apart o o blend_1 (on_five blend refl (opening blend_plain 4 apart) o refl refl refl refl refl)
    (on_five blend refl (dropping blend_plain 4 o) o refl refl refl refl refl)

-- the sample of 610 is above high then
pub blend_3 : BlendAt 3 (lower_alone dropped alone)
unfolding dropping kth pick count nearer opening opens is_active
blend_3 =
    let q = lower_alone (within 2) (within 2) in
    let o = lower_alone alone alone in
    let r = lower_alone dropped alone in
    blend_steps 2 q o r blend_2 (on_five blend refl (opening blend_plain 4 q) o refl refl refl refl refl)
    (on_five blend refl (dropping blend_plain 4 o) r refl refl refl refl refl)

pub five_0 : FiveAt 0 together
unfolding dropping kth pick count nearer
five_0 =
    begins (seen five) five_plain five_agrees (belongs halves five) 3 five_fair (omega arith) five_many together
    (on_five five refl (dropping five_plain 3 (λ s. within 0)) together refl refl refl refl refl)

pub five_1 : FiveAt 1 apart
unfolding dropping kth pick count nearer opening opens is_active
five_1 =
    five_steps 0 together apart apart five_0 (on_five five refl (opening five_plain 3 together) apart refl refl refl refl refl)
    (on_five five refl (dropping five_plain 3 apart) apart refl refl refl refl refl)

pub five_2 : FiveAt 2 (lower_alone dropped dropped)
unfolding dropping kth pick count nearer opening opens is_active
five_2 =
    let o = lower_alone (within 2) (within 2) in
    let r = lower_alone dropped dropped in
    five_steps 1 apart o r five_1 (on_five five refl (opening five_plain 3 apart) o refl refl refl refl refl)
    (on_five five refl (dropping five_plain 3 o) r refl refl refl refl refl)
