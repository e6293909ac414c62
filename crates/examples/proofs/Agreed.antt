-- The five samples of an example, seen in their tree, are the scene of plain numbers. Assumes nothing.
use Rattle.std.proofs.Common.{◌≡◌, ℕ, ◌<◌, Bool, true, false, not, ◌&&◌, ◌||◌, List, [], ◌∷◌, nat_lt, slice_index, refl, arith}
use Rattle.measure.specs.Weight.{join_to}
use Rattle.samples.specs.Slots.{Table, held}
use Rattle.samples.specs.Examples.{five}
use Rattle.trees.specs.Boxes.{every, halved, side, spans, covers, lower, upper}
use Rattle.trees.specs.Trees.{choice}
use Rattle.trees.proofs.Boxed.{every_at}
use Rattle.bounding.specs.Distances.{gap_to, reach_to}
use Rattle.walks.specs.Scenes.{Scene}
use Rattle.walks.proofs.Agreeing.{Agree}
use Rattle.examples.specs.Walks.{blend, seen}
use Rattle.examples.proofs.Five.{plain_scene, each_slot, each_node}

-- the first five slots hold samples, and no other
abbrev told : Table → ℕ → Bool
told t s = (not (held t s) || nat_lt s 5) && (not (nat_lt s 5) || held t s)

abbrev pub blend_plain : Scene
blend_plain = plain_scene (1 ∷ 2 ∷ 1 ∷ 2 ∷ 3 ∷ []) (1 ∷ 1 ∷ 599 ∷ 589 ∷ 3 ∷ [])

abbrev pub five_plain : Scene
five_plain = plain_scene (1 ∷ 1 ∷ 2 ∷ 2 ∷ 3 ∷ []) (1 ∷ 1 ∷ 589 ∷ 599 ∷ 3 ∷ [])

abbrev pub Told : Table → Type 0
Told t = every (told t) 256 ≡ true

told_says : (t : Table) → Told t → (s : ℕ) → s < 256 → held t s ≡ nat_lt s 5
told_says t e s l = let h = every_at (told t) 256 s e l in grind arith

pub slot_told : (t : Table) → Told t → (s : ℕ) → s < 256 → held t s ≡ true → nat_lt s 5 ≡ true
slot_told t e s l h = let f = told_says t e s l in cc

module _ (t : Table) (fs ws : List ℕ) (e : Told t) where
  -- bounds are those of the nodes alone
  agrees : ((s : ℕ) → nat_lt s 5 ≡ true → ((seen t).fibre s ≡ slice_index fs s) × ((seen t).weight s ≡ slice_index ws s)) →
      ((s : ℕ) → nat_lt s 5 ≡ true → (x : ℕ) → x < 3 → (seen t).child x s ≡ (plain_scene fs ws).child x s) → Agree (seen t) (plain_scene fs ws)
  unfolding join_to gap_to reach_to halved side lower upper
  agrees by_slot by_node = record {
    slots = refl;
    nodes = refl;
    held = told_says t e;
    fibre = λ s l h. (by_slot s (slot_told t e s l h)).0;
    weight = λ s l h. (by_slot s (slot_told t e s l h)).1;
    leaf = each_node _ refl refl refl;
    depth = each_node _ refl refl refl;
    near = each_node _ refl refl refl;
    far = each_node _ refl refl refl;
    child = λ x s m l h. by_node s (slot_told t e s l h) x m;
  }

pub blend_agrees : Agree (seen blend) blend_plain
unfolding join_to gap_to reach_to halved side lower upper spans covers choice
blend_agrees =
    agrees blend (1 ∷ 2 ∷ 1 ∷ 2 ∷ 3 ∷ []) (1 ∷ 1 ∷ 599 ∷ 589 ∷ 3 ∷ []) refl
    (each_slot _ (refl, refl) (refl, refl) (refl, refl) (refl, refl) (refl, refl))
    (each_slot (λ s. (x : ℕ) → x < 3 → (seen blend).child x s ≡ blend_plain.child x s) (each_node _ refl refl refl) (each_node _ refl refl refl) (each_node _ refl refl refl) (each_node _ refl refl refl) (each_node _ refl refl refl))

pub five_agrees : Agree (seen five) five_plain
unfolding join_to gap_to reach_to halved side lower upper spans covers choice
five_agrees =
    agrees five (1 ∷ 1 ∷ 2 ∷ 2 ∷ 3 ∷ []) (1 ∷ 1 ∷ 589 ∷ 599 ∷ 3 ∷ []) refl
    (each_slot _ (refl, refl) (refl, refl) (refl, refl) (refl, refl) (refl, refl))
    (each_slot (λ s. (x : ℕ) → x < 3 → (seen five).child x s ≡ five_plain.child x s) (each_node _ refl refl refl) (each_node _ refl refl refl) (each_node _ refl refl refl) (each_node _ refl refl refl) (each_node _ refl refl refl))
