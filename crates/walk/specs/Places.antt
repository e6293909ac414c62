-- Where samples stand while a node is replaced by its children or its samples. Assumes nothing.
--   leaving c x p       the samples of node x stand nowhere
--   entering c u y p    the samples at or below node y stand in it
--   singled c n x p     those of node x in slots below n stand alone, its others nowhere
--   Vacant c u y p      the samples at or below node y stand nowhere, and none stands in it
--   Placed c u p a      a has for each sample held a node at or above it: the one that it stands in, if it stands in one
use Rattle.std.specs.Prelude.{◌≡◌, ℕ, ◌<◌, Bool, true, false, cond, ◌&&◌, ◌==◌, List, nat_lt, slice_index}
use Rattle.boxes.specs.Views.{entries}
use Rattle.samples.specs.Slots.{Table, held, values_at}
use Rattle.trees.specs.Trees.{Node, parts, choice}
use Rattle.walks.specs.Scenes.{Scene}
use Rattle.walks.specs.Walk.{Place, within, alone, dropped, is_within, is_kept}

abbrev pub leaving : Scene → ℕ → (ℕ → Place) → ℕ → Place
leaving c x p s = cond (c.held s && is_within (p s) x) dropped (p s)

abbrev pub entering : Scene → (ℕ → ℕ → Bool) → ℕ → (ℕ → Place) → ℕ → Place
entering c u y p s = cond (c.held s && u y s) (within y) (p s)

abbrev pub singled : Scene → ℕ → ℕ → (ℕ → Place) → ℕ → Place
singled c n x p s = cond ((c.held s && is_within (p s) x) && nat_lt s n) alone (leaving c x p s)

-- of the samples held, those stand in node x whose slot has it
abbrev pub StandIn : Scene → ℕ → (ℕ → Place) → List ℕ → Type 0
StandIn c x p a = (s : ℕ) → s < c.slots → c.held s ≡ true → slice_index a s == x ≡ is_within (p s) x

-- the node of slot s, which was y, once node x is opened
abbrev pub moved_place : Table → (ℕ → Node) → ℕ → ℕ → ℕ → ℕ
moved_place t node x s y = cond (parts (node x).kind && (held t s && y == x)) (choice node x (entries (values_at t s))) y

module _ (c : Scene) (u : ℕ → ℕ → Bool) where
  pub record Vacant (y : ℕ) (p : ℕ → Place) : Type 0 where
    pub below : y < c.nodes
    pub free : (s : ℕ) → s < c.slots → c.held s ≡ true → u y s ≡ true → is_kept (p s) ≡ false
    pub fresh : (s : ℕ) → s < c.slots → c.held s ≡ true → is_within (p s) y ≡ false

  pub record Placed (p : ℕ → Place) (a : List ℕ) : Type 0 where
    pub on_way : (s : ℕ) → s < c.slots → c.held s ≡ true → u (slice_index a s) s ≡ true
    pub stands : (x s : ℕ) → s < c.slots → c.held s ≡ true → p s ≡ within x → slice_index a s ≡ x
