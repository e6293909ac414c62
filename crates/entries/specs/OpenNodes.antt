-- The nodes of a table that can be opened, and which is first. Assumes nothing.
--   open_node z e      the node of the entry e, if it is active in the span z
--   stands_for o x     an entry of o is one of node x
--   by_depth           the order of such nodes, by depth and then by number
--   sooner x y         the node x comes before y
--   Opens c k p es r   r is where the entry stands of the node that is opened next, with its number, or no node is active
use Rattle.std.specs.Prelude.{◌≡◌, ℕ, ◌<◌, Bool, true, false, cond, ◌&&◌, ◌||◌, ◌==◌, List, length, Option, Some, None, nat_lt, slice_index_or, ◌≢◌, refl}
use Rattle.std.specs.Ordering.{is_lt, nat_cmp, on, ordering_then, then_cmp}
use Rattle.std.specs.declared.cmp.Ordering.{Ordering}
use Rattle.std.specs.declared.cmp.Ordering.TheVariants.{Less, Equal, Greater}
use Rattle.std.proofs.Common.{rules}
use Rattle.heap.specs.Order.{One, ahead}
use Rattle.ranking.specs.Ranks.{lower}
use Rattle.walks.specs.Scenes.{Scene}
use Rattle.walks.specs.Views.{is_counted}
use Rattle.walks.specs.Walk.{Place, view, opens}
use Rattle.entries.specs.Sums.{passes}
use Rattle.entries.specs.declared.entry.Entry.{Entry}
use Rattle.entries.specs.declared.entry.Of.{Of}
use Rattle.entries.specs.declared.entry.Of.TheVariants.{Node, Sample}
use Rattle.entries.specs.declared.open.OpenNode.{OpenNode}
use Rattle.entries.specs.declared.part.Part.TheVariants.{Active}
use Rattle.entries.specs.declared.span.Span.{Span}

abbrev pub node_in : Of → Bool → Option OpenNode
node_in (Node x t) true = Some (record { depth = t; number = x })
node_in (Node x t) false = None
node_in (Sample s) b = None

abbrev pub open_node : Span → Entry → Option OpenNode
open_node z e = node_in e.of (passes (Active z) e)

abbrev pub stands_for : Of → ℕ → Bool
stands_for (Node x t) y = x == y
stands_for (Sample s) y = false

abbrev pub by_depth : OpenNode → OpenNode → Ordering
by_depth = then_cmp (on (λ x. x.depth) nat_cmp) (on (λ x. x.number) nat_cmp)

abbrev pub sooner : OpenNode → OpenNode → Bool
sooner x y = lower x.depth x.number y.depth y.number

first_or_then : (a b c d : Bool) → is_lt (ordering_then (cond a Less (cond b Equal Greater)) (cond c Less (cond d Equal Greater))) ≡ (a || (b && c))
first_or_then true b c d = refl
first_or_then false false c d = refl
first_or_then false true true d = refl
first_or_then false true false true = refl
first_or_then false true false false = refl

-- ahead in that order is the lower depth, and of equal depths the lower number
pub ahead_is_sooner : (x y : OpenNode) → ahead by_depth x y ≡ sooner x y
ahead_is_sooner x y = first_or_then (nat_lt x.depth y.depth) (x.depth == y.depth) (nat_lt x.number y.number) (x.number == y.number)

-- of two nodes with another depth or number exactly one comes first, of two with the same neither, and coming first
-- carries over
pub one : (x y : OpenNode) → ◌≢◌ {A = ℕ × ℕ} (x.depth, x.number) (y.depth, y.number) → One (sooner x y) (sooner y x)
one x y = search rules

pub neither : (x y : OpenNode) → ◌≡◌ {A = ℕ × ℕ} (x.depth, x.number) (y.depth, y.number) → sooner x y ≡ false
neither x y = search rules

pub carries : (x y z : OpenNode) → sooner x y ≡ true → sooner y z ≡ true → sooner x z ≡ true
carries x y z = search rules

abbrev pub Opens : Scene → ℕ → (ℕ → Place) → List Entry → Option (ℕ × ℕ) → Type 0
Opens c k p es None = is_counted (view c p) k ≡ true
Opens c k p es (Some (i, x)) = (i < length es) × ((d : Entry) → stands_for (slice_index_or es i d).of x ≡ true) × (opens c k p x ≡ true)
