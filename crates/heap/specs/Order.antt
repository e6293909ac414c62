-- The order of a heap's places: no item comes before the one above it. Assumes nothing.
--   ahead R x y    x comes before y in the order R
--   One s t        exactly one of two tests passes
--   above k        the place above place k
--   Kept lt xs n   of the first n items of a list, none comes before the one above it
--   Heaped lt xs   the same of all its items
use Rattle.std.specs.Prelude.{◌≡◌, ℕ, ◌-◌, ◌/◌, ◌<◌, Bool, true, false, List, length, ◌≢◌, slice_index_or}
use Rattle.std.specs.Ordering.{is_lt}
use Rattle.std.specs.declared.cmp.Ordering.{Ordering}

abbrev pub ahead : {X : Type 0} → (X → X → Ordering) → X → X → Bool
ahead R x y = is_lt (R x y)

abbrev pub One : Bool → Bool → Type 0
One true t = t ≡ false
One false t = t ≡ true

abbrev pub above : ℕ → ℕ
above k = (k - 1) / 2

abbrev pub Kept : {X : Type 0} → (X → X → Bool) → List X → ℕ → Type 0
Kept {X} lt xs n = (d : X) (k : ℕ) → 0 < k → k < n → lt (slice_index_or xs k d) (slice_index_or xs (above k) d) ≡ false

abbrev pub Heaped : {X : Type 0} → (X → X → Bool) → List X → Type 0
Heaped lt xs = Kept lt xs (length xs)

-- the same, but for the items right below the first
abbrev pub KeptBelow : {X : Type 0} → (X → X → Bool) → List X → Type 0
KeptBelow {X} lt xs =
    (d : X) (k : ℕ) → 0 < k → k < length xs → (above k ≢ 0) → lt (slice_index_or xs k d) (slice_index_or xs (above k) d) ≡ false
