-- What a heap holds, and what a push and a pop do to it. Assumes nothing.
--   content h           the items that a heap holds, in the order of its places
--   room h              how many items it can hold
--   Pushed xs n x ys r  x was put beside the items xs, or refused since all n places are taken
--   Popped xs ys r      an item was taken from the items xs, or there was none
--   First lt xs r       no item of xs comes before the one that was taken
use Rattle.std.specs.Prelude.{◌≡◌, ℕ, ◌<◌, ◌≤◌, Bool, false, List, [], ◌∷◌, ◌++◌, length, take, Some, None, Ok, Err, Option, Result, slice_index_or}
use Rattle.std.specs.List.Sorted.{IsPermutation}
use Rattle.heap.specs.declared.Heap.{Heap}

abbrev pub content : {X : Type 0} → Heap X → List X
content h = take h.len h.items.now

abbrev pub room : {X : Type 0} → Heap X → ℕ
room h = length h.items.now

abbrev pub Pushed : {X U : Type 0} → List X → ℕ → X → List X → Result U X → Type 0
Pushed xs n x ys (Ok _) = (length xs < n) × IsPermutation (xs ++ x ∷ []) ys
Pushed xs n x ys (Err y) = (n ≤ length xs) × (y ≡ x) × (ys ≡ xs)

abbrev pub Popped : {X : Type 0} → List X → List X → Option X → Type 0
Popped xs ys None = (xs ≡ []) × (ys ≡ [])
Popped xs ys (Some x) = IsPermutation xs (ys ++ x ∷ [])

abbrev pub First : {X : Type 0} → (X → X → Bool) → List X → Option X → Type 0
First lt xs None = Unit {0}
First {X} lt xs (Some x) = (d : X) (k : ℕ) → k < length xs → lt (slice_index_or xs k d) x ≡ false
