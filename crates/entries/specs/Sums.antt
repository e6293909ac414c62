-- Sums over the entries of a table that pass a test. Assumes nothing.
--   bound x e          the near or the far of an entry
--   passes x e         the entry is in a part of the table
--   size q es          how many samples stand in the entries that pass q
--   votes q f es       how many of these have fibre f
--   KthSmallest v es k r  fewer than k samples have v below r, and at least k have it up to r
use Rattle.std.specs.Prelude.{ℕ, ◌<◌, ◌≤◌, Bool, ◌&&◌, ◌||◌, List, filter, nat_le, nat_lt, slice_index, sum_by}
use Rattle.entries.specs.Singles.{candidate_in, reaches}
use Rattle.entries.specs.declared.entry.Entry.{Entry}
use Rattle.entries.specs.declared.part.Part.{Part}
use Rattle.entries.specs.declared.part.Part.TheVariants.{UpTo, Inside, Active, Listed}
use Rattle.entries.specs.declared.part.Side.{Side}
use Rattle.entries.specs.declared.part.Side.TheVariants.{Near, Far}

abbrev pub bound : Side → Entry → ℕ
bound Near e = e.near
bound Far e = e.far

abbrev pub passes : Part → Entry → Bool
passes (UpTo x v) e = nat_le (bound x e) v
passes (Inside z) e = nat_lt e.far z.low
passes (Active z) e = nat_le z.low e.far && nat_le e.near z.high
passes (Listed z r) e = nat_lt e.far z.low || reaches r (candidate_in z e)

abbrev pub size : (Entry → Bool) → List Entry → ℕ
size q es = sum_by (λ e. e.count) (filter q es)

abbrev pub votes : (Entry → Bool) → ℕ → List Entry → ℕ
votes q f es = sum_by (λ e. slice_index e.fibres f) (filter q es)

abbrev pub KthSmallest : (Entry → ℕ) → List Entry → ℕ → ℕ → Type 0
KthSmallest v es k r = (size (λ e. nat_lt (v e) r) es < k) × (k ≤ size (λ e. nat_le (v e) r) es)
