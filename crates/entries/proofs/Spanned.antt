-- The k-th smallest bound of a table is that of its view. Assumes nothing.
use Rattle.std.proofs.Common.{◌≡◌, ℕ, ◌<◌, ◌≤◌, true, ◌&&◌, nat_lt, nat_le, List, refl, ap, ◌∙◌, arith}
use Rattle.std.specs.List.{All}
use Rattle.ranking.specs.Counts.{count}
use Rattle.ranking.proofs.Counted.{count_ext}
use Rattle.walks.specs.Scenes.{Scene}
use Rattle.walks.specs.Views.{kth}
use Rattle.walks.specs.Walk.{Place, view}
use Rattle.walks.proofs.Kths.{kth_least, kth_only}
use Rattle.entries.specs.Shows.{members, Shows}
use Rattle.entries.specs.Sums.{size, KthSmallest}
use Rattle.entries.specs.declared.entry.Entry.{Entry}
use Rattle.entries.proofs.Shown.{size_is}

module _ (c : Scene) (p : ℕ → Place) (es : List Entry) (shows : Shows c p es) where
  -- all samples that are entered
  pub size_all : size (λ _. true) es ≡ count (view c p).entered c.slots
  size_all =
      size_is c p es shows (λ _. true) (λ _. true) (λ s l k d m h. refl) ∙ count_ext (λ s. (view c p).entered s && true) (view c p).entered c.slots (λ s l. grind arith)

  pub kth_is : (v : Entry → ℕ) (vs : ℕ → ℕ) → ((s : ℕ) → s < c.slots → All (λ e. members c p e.of s ≡ true → v e ≡ vs s) es) → (k r : ℕ) → 0 < k → k ≤ count (view c p).entered c.slots → (0 < k → k ≤ size (λ _. true) es → KthSmallest v es k r) → r ≡ kth (view c p).entered vs c.slots k
  kth_is v vs agree k r o enough found =
      let f = found o (omega (arith, size_all)) in
      let below = size_is c p es shows (λ e. nat_lt (v e) r) (λ s. nat_lt (vs s) r) (λ s l i d m h. ap (λ n. nat_lt n r) (agree s l i d m h)) in
      let upto = size_is c p es shows (λ e. nat_le (v e) r) (λ s. nat_le (vs s) r) (λ s l i d m h. ap (λ n. nat_le n r) (agree s l i d m h)) in
      kth_only (view c p).entered vs c.slots k r _ (record { fewer = omega (arith, f.0); enough = omega (arith, f.1) }) (kth_least (view c p).entered vs c.slots k o enough)
