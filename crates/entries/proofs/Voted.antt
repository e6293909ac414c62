-- The votes inside and active of a table are those of its view. Assumes nothing.
use Rattle.std.proofs.Common.{◌≡◌, ℕ, ◌<◌, Bool, ◌&&◌, eqb, nat_lt, nat_le, List, ap, ◌∙◌}
use Rattle.ranking.specs.Counts.{count}
use Rattle.ranking.specs.Majority.{tally}
use Rattle.ranking.proofs.Counted.{count_ext}
use Rattle.walks.specs.Scenes.{Scene}
use Rattle.walks.specs.Views.{low, inside, active}
use Rattle.walks.specs.Walk.{Place, view}
use Rattle.entries.specs.Shows.{Shows}
use Rattle.entries.specs.Spans.{Spans}
use Rattle.entries.specs.Sums.{passes, size, votes}
use Rattle.entries.specs.declared.entry.Entry.{Entry}
use Rattle.entries.specs.declared.part.Part.TheVariants.{Inside, Active}
use Rattle.entries.specs.declared.span.Span.{Span}
use Rattle.entries.proofs.Shown.{size_is, votes_are, by_bounds}

-- the tests of an entry's bounds, near and far, in a span
abbrev pub is_below : Span → ℕ → ℕ → Bool
is_below z n f = nat_lt f z.low

abbrev pub is_between : Span → ℕ → ℕ → Bool
is_between z n f = nat_le z.low f && nat_le n z.high

module _ (c : Scene) (p : ℕ → Place) where
  abbrev pub test_at : (ℕ → ℕ → Bool) → ℕ → Bool
  test_at t s = t ((view c p).near s) ((view c p).far s)

  module _ (k : ℕ) (z : Span) (spans : Spans (view c p) k z) where
    pub inside_at : (s : ℕ) → ((view c p).entered s && test_at (is_below z) s) ≡ inside (view c p) k s
    inside_at s = ap (λ n. (view c p).entered s && nat_lt ((view c p).far s) n) spans.0

    pub active_at : (s : ℕ) → ((view c p).entered s && test_at (is_between z) s) ≡ active (view c p) k s
    active_at s =
        ap (λ n. (view c p).entered s && (nat_le n ((view c p).far s) && nat_le ((view c p).near s) z.high)) spans.0
        ∙ ap (λ n. (view c p).entered s && (nat_le (low (view c p) k) ((view c p).far s) && nat_le ((view c p).near s) n)) spans.1

    module _ (es : List Entry) (shows : Shows c p es) where
      pub inside_size : size (passes (Inside z)) es ≡ count (inside (view c p) k) c.slots
      inside_size =
          size_is c p es shows (passes (Inside z)) (test_at (is_below z)) (λ s l. by_bounds c p es shows (is_below z) s) ∙ count_ext (λ s. (view c p).entered s && test_at (is_below z) s) (inside (view c p) k) c.slots (λ s l. inside_at s)

      pub active_size : size (passes (Active z)) es ≡ count (active (view c p) k) c.slots
      active_size =
          size_is c p es shows (passes (Active z)) (test_at (is_between z)) (λ s l. by_bounds c p es shows (is_between z) s)
          ∙ count_ext (λ s. (view c p).entered s && test_at (is_between z) s) (active (view c p) k) c.slots (λ s l. active_at s)

      pub inside_votes : (f : ℕ) → f < 8 → votes (passes (Inside z)) f es ≡ tally (inside (view c p) k) c.fibre c.slots f
      inside_votes f l =
          votes_are c p es shows (passes (Inside z)) (test_at (is_below z)) (λ s m. by_bounds c p es shows (is_below z) s) f l
          ∙ count_ext (λ s. ((view c p).entered s && test_at (is_below z) s) && eqb (c.fibre s) f) (λ s. inside (view c p) k s && eqb (c.fibre s) f) c.slots (λ s m. ap (λ b. b && eqb (c.fibre s) f) (inside_at s))

      pub active_votes : (f : ℕ) → f < 8 → votes (passes (Active z)) f es ≡ tally (active (view c p) k) c.fibre c.slots f
      active_votes f l =
          votes_are c p es shows (passes (Active z)) (test_at (is_between z)) (λ s m. by_bounds c p es shows (is_between z) s) f l
          ∙ count_ext (λ s. ((view c p).entered s && test_at (is_between z) s) && eqb (c.fibre s) f) (λ s. active (view c p) k s && eqb (c.fibre s) f) c.slots (λ s m. ap (λ b. b && eqb (c.fibre s) f) (active_at s))
