-- The span of a view. Assumes nothing.
use Rattle.std.specs.Prelude.{◌≡◌, ℕ}
use Rattle.walks.specs.Views.{View, low, high}
use Rattle.entries.specs.declared.span.Span.{Span}

-- the span z has the low and the high of the view v for the k nearest
abbrev pub Spans : View → ℕ → Span → Type 0
Spans v k z = (z.low ≡ low v k) × (z.high ≡ high v k)
