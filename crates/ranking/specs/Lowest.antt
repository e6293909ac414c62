-- The lowest number that passes a test. Assumes nothing.
--   lowest p n   the lowest of the numbers below n that pass p
use Rattle.std.specs.Prelude.{ℕ, zero, suc, Bool, cond, Some, None, Option}
use Rattle.std.specs.Option.{option_or}

unfoldable pub lowest : (ℕ → Bool) → ℕ → Option ℕ
lowest p zero = None
lowest p (suc n) = option_or (lowest p n) (cond (p n) (Some n) None)
