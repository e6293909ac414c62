-- How many slots pass a test. Assumes nothing.
--   bit b      1 for a test that passes, 0 for one that fails
--   count p n  how many of the slots below n pass p
use Rattle.std.specs.Prelude.{ℕ, zero, suc, ◌+◌, Bool, true, false}

abbrev pub bit : Bool → ℕ
bit true = 1
bit false = 0

unfoldable pub count : (ℕ → Bool) → ℕ → ℕ
count p zero = 0
count p (suc n) = bit (p n) + count p n
