-- The root is the largest number whose square is at most n, the only one, and never falls. Assumes nothing.
-- (It stands here and not in proofs/ since the law of the damped measure cites it.)
use Rattle.std.specs.Prelude.{◌≡◌, ℕ, zero, suc, ◌+◌, ◌*◌, ◌<◌, ◌≤◌}
use Rattle.std.proofs.Common.{⊎_elim, mul-le-mul, arith}
use Rattle.std.proofs.lemmas.Bool.{cases_lt}
use Rattle.std.proofs.lemmas.Bool.Decides.{nat_tests}
use Rattle.measure.specs.Roots.{root, Largest}

-- the larger of two squares is of the larger number
below_square : (a b n : ℕ) → a * a ≤ n → n < (b + 1) * (b + 1) → a ≤ b
below_square a b n low high =
    ⊎_elim (λ (h : b < a). let sq : (b + 1) * (b + 1) ≤ a * a = mul-le-mul (omega arith) (omega arith) in omega arith) (λ h. h)
    (cases_lt b a)

next_square : (s : ℕ) → s * s < (s + 1) * (s + 1)
next_square s = omega arith

root_low : (n : ℕ) → root n * root n ≤ n
unfolding root
root_low zero = omega arith
root_low (suc n) = let i = root_low n in grind (arith, nat_tests)

root_high : (n : ℕ) → n < (root n + 1) * (root n + 1)
unfolding root
root_high zero = omega arith
root_high (suc n) = let i = root_high n in let k = next_square (root n + 1) in grind (arith, nat_tests)

pub root_only : (t n : ℕ) → t * t ≤ n → n < (t + 1) * (t + 1) → t ≡ root n
root_only t n low high =
    omega (arith, below_square t (root n) n low (root_high n), below_square (root n) t n (root_low n) high)

pub root_rises : (m n : ℕ) → m ≤ n → root m ≤ root n
root_rises m n h = below_square (root m) (root n) n (omega (arith, root_low m)) (root_high n)

pub root_largest : (n : ℕ) → Largest n (root n)
root_largest n = (root_low n, λ s h. below_square s (root n) n h (root_high n))
