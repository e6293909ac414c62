-- When all numbers below a bound pass a test, and when one does not. Assumes nothing.
use Rattle.std.proofs.Common.{◌≡◌, ℕ, zero, suc, ◌<◌, Bool, true, false, refl, arith}
use Rattle.trees.specs.Boxes.{every}

pub every_ext : (p q : ℕ → Bool) (n : ℕ) → ((s : ℕ) → s < n → p s ≡ q s) → every p n ≡ every q n
every_ext p q zero e = refl
every_ext p q (suc n) e =
    let here = e n (omega arith) in
    let below = every_ext p q n (λ s l. e s (omega arith)) in
    cc

pub some_fails : (p : ℕ → Bool) (n : ℕ) → every p n ≡ false → (s : ℕ) × (s < n) × (p s ≡ false)
some_fails p zero h = absurd (grind arith)
some_fails p (suc n) h = go (p n) refl (some_fails p n)
  where
    go : (b : Bool) → p n ≡ b → (every p n ≡ false → (s : ℕ) × (s < n) × (p s ≡ false)) → (s : ℕ) × (s < suc n) × (p s ≡ false)
    go true e below = let r = below (grind arith) in (r.0, omega (arith, r.1), r.2)
    go false e below = (n, omega arith, e)
