-- How sums of counts compare when their tests do, slot by slot. Assumes nothing.
use Rattle.std.proofs.Common.{ℕ, zero, suc, ◌+◌, ◌<◌, ◌≤◌, Bool, false, refl, arith}
use Rattle.ranking.specs.Counts.{bit, count}
use Rattle.ranking.proofs.Counted.{count_none}

pub count_sum : (p q r t : ℕ → Bool) (n : ℕ) → ((s : ℕ) → s < n → bit (p s) + bit (q s) ≤ bit (r s) + bit (t s)) → count p n + count q n ≤ count r n + count t n
unfolding count
count_sum p q r t zero h = omega arith
count_sum p q r t (suc n) h = omega (arith, h n (omega arith), count_sum p q r t n (λ s l. h s (omega arith)))

-- a count within two others
pub count_cover : (p q r : ℕ → Bool) (n : ℕ) → ((s : ℕ) → s < n → bit (p s) ≤ bit (q s) + bit (r s)) → count p n ≤ count q n + count r n
count_cover p q r n h = let a = count_sum p (λ _. false) q r n (λ s l. omega (arith, h s l)) in omega arith

-- two counts within another
pub count_pack : (p q r : ℕ → Bool) (n : ℕ) → ((s : ℕ) → s < n → bit (p s) + bit (q s) ≤ bit (r s)) → count p n + count q n ≤ count r n
count_pack p q r n h =
    let a = count_sum p q r (λ _. false) n (λ s l. omega (arith, h s l)) in
    let z = count_none (λ _. false) n (λ s l. refl) in
    omega arith
