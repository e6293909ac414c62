-- Equal tests below n give equal ranks, the same first and the same pick. Assumes nothing.
use Rattle.std.proofs.Common.{◌≡◌, ℕ, zero, suc, ◌<◌, Bool, true, false, cond, refl, arith}
use Rattle.ranking.specs.Counts.{count}
use Rattle.ranking.specs.Ranks.{rank, first}
use Rattle.ranking.proofs.Counted.{count_ext}
use Rattle.walks.specs.Views.{pick}

pub pick_ext : (p q : ℕ → Bool) (n : ℕ) → ((s : ℕ) → s < n → p s ≡ q s) → pick p n ≡ pick q n
unfolding pick
pick_ext p q zero h = refl
pick_ext p q (suc n) h =
    let here : p n ≡ q n = h n (omega arith) in
    let before = pick_ext p q n (λ s l. h s (omega arith)) in
    cc

-- where a number below n passes, the pick is one
pub pick_finds : (p : ℕ → Bool) (n : ℕ) → 0 < count p n → (pick p n < n) × (p (pick p n) ≡ true)
unfolding pick count
pick_finds p zero h = absurd (omega arith)
pick_finds p (suc n) h = go (pick_finds p n) (p n) refl
  where
    go : (0 < count p n → (pick p n < n) × (p (pick p n) ≡ true)) → (b : Bool) → p n ≡ b → (cond b n (pick p n) < suc n) × (p (cond b n (pick p n)) ≡ true)
    go i true e = (omega arith, e)
    go i false e = let m : 0 < count p n = grind arith in (omega (arith, (i m).0), (i m).1)

module _ (p q : ℕ → Bool) (n : ℕ) (same : (s : ℕ) → s < n → p s ≡ q s) (lt : ℕ → ℕ → Bool) where
  pub rank_ext : (s : ℕ) → rank p lt n s ≡ rank q lt n s
  rank_ext s = count_ext _ _ n (λ t l. let e = same t l in cc)

  pub first_ext : (k s : ℕ) → s < n → first p lt n k s ≡ first q lt n k s
  first_ext k s l = let e = same s l in let r = rank_ext s in cc
