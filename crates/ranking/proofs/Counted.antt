-- How counts compare when their tests do, slot by slot. Assumes nothing.
use Rattle.std.proofs.Common.{◌≡◌, ℕ, zero, suc, ◌+◌, ◌<◌, ◌≤◌, Bool, true, false, ◌&&◌, eqb, refl, ap, ⊎_elim, add-one, arith}
use Rattle.std.proofs.lemmas.Bool.{both_ways, cases_Bool}
use Rattle.std.proofs.lemmas.Bool.Decides.{nat_tests}
use Rattle.ranking.specs.Counts.{bit, count}

pub count_zero : (p : ℕ → Bool) → count p 0 ≡ 0
unfolding count
count_zero p = refl

pub count_more : (p : ℕ → Bool) (n : ℕ) → count p (n + 1) ≡ bit (p n) + count p n
unfolding count
count_more p n = ap (count p) (add-one n)

pub count_le : (p : ℕ → Bool) (n : ℕ) → count p n ≤ n
unfolding count
count_le p zero = omega arith
count_le p (suc n) = let i = count_le p n in grind arith

pub count_imp : (p q : ℕ → Bool) (n : ℕ) → ((s : ℕ) → s < n → p s ≡ true → q s ≡ true) → count p n ≤ count q n
unfolding count
count_imp p q zero h = omega arith
count_imp p q (suc n) h =
    let e : p n ≡ true → q n ≡ true = h n (omega arith) in
    let i = count_imp p q n (λ s l. h s (omega arith)) in
    grind arith

pub count_ext : (p q : ℕ → Bool) (n : ℕ) → ((s : ℕ) → s < n → p s ≡ q s) → count p n ≡ count q n
unfolding count
count_ext p q zero h = refl
count_ext p q (suc n) h =
    let e : p n ≡ q n = h n (omega arith) in
    let i = count_ext p q n (λ s l. h s (omega arith)) in
    grind arith

-- the slot z makes a difference
pub count_less : (p q : ℕ → Bool) (n z : ℕ) → ((s : ℕ) → s < n → p s ≡ true → q s ≡ true) → z < n → p z ≡ false → q z ≡ true → count p n < count q n
unfolding count
count_less p q zero z h l a b = omega arith
count_less p q (suc n) z h l a b =
    let e : p n ≡ true → q n ≡ true = h n (omega arith) in
    let i = count_imp p q n (λ s m. h s (omega arith)) in
    let j : z < n → count p n < count q n = λ m. count_less p q n z (λ s m'. h s (omega arith)) m a b in
    grind arith

-- a slot that makes the difference
pub count_find : (p q : ℕ → Bool) (n : ℕ) → count p n < count q n → (s : ℕ) × (s < n) × (p s ≡ false) × (q s ≡ true)
unfolding count
count_find p q zero h = absurd (omega arith)
count_find p q (suc n) h = go (count_find p q n) (p n) (q n) refl refl
  where
    up : (s : ℕ) × (s < n) × (p s ≡ false) × (q s ≡ true) → (s : ℕ) × (s < suc n) × (p s ≡ false) × (q s ≡ true)
    up r = (r.0, omega arith, r.2, r.3)

    go : (count p n < count q n → (s : ℕ) × (s < n) × (p s ≡ false) × (q s ≡ true)) → (a b : Bool) → p n ≡ a → q n ≡ b → (s : ℕ) × (s < suc n) × (p s ≡ false) × (q s ≡ true)
    go i true true d e = up (i (grind arith))
    go i true false d e = up (i (grind arith))
    go i false true d e = (n, omega arith, d, e)
    go i false false d e = up (i (grind arith))

-- a count in two parts
pub count_split : (p q r : ℕ → Bool) (n : ℕ) → ((s : ℕ) → s < n → bit (p s) ≡ bit (q s) + bit (r s)) → count p n ≡ count q n + count r n
unfolding count
count_split p q r zero h = refl
count_split p q r (suc n) h = omega (arith, h n (omega arith), count_split p q r n (λ s l. h s (omega arith)))

pub count_none : (p : ℕ → Bool) (n : ℕ) → ((s : ℕ) → s < n → p s ≡ false) → count p n ≡ 0
unfolding count
count_none p zero h = refl
count_none p (suc n) h =
    let e = h n (omega arith) in
    let i = count_none p n (λ s l. h s (omega arith)) in
    grind arith

-- a slot that passes is counted
pub count_some : (p : ℕ → Bool) (n s : ℕ) → s < n → p s ≡ true → 0 < count p n
count_some p n s l h =
    let none = count_none (λ _. false) n (λ _ _. refl) in
    let more = count_less (λ _. false) p n s (λ t m e. absurd (both_ways false refl e)) l refl h in
    omega arith

pub none_counted : (p : ℕ → Bool) (n s : ℕ) → count p n ≡ 0 → s < n → p s ≡ false
none_counted p n s e l =
    ⊎_elim (λ h. absurd (omega (arith, count_some p n s l h))) (λ h. h) (cases_Bool (p s))

-- one slot alone
pub count_at : (q : ℕ → Bool) (r n : ℕ) → r < n → count (λ s. eqb s r && q s) n ≡ bit (q r)
unfolding count
count_at q r zero l = absurd (omega arith)
count_at q r (suc n) l = go (λ m. count_at q r n m) (eqb n r) refl
  where
    go : (r < n → count (λ s. eqb s r && q s) n ≡ bit (q r)) → (b : Bool) → eqb n r ≡ b → bit (eqb n r && q n) + count (λ s. eqb s r && q s) n ≡ bit (q r)
    go i true e =
        let same : n ≡ r = grind (arith, nat_tests) in
        let z = count_none (λ s. eqb s r && q s) n (λ s m. grind (arith, nat_tests)) in
        let c : q n ≡ q r = ap q same in
        grind (arith, nat_tests)
    go i false e = grind (arith, nat_tests)
