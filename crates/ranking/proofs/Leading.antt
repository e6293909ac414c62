-- The leader leads, nobody else does, and it depends only on the votes. Assumes nothing.
use Rattle.std.proofs.Common.{◌≡◌, ℕ, zero, suc, ◌+◌, ◌<◌, ◌≤◌, refl, ap, ⊎_elim, add-one, arith}
use Rattle.std.proofs.lemmas.Bool.{cases_order}
use Rattle.std.proofs.lemmas.Bool.Decides.{nat_tests}
use Rattle.ranking.specs.Majority.{better, leader, Leads}

-- one code more
pub leader_more : (v : ℕ → ℕ) (m b : ℕ) → b ≡ leader v m → (v b < v m → m ≡ leader v (m + 1)) × (v m ≤ v b → b ≡ leader v (m + 1))
unfolding leader
leader_more v m b e =
    let next = ap (leader v) (add-one m) in
    (λ h. grind (arith, nat_tests), λ h. grind (arith, nat_tests))

leads_next : (v : ℕ → ℕ) (m b : ℕ) → Leads v (suc m) b → Leads v (suc (suc m)) (better v b (suc m))
leads_next v m b l =
    let low = l.code in
    record {
      code = grind (arith, nat_tests);
      lower = λ j h. let x = l.lower j in let y = l.higher j in let same : j ≡ b → v j ≡ v b = λ i. ap v i in grind (arith, nat_tests);
      higher = λ j h k. let x = l.higher j in let same : j ≡ suc m → v j ≡ v (suc m) = λ i. ap v i in grind (arith, nat_tests);
    }

pub leader_leads : (v : ℕ → ℕ) (m : ℕ) → Leads v (suc m) (leader v (suc m))
unfolding leader
leader_leads v zero = record {
  code = grind (arith, nat_tests);
  lower = λ j h. grind (arith, nat_tests);
  higher = λ j h k. grind (arith, nat_tests);
}
leader_leads v (suc m) = leads_next v m (leader v (suc m)) (leader_leads v m)

-- two leaders are one code
pub leads_one : (v : ℕ → ℕ) (m a b : ℕ) → Leads v m a → Leads v m b → a ≡ b
leads_one v m a b x y =
    ⊎_elim (λ e. e)
    (λ ne.
    ⊎_elim (λ (l : a < b). absurd (omega (arith, y.lower a l, x.higher b l y.code)))
    (λ (l : b < a). absurd (omega (arith, x.lower b l, y.higher a l x.code)))
    ne)
    (cases_order a b)

leader_below : (v : ℕ → ℕ) (m : ℕ) → leader v m < suc m
unfolding leader
leader_below v zero = omega arith
leader_below v (suc m) = let l = (leader_leads v m).code in omega arith

-- the leader depends only on the votes
pub leader_same : (v u : ℕ → ℕ) (m : ℕ) → ((j : ℕ) → j < m → v j ≡ u j) → leader v m ≡ leader u m
unfolding leader
leader_same v u zero e = refl
leader_same v u (suc m) e =
    let before = leader_same v u m (λ j l. e j (omega arith)) in
    let here = e m (omega arith) in
    let best = ap u before in
    let there : v (leader v m) ≡ u (leader v m) = e _ (leader_below v m) in
    cc
