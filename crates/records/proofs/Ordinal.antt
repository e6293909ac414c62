-- The slots that pass a test, numbered by how many pass before them. Assumes nothing.
use Rattle.std.proofs.Common.{◌≡◌, ℕ, zero, suc, ◌+◌, ◌-◌, ◌<◌, ◌≤◌, Bool, true, false, ◌&&◌, refl, ap, ⊎_elim, arith}
use Rattle.std.proofs.lemmas.Bool.{cases_lt}
use Rattle.ranking.specs.Counts.{bit, count}
use Rattle.records.proofs.Lengths.{count_grows}

-- there is a slot for each number below the count
pub slot_of_number : (h : ℕ → Bool) (k i : ℕ) → i < count h k → (s : ℕ) × (s < k) × (h s ≡ true) × (count h s ≡ i)
unfolding count
slot_of_number h zero i l = absurd (omega arith)
slot_of_number h (suc k) i l = go (slot_of_number h k i) (h k) refl
  where
    go : (i < count h k → (s : ℕ) × (s < k) × (h s ≡ true) × (count h s ≡ i)) → (b : Bool) → h k ≡ b → (s : ℕ) × (s < suc k) × (h s ≡ true) × (count h s ≡ i)
    go before false e = let r = before (let c : bit (h k) ≡ 0 = ap bit e in omega arith) in (r.0, omega arith, r.2, r.3)
    go before true e =
        ⊎_elim (λ (m : i < count h k). let r = before m in (r.0, omega arith, r.2, r.3))
        (λ (m : count h k ≤ i). (k, omega arith, e, (let c : bit (h k) ≡ 1 = ap bit e in omega arith))) (cases_lt i (count h k))

count_le_at : (h : ℕ → Bool) (s r : ℕ) → s ≤ r → count h s ≤ count h r
count_le_at h s r l = let g = count_grows h s (r - s) in let e : s + (r - s) ≡ r = omega arith in rw e at g

-- the slot with the lower number is lower
pub slots_rise : (h : ℕ → Bool) (s r : ℕ) → count h s < count h r → s < r
slots_rise h s r l = ⊎_elim (λ m. m) (λ (m : r ≤ s). absurd (omega (arith, count_le_at h r s m))) (cases_lt s r)

-- what is counted of slots is counted of their numbers
pub count_by_number : (h q r : ℕ → Bool) (k : ℕ) → ((s : ℕ) → s < k → h s ≡ true → r (count h s) ≡ q s) → count (λ s. h s && q s) k ≡ count r (count h k)
unfolding count
count_by_number h q r zero e = refl
count_by_number h q r (suc k) e = go (count_by_number h q r k (λ s l. e s (omega arith))) (h k) refl
  where
    go : count (λ s. h s && q s) k ≡ count r (count h k) → (b : Bool) → h k ≡ b → bit (h k && q k) + count (λ s. h s && q s) k ≡ count r (bit (h k) + count h k)
    go i false f =
        let c : bit (h k) + count h k ≡ count h k = let b : bit (h k) ≡ 0 = ap bit f in omega arith in
        let d = ap (count r) c in
        grind arith
    go i true f =
        let c : bit (h k) + count h k ≡ suc (count h k) = let b : bit (h k) ≡ 1 = ap bit f in omega arith in
        let d : count r (bit (h k) + count h k) ≡ bit (r (count h k)) + count r (count h k) = ap (count r) c in
        let g : r (count h k) ≡ q k = e k (omega arith) f in
        grind arith
