-- What the first check that fails says, and that none fails where every record passes every check. Assumes nothing.
--   Passes ks   no record fails one of the checks
use Rattle.std.proofs.Common.{◌≡◌, ℕ, zero, suc, ◌-◌, ◌<◌, ◌≤◌, false, List, [], ◌∷◌, Some, None, Option, unwrap_or, refl, ap, ◌∙◌, arith}
use Rattle.std.specs.Option.{option_map, option_or}
use Rattle.ranking.specs.Lowest.{lowest}
use Rattle.ranking.proofs.Found.{lowest_none, none_lowest, lowest_some}
use Rattle.records.specs.Checks.{Test, test_at, checks, first_failed, first_fault, FailsFirst}

abbrev pub Passes : List Test → Type 0
Passes [] = Unit {0}
Passes (k ∷ ks) = ((i : ℕ) → i < k.0 → k.1 i ≡ false) × Passes ks

pub none_failed : (c : ℕ) (ks : List Test) → Passes ks → first_failed c ks ≡ None
none_failed c [] h = refl
none_failed c (k ∷ ks) h =
    ap (λ o. option_or (option_map (λ i. (c, i)) o) (first_failed (suc c) ks)) (none_lowest k.1 k.0 h.0) ∙ none_failed (suc c) ks h.1

none_found : (c : ℕ) (o : Option ℕ) (more : Option (ℕ × ℕ)) → option_or (option_map (λ i. (c, i)) o) more ≡ None → (o ≡ None) × (more ≡ None)
none_found c None more h = (refl, h)
none_found c (Some i) more h = cc

pub passes : (c : ℕ) (ks : List Test) → first_failed c ks ≡ None → Passes ks
passes c [] h = tt
passes c (k ∷ ks) h =
    let f = none_found c (lowest k.1 k.0) (first_failed (suc c) ks) h in
    (lowest_none k.1 k.0 f.0, passes (suc c) ks f.1)

later : (k : Test) (ks : List Test) (n i : ℕ) → ((j : ℕ) → j < k.0 → k.1 j ≡ false) → FailsFirst ks n i → FailsFirst (k ∷ ks) (suc n) i
later k ks n i none f = record { record_at = f.record_at; fails = f.fails; lower = f.lower; before = up }
  where
    up : (e j : ℕ) → e < suc n → j < (test_at (k ∷ ks) e).0 → (test_at (k ∷ ks) e).1 j ≡ false
    up zero j l m = none j m
    up (suc e) j l m = f.before e j (omega arith) m

pub fails_first : (c : ℕ) (ks : List Test) (d i : ℕ) → first_failed c ks ≡ Some (d, i) → (c ≤ d) × FailsFirst ks (d - c) i
fails_first c [] d i h = cc
fails_first c (k ∷ ks) d i h = go (fails_first (suc c) ks d i) (lowest k.1 k.0) refl h
  where
    go : (first_failed (suc c) ks ≡ Some (d, i) → (suc c ≤ d) × FailsFirst ks (d - suc c) i) → (o : Option ℕ) → lowest k.1 k.0 ≡ o → option_or (option_map (λ j. (c, j)) o) (first_failed (suc c) ks) ≡ Some (d, i) → (c ≤ d) × FailsFirst (k ∷ ks) (d - c) i
    go more None e a =
        let f = more a in
        let n : d - c ≡ suc (d - suc c) = omega arith in
        (omega arith, rw n (later k ks (d - suc c) i (lowest_none k.1 k.0 e) f.1))
    go more (Some j) e a =
        let named : ◌≡◌ {A = ℕ × ℕ} (c, j) (d, i) = ap (λ o. unwrap_or o (d, i)) a in
        let same : c ≡ d = ap (λ (p : ℕ × ℕ). p.0) named in
        let at : j ≡ i = ap (λ (p : ℕ × ℕ). p.1) named in
        let n : d - c ≡ 0 = omega arith in
        let l = rw at at (lowest_some k.1 k.0 j e) in
        (omega arith, rw n (record { record_at = l.0; fails = l.1; lower = l.2; before = λ f m p q. absurd (omega arith) }))

-- the check and the record that are named are the lowest that fail
pub named_first : (bs : List ℕ) (c i : ℕ) → first_fault bs ≡ Some (c, i) → (1 ≤ c) × FailsFirst (checks bs) (c - 1) i
unfolding first_fault
named_first bs c i h = fails_first 1 (checks bs) c i h
