-- Worked examples of the exact verdict, of the definitions alone. Assumes nothing.
use Rattle.std.specs.Prelude.{◌≡◌, ℕ, ◌*◌, min, max, List, [], ◌∷◌, ◌++◌, replicate, Some, None, Ok, Err, Option}
use Rattle.measure.specs.Roots.{root}
use Rattle.measure.specs.Weight.{held_sum}
use Rattle.samples.specs.Slots.{Point, Table}
use Rattle.samples.specs.Verdict.{weight_at, verdict_rule}
use Rattle.samples.specs.declared.refusal.Refusal.TheVariants.{TooFewSamples}

-- two values, and 0 in the other bands
abbrev pair : ℕ → ℕ → List ℕ
pair x y = x ∷ y ∷ 0 ∷ 0 ∷ 0 ∷ 0 ∷ 0 ∷ 0 ∷ []

abbrev sample : ℕ → ℕ → ℕ → Option Point
sample f x y = Some (record { fibre = f; values = pair x y })

-- slots 0 to 4 at band 0 = 10, 12, 600, 610 and 14, of fibres 1, 1, 2, 2 and 3
abbrev pub five : Table
five = (sample 1 10 0 ∷ sample 1 12 0 ∷ sample 2 600 0 ∷ sample 2 610 0 ∷ sample 3 14 0 ∷ []) ++ replicate 251 None

abbrev two : Table
two = (sample 2 103 103 ∷ sample 5 106 100 ∷ []) ++ replicate 254 None

-- the four measures, by what a gap weighs
abbrev gap : ℕ → ℕ → ℕ
gap b g = g

abbrev squared : ℕ → ℕ → ℕ
squared b g = g * g

abbrev damped : ℕ → ℕ → ℕ
damped b g = root (1024 * min g 1023)

-- of five against 13: slots 1 and 4 weigh 1, the lower slot is nearer; votes that tie go to the lower code
-- of two against 100, 100: what each measure weighs, and prints
abbrev pub Verdicts : Type 0
Verdicts =
    (weight_at gap held_sum five (pair 13 0) 1 ≡ 1)
    × (weight_at gap held_sum five (pair 13 0) 4 ≡ 1)
    × (verdict_rule gap held_sum five (pair 13 0) 1 ≡ Ok 1)
    × (verdict_rule gap held_sum five (pair 13 0) 2 ≡ Ok 1)
    × (verdict_rule gap held_sum five (pair 13 0) 5 ≡ Ok 1)
    × (verdict_rule gap held_sum five (pair 13 0) 6 ≡ Err TooFewSamples)
    × (verdict_rule gap held_sum two (pair 100 100) 1 ≡ Ok 2)
    × (weight_at squared held_sum two (pair 100 100) 0 ≡ 18)
    × (weight_at squared held_sum two (pair 100 100) 1 ≡ 36)
    × (verdict_rule squared held_sum two (pair 100 100) 1 ≡ Ok 2)
    × (weight_at gap max two (pair 100 100) 0 ≡ 3)
    × (weight_at gap max two (pair 100 100) 1 ≡ 6)
    × (verdict_rule gap max two (pair 100 100) 1 ≡ Ok 2)
    × (weight_at damped held_sum two (pair 100 100) 0 ≡ 110)
    × (weight_at damped held_sum two (pair 100 100) 1 ≡ 78)
    × (verdict_rule damped held_sum two (pair 100 100) 1 ≡ Ok 5)
