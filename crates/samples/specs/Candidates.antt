-- What the private steps of a verdict do: which candidates a heap holds. Assumes nothing.
--   by_weight        the order of candidates, by weight and then by slot
--   sooner x y       the candidate x comes before y
--   candidate w s    the candidate of slot s, by the weight of each slot
--   Holds xs w p n   the list holds the candidate of each slot below n that passes p, and nothing else
use Rattle.std.specs.Prelude.{◌≡◌, ℕ, Bool, true, false, cond, ◌&&◌, ◌||◌, ◌==◌, List, nat_lt, sum_by, ◌≢◌, refl}
use Rattle.std.specs.Ordering.{is_lt, nat_cmp, on, ordering_then, then_cmp}
use Rattle.std.specs.declared.cmp.Ordering.{Ordering}
use Rattle.std.specs.declared.cmp.Ordering.TheVariants.{Less, Equal, Greater}
use Rattle.std.proofs.Common.{rules}
use Rattle.heap.specs.Order.{One, ahead}
use Rattle.ranking.specs.Counts.{bit, count}
use Rattle.ranking.specs.Ranks.{lower}
use Rattle.samples.specs.declared.candidate.Candidate.{Candidate}

abbrev pub by_weight : Candidate → Candidate → Ordering
by_weight = then_cmp (on (λ x. x.weight) nat_cmp) (on (λ x. x.slot) nat_cmp)

abbrev pub sooner : Candidate → Candidate → Bool
sooner x y = lower x.weight x.slot y.weight y.slot

first_or_then : (a b c d : Bool) → is_lt (ordering_then (cond a Less (cond b Equal Greater)) (cond c Less (cond d Equal Greater))) ≡ (a || (b && c))
first_or_then true b c d = refl
first_or_then false false c d = refl
first_or_then false true true d = refl
first_or_then false true false true = refl
first_or_then false true false false = refl

-- ahead in that order is the lower weight, and of equal weights the lower slot
pub ahead_is_sooner : (x y : Candidate) → ahead by_weight x y ≡ sooner x y
ahead_is_sooner x y = first_or_then (nat_lt x.weight y.weight) (x.weight == y.weight) (nat_lt x.slot y.slot) (x.slot == y.slot)

-- of two candidates with another weight or slot exactly one comes first, of two with the same neither, and coming
-- first carries over
pub one : (x y : Candidate) → ◌≢◌ {A = ℕ × ℕ} (x.weight, x.slot) (y.weight, y.slot) → One (sooner x y) (sooner y x)
one x y = search rules

pub neither : (x y : Candidate) → ◌≡◌ {A = ℕ × ℕ} (x.weight, x.slot) (y.weight, y.slot) → sooner x y ≡ false
neither x y = search rules

pub carries : (x y z : Candidate) → sooner x y ≡ true → sooner y z ≡ true → sooner x z ≡ true
carries x y z = search rules

abbrev pub candidate : (ℕ → ℕ) → ℕ → Candidate
candidate w s = record { weight = w s; slot = s }

-- whatever test is put to the candidates, as many pass in the list as among the slots
abbrev pub Holds : List Candidate → (ℕ → ℕ) → (ℕ → Bool) → ℕ → Type 0
Holds xs w p n = (q : Candidate → Bool) → sum_by (λ c. bit (q c)) xs ≡ count (λ s. p s && q (candidate w s)) n
