-- A view whose bounds are right: where its low and high lie, and which samples they decide. Assumes nothing.
use Rattle.std.proofs.Common.{◌≡◌, ℕ, ◌+◌, ◌<◌, ◌≤◌, true, false, ◌&&◌, leb, ltb, arith}
use Rattle.std.proofs.lemmas.Bool.Decides.{nat_tests}
use Rattle.ranking.specs.Counts.{bit, count}
use Rattle.ranking.specs.Ranks.{nearer}
use Rattle.ranking.proofs.Counted.{count_imp}
use Rattle.walks.specs.Views.{View, kth, low, high, inside, active, nearest}
use Rattle.walks.proofs.Kths.{Least, kth_least, least_rises, nearer_le, nearer_less}

pub record Bounded (v : View) : Type 0 where
  pub bounds : (s : ℕ) → s < v.slots → v.entered s ≡ true → (v.near s ≤ v.weight s) × (v.weight s ≤ v.far s)
  pub single : (s : ℕ) → s < v.slots → v.entered s ≡ true → v.in_node s ≡ false → (v.near s ≡ v.weight s) × (v.far s ≡ v.weight s)

module _ (v : View) (k : ℕ) (b : Bounded v) (o : 0 < k) (e : k ≤ count v.entered v.slots) where
  pub low_least : Least v.entered v.near v.slots k (low v k)
  low_least = kth_least v.entered v.near v.slots k o e

  pub high_least : Least v.entered v.far v.slots k (high v k)
  high_least = kth_least v.entered v.far v.slots k o e

  pub weight_between : (low v k ≤ kth v.entered v.weight v.slots k) × (kth v.entered v.weight v.slots k ≤ high v k)
  weight_between =
      let middle = kth_least v.entered v.weight v.slots k o e in (
        least_rises v.entered v.near v.weight v.slots k _ _ (λ s l h. (b.bounds s l h).0) low_least middle,
        least_rises v.entered v.weight v.far v.slots k _ _ (λ s l h. (b.bounds s l h).1) middle high_least,
      )

  pub low_le_high : low v k ≤ high v k
  low_le_high = omega (arith, weight_between.0, weight_between.1)

  -- whoever comes before an inside sample has a near below low
  pub inside_nearest : (s : ℕ) → s < v.slots → inside v k s ≡ true → nearest v k s ≡ true
  inside_nearest s l h =
      let here = b.bounds s l in
      let least = low_least in
      let ahead =
      count_imp (λ t. v.entered t && nearer v.weight t s) (λ t. v.entered t && ltb (v.near t) (low v k)) v.slots
      (λ t m i. let there = b.bounds t m in let w = nearer_le v.weight t s in grind (arith, nat_tests))
      in
      grind (arith, nat_tests)

  -- k samples or more have a far at most high, and come before one whose near is above
  pub above_far : (s : ℕ) → s < v.slots → v.entered s ≡ true → high v k < v.near s → nearest v k s ≡ false
  above_far s l h a =
      let here = b.bounds s l in
      let least = high_least in
      let ahead =
      count_imp (λ t. v.entered t && leb (v.far t) (high v k)) (λ t. v.entered t && nearer v.weight t s) v.slots
      (λ t m i. let there = b.bounds t m in let w = nearer_less v.weight t s in grind (arith, nat_tests))
      in
      grind (arith, nat_tests)

  pub few_inside : count (inside v k) v.slots < k
  few_inside =
      let least = low_least in
      let a =
      count_imp (inside v k) (λ t. v.entered t && ltb (v.near t) (low v k)) v.slots (λ t m i. let there = b.bounds t m in grind (arith, nat_tests))
      in
      omega arith

  -- the nearest are the inside ones and some of the active ones
  pub nearest_parts : (s : ℕ) → s < v.slots → bit (nearest v k s) ≡ bit (inside v k s) + bit (active v k s && nearest v k s)
  nearest_parts s l =
      let i = inside_nearest s l in
      let a = above_far s l in
      grind (arith, nat_tests)
