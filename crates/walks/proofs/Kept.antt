-- What high drops changes neither the nearest nor low and high. Assumes nothing.
use Rattle.std.proofs.Common.{◌≡◌, ℕ, ◌<◌, ◌≤◌, ◌&&◌, leb, ltb, arith}
use Rattle.std.proofs.lemmas.Bool.Decides.{nat_tests}
use Rattle.ranking.specs.Counts.{count}
use Rattle.ranking.specs.Ranks.{nearer, rank}
use Rattle.ranking.proofs.Counted.{count_imp}
use Rattle.ranking.proofs.Ranked.{nearer_strict, by_rank, count_first}
use Rattle.walks.specs.Views.{View, low, high, nearest}
use Rattle.walks.proofs.Bounded.{Bounded, low_least, high_least, low_le_high, above_far}
use Rattle.walks.proofs.Kths.{Least, kth_least, kth_only}

-- the view without what high drops
abbrev pub kept : View → ℕ → View
kept v k = record {
  slots = v.slots;
  entered = λ s. v.entered s && leb (v.near s) (high v k);
  in_node = v.in_node;
  near = v.near;
  far = v.far;
  weight = v.weight;
  fibre = v.fibre;
}

module _ (v : View) (k : ℕ) (b : Bounded v) (o : 0 < k) (e : k ≤ count v.entered v.slots) where
  least_low : Least (kept v k).entered v.near v.slots k (low v k)
  least_low =
      let order = low_le_high v k b o e in
      let least = low_least v k b o e in
      let below =
      count_imp (λ t. (kept v k).entered t && ltb (v.near t) (low v k)) (λ t. v.entered t && ltb (v.near t) (low v k)) v.slots (λ t l h. grind arith)
      in
      let upto =
      count_imp (λ t. v.entered t && leb (v.near t) (low v k)) (λ t. (kept v k).entered t && leb (v.near t) (low v k)) v.slots
      (λ t l h. grind (arith, nat_tests))
      in
      record { fewer = omega arith; enough = omega arith }

  least_high : Least (kept v k).entered v.far v.slots k (high v k)
  least_high =
      let least = high_least v k b o e in
      let below =
      count_imp (λ t. (kept v k).entered t && ltb (v.far t) (high v k)) (λ t. v.entered t && ltb (v.far t) (high v k)) v.slots (λ t l h. grind arith)
      in
      let upto =
      count_imp (λ t. v.entered t && leb (v.far t) (high v k)) (λ t. (kept v k).entered t && leb (v.far t) (high v k)) v.slots
      (λ t l h. let c = b.bounds t l in grind (arith, nat_tests))
      in
      record { fewer = omega arith; enough = omega arith }

  pub kept_enough : k ≤ count (kept v k).entered v.slots
  kept_enough =
      let least = least_high in
      let c = count_imp (λ t. (kept v k).entered t && leb (v.far t) (high v k)) (kept v k).entered v.slots (λ t l h. grind arith) in
      omega arith

  -- a sample that k others come before has k before it that are kept
  far_off : (s : ℕ) → s < v.slots → k ≤ rank v.entered (nearer v.weight) v.slots s → k ≤ rank (kept v k).entered (nearer v.weight) v.slots s
  far_off s l h =
      let many = count_first (nearer v.weight) (nearer_strict v.weight) v.entered v.slots k in
      let c =
      count_imp (nearest v k) (λ t. (kept v k).entered t && nearer v.weight t s) v.slots
      (λ t m i.
      let a = above_far v k b o e t m in
      let d = by_rank (nearer v.weight) (nearer_strict v.weight) v.entered v.slots t s in
      grind (arith, nat_tests))
      in
      omega arith

  pub kept_nearest : (s : ℕ) → s < v.slots → nearest (kept v k) k s ≡ nearest v k s
  kept_nearest s l =
      let a = above_far v k b o e s l in
      let c = far_off s l in
      let d = count_imp (λ t. (kept v k).entered t && nearer v.weight t s) (λ t. v.entered t && nearer v.weight t s) v.slots (λ t m i. grind arith) in
      grind (arith, nat_tests)

  pub kept_low : low (kept v k) k ≡ low v k
  kept_low = kth_only _ _ v.slots k _ _ (kth_least _ _ v.slots k o kept_enough) least_low

  pub kept_high : high (kept v k) k ≡ high v k
  kept_high = kth_only _ _ v.slots k _ _ (kth_least _ _ v.slots k o kept_enough) least_high
