-- The list: it has k samples, the nearest where all is counted, and near ones where all is narrow. Assumes nothing.
use Rattle.std.proofs.Common.{◌≡◌, ℕ, ◌+◌, ◌*◌, ◌<◌, ◌≤◌, true, false, not, ◌&&◌, ◌||◌, leb, ltb, refl, ⊎_elim, arith}
use Rattle.std.proofs.Math.Nat.{mul-le-mul, mul-le-mul_left, mul-le-mul_right}
use Rattle.std.proofs.lemmas.Bool.{cases_lt}
use Rattle.std.proofs.lemmas.Bool.Decides.{nat_tests}
use Rattle.ranking.specs.Counts.{count}
use Rattle.ranking.specs.Ranks.{nearer, rank, first}
use Rattle.ranking.proofs.Counted.{count_ext, count_less, count_split}
use Rattle.ranking.proofs.Leading.{leader_same}
use Rattle.ranking.proofs.Ranked.{nearer_strict, count_first}
use Rattle.trees.proofs.Boxed.{every_at}
use Rattle.walks.specs.Views.{View, low, inside, active, left, is_narrow, is_counted, listed, commonest, nearest, verdict}
use Rattle.walks.proofs.Alike.{rank_equal, listed_entered}
use Rattle.walks.proofs.Bounded.{Bounded, low_least, low_le_high, few_inside, inside_nearest, above_far}
use Rattle.walks.proofs.Every.{some_fails}
use Rattle.walks.proofs.Kths.{nearer_le, nearer_less}
use Rattle.walks.proofs.Sums.{count_cover, count_pack}

module _ (v : View) (k : ℕ) (b : Bounded v) (o : 0 < k) (e : k ≤ count v.entered v.slots) where
  pub listed_many : count (listed v k) v.slots ≡ k
  unfolding listed
  listed_many =
      let order = low_le_high v k b o e in
      let few = few_inside v k b o e in
      let least = low_least v k b o e in
      let many = count_first (nearer v.near) (nearer_strict v.near) (active v k) v.slots (left v k) in
      let cover =
      count_cover (λ t. v.entered t && leb (v.near t) (low v k)) (inside v k) (active v k) v.slots (λ t l. grind (arith, nat_tests))
      in
      let parts =
      count_split (listed v k) (inside v k) (first (active v k) (nearer v.near) v.slots (left v k)) v.slots (λ t l. grind (arith, nat_tests))
      in
      omega arith

  -- an active sample on the list has a near not above low
  first_near : (s : ℕ) → first (active v k) (nearer v.near) v.slots (left v k) s ≡ true → v.near s ≤ low v k
  first_near s h =
      let order = low_le_high v k b o e in
      let least = low_least v k b o e in
      let cover : low v k < v.near s → count (λ t. v.entered t && leb (v.near t) (low v k)) v.slots ≤ count (inside v k) v.slots + rank (active v k) (nearer v.near) v.slots s =
      λ g. count_cover _ _ _ v.slots (λ t l. let x = nearer_less v.near t s in grind (arith, nat_tests)) in
      grind (arith, nat_tests)

  -- a sample with a near below low is on the list
  near_listed : (t : ℕ) → v.entered t ≡ true → v.near t < low v k → listed v k t ≡ true
  unfolding listed
  near_listed t h g =
      let order = low_le_high v k b o e in
      let least = low_least v k b o e in
      let pack =
      count_pack (inside v k) (λ u. active v k u && nearer v.near u t) (λ u. v.entered u && ltb (v.near u) (low v k)) v.slots
      (λ u l. let there = b.bounds u l in let x = nearer_le v.near u t in grind (arith, nat_tests))
      in
      grind (arith, nat_tests)

  narrow_at : (n d : ℕ) → d ≤ n → is_narrow v k n d ≡ true → (s : ℕ) → s < v.slots → active v k s ≡ true → v.far s * d ≤ v.near s * n
  unfolding is_narrow
  narrow_at n d dn h s l a =
      let at = every_at (λ s. not (active v k s && v.in_node s) || leb (v.far s * d) (v.near s * n)) v.slots s h l in
      let one = b.single s l in
      let times : v.weight s * d ≤ v.weight s * n = mul-le-mul_left (v.weight s) dn in
      grind (arith, nat_tests)

  -- a sample of the list that is not inside is within the ratio of low
  within_low : (n d : ℕ) → d ≤ n → is_narrow v k n d ≡ true → (s : ℕ) → s < v.slots → listed v k s ≡ true → inside v k s ≡ false → v.weight s * d ≤ low v k * n
  unfolding listed
  within_low n d dn narrow s l h i =
      let here = b.bounds s l (grind arith) in
      let x : v.weight s * d ≤ v.far s * d = mul-le-mul_right d here.1 in
      let y = narrow_at n d dn narrow s l (grind arith) in
      let z : v.near s * n ≤ low v k * n = mul-le-mul_right n (first_near s (grind arith)) in
      omega arith

  -- below low all that are nearer are on the list too
  not_passed : (s t : ℕ) → t < v.slots → v.entered t ≡ true → rank (listed v k) (nearer v.weight) v.slots s ≡ rank v.entered (nearer v.weight) v.slots t →
      v.weight t < low v k → v.weight s ≤ v.weight t
  not_passed s t l h r below = ⊎_elim
      (λ (c : v.weight t < v.weight s).
      let on : (u : ℕ) → u < v.slots → v.entered u ≡ true → v.weight u ≤ v.weight t → listed v k u ≡ true =
      λ u m i j. let there = b.bounds u m i in near_listed u i (omega arith) in
      let ahead = count_less (λ u. v.entered u && nearer v.weight u t) (λ u. listed v k u && nearer v.weight u s) v.slots t
      (λ u m i. let x = on u m in let y = nearer_le v.weight u t in let z = nearer_less v.weight u s in grind arith)
      l (let self = (nearer_strict v.weight).self t in grind arith) (let x = on t l h in let z = nearer_less v.weight t s in grind arith) in
      absurd (omega arith))
      (λ c. c)
      (cases_lt (v.weight t) (v.weight s))

  -- where all active nodes are narrow, the i-th of the list is at most n to d times as heavy as the i-th nearest
  pub listed_ratio : (n d : ℕ) → d ≤ n → is_narrow v k n d ≡ true → (s t : ℕ) → s < v.slots → t < v.slots → listed v k s ≡ true → v.entered t ≡ true →
      rank (listed v k) (nearer v.weight) v.slots s ≡ rank v.entered (nearer v.weight) v.slots t → v.weight s * d ≤ v.weight t * n
  listed_ratio n d dn narrow s t l m h g r =
      let here = b.bounds s l (listed_entered v k s h) in
      let far = within_low n d dn narrow s l h in
      let up : low v k ≤ v.weight t → low v k * n ≤ v.weight t * n = λ c. mul-le-mul_right n c in
      let as_near : v.weight s ≤ v.weight t → v.weight s * d ≤ v.weight t * n = λ c. mul-le-mul c dn in
      let passed = not_passed s t m g r in
      grind (arith, nat_tests)

  counted_at : is_counted v k ≡ true → (s : ℕ) → s < v.slots → active v k s ≡ true → (v.near s ≡ v.weight s) × (v.far s ≡ v.weight s)
  unfolding is_counted
  counted_at h s l a =
      let at = every_at (λ s. not (active v k s && v.in_node s)) v.slots s h l in
      b.single s l (grind arith) (grind arith)

  counted_rank : is_counted v k ≡ true → (s : ℕ) → s < v.slots → active v k s ≡ true →
      rank v.entered (nearer v.weight) v.slots s ≡ count (inside v k) v.slots + rank (active v k) (nearer v.near) v.slots s
  counted_rank h s l a =
      let here = counted_at h s l a in
      let same = rank_equal (active v k) (active v k) v.near v.weight v.slots (λ t m. refl) (λ t m c. (counted_at h t m c).0) s l a in
      let parts = count_split (λ t. v.entered t && nearer v.weight t s) (inside v k) (λ t. active v k t && nearer v.weight t s) v.slots
      (λ t m. let there = b.bounds t m in let x = nearer_less v.weight t s in let y = nearer_le v.weight t s in grind (arith, nat_tests)) in
      omega arith

  -- where no node is active the list is the k nearest
  pub counted_nearest : is_counted v k ≡ true → (s : ℕ) → s < v.slots → listed v k s ≡ nearest v k s
  unfolding listed
  counted_nearest h s l =
      let i = inside_nearest v k b o e s l in
      let a = above_far v k b o e s l in
      let r = counted_rank h s l in
      grind (arith, nat_tests)

  pub counted_verdict : is_counted v k ≡ true → commonest v k ≡ verdict v k
  counted_verdict h = leader_same _ _ 8 (λ j l. count_ext _ _ v.slots (λ s m. let a = counted_nearest h s m in cc))

pub some_active : (v : View) (k : ℕ) → is_counted v k ≡ false → (s : ℕ) × (s < v.slots) × (active v k s ≡ true) × (v.in_node s ≡ true)
unfolding is_counted
some_active v k h = let r = some_fails (λ s. not (active v k s && v.in_node s)) v.slots h in let f = r.2 in (r.0, r.1, grind arith, grind arith)
