-- A fibre that is settled is the verdict. Assumes nothing.
use Rattle.std.proofs.Common.{◌≡◌, ℕ, ◌+◌, ◌<◌, ◌≤◌, Bool, true, cond, ◌&&◌, ◌||◌, eqb, leb, ltb, arith}
use Rattle.std.proofs.lemmas.Bool.Decides.{nat_tests}
use Rattle.ranking.specs.Counts.{count}
use Rattle.ranking.specs.Majority.{tally, Leads}
use Rattle.ranking.specs.Ranks.{nearer}
use Rattle.ranking.proofs.Counted.{count_imp, count_split}
use Rattle.ranking.proofs.Leading.{leader_leads, leads_one}
use Rattle.ranking.proofs.Ranked.{nearer_strict, count_first}
use Rattle.trees.proofs.Boxed.{every_at}
use Rattle.walks.specs.Views.{View, inside, active, left, sure, most, is_settled, nearest, verdict}
use Rattle.walks.proofs.Bounded.{Bounded, nearest_parts}
use Rattle.walks.proofs.Sums.{count_sum}

settled_says : (v : View) (k f : ℕ) → is_settled v k f ≡ true → (j : ℕ) → j < 8 → (j < f → most v k j < sure v k f) × (f < j → most v k j ≤ sure v k f)
unfolding is_settled
settled_says v k f h j l =
    let at = every_at (λ j. eqb j f || cond (ltb j f) (ltb (most v k j) (sure v k f)) (leb (most v k j) (sure v k f))) 8 j h l in
    (λ a. grind (arith, nat_tests), λ a. grind (arith, nat_tests))

module _ (v : View) (k : ℕ) (b : Bounded v) (o : 0 < k) (e : k ≤ count v.entered v.slots) where
  -- the active ones among the nearest
  drawn : ℕ → Bool
  drawn s = active v k s && nearest v k s

  drawn_left : count drawn v.slots ≡ left v k
  unfolding drawn
  drawn_left =
      let parts = count_split (nearest v k) (inside v k) (λ s. active v k s && nearest v k s) v.slots (nearest_parts v k b o e) in
      let many = count_first (nearer v.weight) (nearer_strict v.weight) v.entered v.slots k in
      omega arith

  votes_parts : (j : ℕ) → tally (nearest v k) v.fibre v.slots j ≡ tally (inside v k) v.fibre v.slots j + tally drawn v.fibre v.slots j
  unfolding drawn
  votes_parts j = count_split _ _ _ v.slots (λ s l. let a = nearest_parts v k b o e s l in grind arith)

  sure_le : (j : ℕ) → sure v k j ≤ tally (nearest v k) v.fibre v.slots j
  unfolding sure drawn
  sure_le j =
      let many = drawn_left in
      let parts = votes_parts j in
      let others =
      count_sum drawn (λ s. active v k s && eqb (v.fibre s) j) (active v k) (λ s. drawn s && eqb (v.fibre s) j) v.slots (λ s l. grind arith)
      in
      omega arith

  le_most : (j : ℕ) → tally (nearest v k) v.fibre v.slots j ≤ most v k j
  unfolding most drawn
  le_most j =
      let many = drawn_left in
      let parts = votes_parts j in
      let some = count_imp (λ s. drawn s && eqb (v.fibre s) j) drawn v.slots (λ s l i. grind arith) in
      let same = count_imp (λ s. drawn s && eqb (v.fibre s) j) (λ s. active v k s && eqb (v.fibre s) j) v.slots (λ s l i. grind arith) in
      omega arith

  settled_leads : (f : ℕ) → f < 8 → is_settled v k f ≡ true → Leads (tally (nearest v k) v.fibre v.slots) 8 f
  settled_leads f l h =
      let a = sure_le f in
      record {
        code = l;
        lower = λ j m. let c = le_most j in let d = (settled_says v k f h j (omega arith)).0 m in omega arith;
        higher = λ j m i. let c = le_most j in let d = (settled_says v k f h j i).1 m in omega arith;
      }

  pub settled_verdict : (f : ℕ) → f < 8 → is_settled v k f ≡ true → f ≡ verdict v k
  settled_verdict f l h = leads_one _ 8 f _ (settled_leads f l h) (leader_leads _ 7)
