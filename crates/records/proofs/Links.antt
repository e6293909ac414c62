-- How often a node is named: by child numbers, and by parents. Assumes nothing.
use Rattle.std.proofs.Common.{◌≡◌, ℕ, zero, suc, ◌+◌, ◌<◌, ◌≤◌, Bool, true, not, ◌&&◌, ◌||◌, eqb, arith}
use Rattle.std.proofs.lemmas.Bool.Decides.{nat_tests}
use Rattle.ranking.specs.Counts.{count}
use Rattle.ranking.proofs.Counted.{count_imp, count_split}
use Rattle.trees.specs.Lawful.{follows, linked}
use Rattle.trees.specs.Trees.{Node, parts, names, Rules}
use Rattle.records.specs.Checks.{namings, named_once}

count_either : (p q r : ℕ → Bool) (n : ℕ) → ((s : ℕ) → p s ≡ (q s || r s)) → count p n ≤ count q n + count r n
unfolding count
count_either p q r zero h = omega arith
count_either p q r (suc n) h = let i = count_either p q r n h in let e = h n in grind arith

module _ (m : ℕ) (node : ℕ → Node) where
  -- one child number is that of one parent
  pub one_parent : (x : ℕ) → namings m node x ≡ 1 → count (λ y. names node y x) m ≡ 1
  unfolding namings names
  one_parent x h =
      let a : ℕ → Bool = λ y. parts (node y).kind && eqb (node y).first x in
      let b : ℕ → Bool = λ y. parts (node y).kind && eqb (node y).second x in
      let p : ℕ → Bool = λ y. parts (node y).kind && (eqb (node y).first x || eqb (node y).second x) in
      let few = count_either p a b m (λ y. grind arith) in
      let first = count_imp a p m (λ y l e. grind arith) in
      let second = count_imp b p m (λ y l e. grind arith) in
      omega arith

  -- under the rules a parent names two nodes
  pub once_from_rules : Rules m node → (x : ℕ) → x < m → named_once m node x ≡ true
  unfolding namings names
  once_from_rules rules x l =
      let both = count_split (λ y. names node y x) (λ y. parts (node y).kind && eqb (node y).first x) (λ y. parts (node y).kind && eqb (node y).second x) m
      (λ y k. let t = rules.twice y k in grind (arith, nat_tests)) in
      let once = λ (p : 0 < x). rules.once x p l in
      grind (arith, nat_tests)

  -- the test of links by child numbers alone
  pub links_by_numbers : (x : ℕ) → (linked m node x && named_once m node x)
      ≡ ((not (parts (node x).kind) || (follows m x (node x).first && (follows m x (node x).second && not (eqb (node x).first (node x).second)))) && named_once m node x)
  unfolding linked
  links_by_numbers x = let one = one_parent x in grind (arith, nat_tests)
