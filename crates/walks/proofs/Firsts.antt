-- What depends only on who the first k are: their ranks, the k-th smallest value, and the verdict. Assumes nothing.
use Rattle.std.proofs.Common.{◌≡◌, ℕ, ◌<◌, Bool, true, sym, ap, ◌∙◌, arith}
use Rattle.std.proofs.lemmas.Bool.Decides.{nat_tests}
use Rattle.ranking.specs.Majority.{tally, leader}
use Rattle.ranking.specs.Ranks.{nearer, rank, first}
use Rattle.ranking.proofs.Counted.{count_ext}
use Rattle.ranking.proofs.Leading.{leader_same}
use Rattle.ranking.proofs.Ranked.{nearer_strict, first_rank}
use Rattle.walks.specs.Views.{kth}
use Rattle.walks.proofs.Same.{pick_ext, rank_ext}

module _ (p q : ℕ → Bool) (w : ℕ → ℕ) (n k : ℕ) (same : (s : ℕ) → s < n → first p (nearer w) n k s ≡ first q (nearer w) n k s) where
  pub first_ranks : (s : ℕ) → s < n → first p (nearer w) n k s ≡ true → rank p (nearer w) n s ≡ rank q (nearer w) n s
  first_ranks s l h =
      let a = first_rank (nearer w) (nearer_strict w) p n k s h in
      let b = first_rank (nearer w) (nearer_strict w) q n k s (sym (same s l) ∙ h) in
      let e = rank_ext (first p (nearer w) n k) (first q (nearer w) n k) n same (nearer w) s in
      omega arith

  pub first_kth : kth p w n k ≡ kth q w n k
  unfolding kth
  first_kth = ap w (pick_ext _ _ n (λ s l. let f = same s l in let r = first_ranks s l in grind (arith, nat_tests)))

  pub first_leader : (code : ℕ → ℕ) (m : ℕ) → leader (tally (first p (nearer w) n k) code n) m ≡ leader (tally (first q (nearer w) n k) code n) m
  first_leader code m = leader_same _ _ m (λ j _. count_ext _ _ n (λ s l. let f = same s l in grind arith))
