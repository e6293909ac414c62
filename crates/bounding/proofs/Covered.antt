-- What a box covers weighs no less than its near bound and no more than its far one. Assumes nothing.
use Rattle.std.proofs.Common.{◌≡◌, ℕ, zero, suc, ◌+◌, ◌-◌, ◌<◌, ◌≤◌, List, get_or, ap, arith}
use Rattle.measure.specs.Weight.{apart, gap_at, join_to}
use Rattle.measure.proofs.Joins.{monotone}
use Rattle.trees.specs.Boxes.{Box, side}
use Rattle.trees.proofs.Boxed.{covers_at}
use Rattle.bounding.specs.Distances.{gap_to, reach_to, near_gap, far_gap, Between}

-- joined weights depend on the gaps of the eight bands alone
pub join_ext : (w j : ℕ → ℕ → ℕ) (g h : ℕ → ℕ) (n : ℕ) → ((b : ℕ) → b ≤ n → g b ≡ h b) → join_to w j g n ≡ join_to w j h n
unfolding join_to
join_ext w j g h zero e = ap (w 0) (e 0 (omega arith))
join_ext w j g h (suc n) e =
    let i = join_ext w j g h n (λ b l. e b (omega arith)) in
    let k = ap (w (suc n)) (e (suc n) (omega arith)) in
    cc

-- f and s are the corner and the side, x a value that the box covers, r the reading's
near_least : (f s x r : ℕ) → f ≤ x → x < f + s → gap_to f (f + (s - 1)) r ≤ apart x r
unfolding gap_to
near_least f s x r a b = omega arith

far_most : (f s x r : ℕ) → f ≤ x → x < f + s → apart x r ≤ reach_to f (f + (s - 1)) r
unfolding reach_to
far_most f s x r a b = omega arith

module _ (w j : ℕ → ℕ → ℕ) (weigh_rises : (b g h : ℕ) → g ≤ h → w b g ≤ w b h)
    (join_rises : (u v s t : ℕ) → u ≤ s → v ≤ t → j u v ≤ j s t) (k : Box) (r : List ℕ) where
  pub covered_between : Between w j k r
  covered_between v h =
      let rises = monotone w j weigh_rises join_rises in (
        rises (near_gap k r) (gap_at v r) (λ b l. let c = covers_at k (λ b. get_or v b 0) h b l in near_least (k.corner b) (side k.depth b) (get_or v b 0) (get_or r b 0) c.0 c.1),
        rises (gap_at v r) (far_gap k r) (λ b l. let c = covers_at k (λ b. get_or v b 0) h b l in far_most (k.corner b) (side k.depth b) (get_or v b 0) (get_or r b 0) c.0 c.1),
      )
