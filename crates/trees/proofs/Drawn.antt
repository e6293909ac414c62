-- The drawn plan: its boxes are on the grid and lie in one another, and it has at most 4s - 3 nodes. Assumes nothing.
use Rattle.std.proofs.Common.{◌≡◌, ℕ, zero, suc, ◌+◌, ◌-◌, ◌*◌, ◌<◌, ◌≤◌, Bool, true, false, cond, eqb, ltb, ◌⊎◌, sym, refl, ap, ◌∙◌, inl, inr, ⊎_elim, arith}
use Prim.Native.Nat.{◌∣◌}
use native.Mathlib.Nat.{dvd_refl, dvd-zero, dvd-add, dvd_trans, mod-eq-zero_of_dvd, dvd_of_mod-eq-zero, zero-mod}
use Rattle.ranking.specs.Counts.{bit}
use Rattle.ranking.proofs.Counted.{count_ext, count_split, count_le, none_counted}
use Rattle.trees.specs.Boxes.{side, Box, covers, cut, lower, upper, Inside, Grid, everything}
use Rattle.trees.specs.Samples.{Samples, Valid}
use Rattle.trees.specs.Drawing.{Plan, stop, halve, focus, size, lodged, many, both, descend, deepest, few, core, boxed, draw, plan, rebuilt, Fits}
use Rattle.trees.proofs.Boxed.{covers_all, lower_inside, upper_inside, halves_cover, side_next, side_zero}

module _ (a : Samples) where
  halves_bit : (k : Box) → k.depth < 80 → (s : ℕ) → bit (lodged a k s) ≡ bit (lodged a (lower k) s) + bit (lodged a (upper k) s)
  unfolding lodged
  halves_bit k d s = let c = halves_cover k (a.value s) d in grind arith

  -- the samples of a box are those of its halves
  pub halves_many : (k : Box) → k.depth < 80 → many a k ≡ many a (lower k) + many a (upper k)
  halves_many k d = count_split (lodged a k) (lodged a (lower k)) (lodged a (upper k)) a.slots (λ s _. halves_bit k d s)

  -- j holds all the samples of k
  abbrev pub Same : Box → Box → Type 0
  Same j k = (s : ℕ) → s < a.slots → lodged a j s ≡ lodged a k s

  all_low : (k : Box) → k.depth < 80 → many a (upper k) ≡ 0 → Same (lower k) k
  all_low k d e s l = let b = halves_bit k d s in let n = none_counted (lodged a (upper k)) a.slots s e l in grind arith

  all_high : (k : Box) → k.depth < 80 → many a (lower k) ≡ 0 → Same (upper k) k
  all_high k d e s l = let b = halves_bit k d s in let n = none_counted (lodged a (lower k)) a.slots s e l in grind arith

  both_says : (k : Box) → both a k ≡ true → (0 < many a (lower k)) × (0 < many a (upper k))
  unfolding both
  both_says k h = (grind arith, grind arith)

  not_both : (k : Box) → both a k ≡ false → ltb 0 (many a (lower k)) ≡ true → many a (upper k) ≡ 0
  unfolding both
  not_both k h i = grind arith

  none_low : (k : Box) → ltb 0 (many a (lower k)) ≡ false → many a (lower k) ≡ 0
  none_low k i = grind arith

  lower_depth : (n : ℕ) (k : Box) → k.depth + suc n ≡ 80 → (lower k).depth + n ≡ 80
  unfolding lower
  lower_depth n k d = omega arith

  upper_depth : (n : ℕ) (k : Box) → k.depth + suc n ≡ 80 → (upper k).depth + n ≡ 80
  unfolding upper
  upper_depth n k d = omega arith

  -- what the descent keeps: it holds at k, and passes from a half that is taken
  descends : (P : Box → Box → Type 0) → ((k : Box) → P k k) →
      ((j k : Box) → k.depth < 80 → both a k ≡ false → Same (lower k) k → P j (lower k) → P j k) →
      ((j k : Box) → k.depth < 80 → both a k ≡ false → Same (upper k) k → P j (upper k) → P j k) →
      (n : ℕ) (k : Box) → k.depth + n ≡ 80 → P (deepest a n k) k
  unfolding deepest
  descends P r l u zero k d = r k
  descends P r l u (suc n) k d = go (both a k) (ltb 0 (many a (lower k))) refl refl (descends P r l u n (lower k) (lower_depth n k d)) (descends P r l u n (upper k) (upper_depth n k d))
    where
      go : (x y : Bool) → both a k ≡ x → ltb 0 (many a (lower k)) ≡ y → P (deepest a n (lower k)) (lower k) → P (deepest a n (upper k)) (upper k) → P (descend (deepest a n) k x y) k
      go true y e f i j = r k
      go false true e f i j = l (deepest a n (lower k)) k (omega arith) e (all_low k (omega arith) (not_both k e f)) i
      go false false e f i j = u (deepest a n (upper k)) k (omega arith) e (all_high k (omega arith) (none_low k f)) j

  -- the core holds all the samples
  pub core_same : (k : Box) → k.depth < 80 → Same (core a k) k
  unfolding core
  core_same k d = descends (λ j k. Same j k) (λ k s l. refl) (λ j k _ _ h i s l. i s l ∙ h s l) (λ j k _ _ h i s l. i s l ∙ h s l) (80 - k.depth) k (omega arith)

  -- and cannot be halved without parting them
  deepest_tight : (n : ℕ) (k : Box) → k.depth + n ≡ 80 → ((deepest a n k).depth ≡ 80) ⊎ (((deepest a n k).depth < 80) × (both a (deepest a n k) ≡ true))
  unfolding deepest
  deepest_tight zero k d = inl (omega arith)
  deepest_tight (suc n) k d = go (both a k) (ltb 0 (many a (lower k))) refl (deepest_tight n (lower k) (lower_depth n k d)) (deepest_tight n (upper k) (upper_depth n k d))
    where
      Tight : Box → Type 0
      Tight j = (j.depth ≡ 80) ⊎ ((j.depth < 80) × (both a j ≡ true))

      go : (x y : Bool) → both a k ≡ x → Tight (deepest a n (lower k)) → Tight (deepest a n (upper k)) → Tight (descend (deepest a n) k x y)
      go true y e i j = inr (omega arith, e)
      go false true e i j = i
      go false false e i j = j

  pub core_tight : (k : Box) → k.depth < 80 → ((core a k).depth ≡ 80) ⊎ (((core a k).depth < 80) × (both a (core a k) ≡ true))
  unfolding core
  core_tight k d = deepest_tight (80 - k.depth) k (omega arith)

  -- it is deeper where the box cannot be split
  pub core_inside : (k : Box) → k.depth < 80 → both a k ≡ false → Inside (core a k) k
  unfolding core deepest
  core_inside k d e = go (80 - k.depth) (omega arith)
    where
      go : (n : ℕ) → k.depth + n ≡ 80 → Inside (deepest a n k) k
      go zero f = absurd (omega arith)
      go (suc n) f = by (both a k) (ltb 0 (many a (lower k))) e (in_half n (lower k) (lower_depth n k f)) (in_half n (upper k) (upper_depth n k f))
        where
          Le : Box → Box → Type 0
          Le j k = (k.depth ≤ j.depth) × ((b : ℕ) → b < 8 → (k.corner b ≤ j.corner b) × (j.corner b + side j.depth b ≤ k.corner b + side k.depth b))

          onto : (i j k : Box) → Inside i k → Le j i → Inside j k
          onto i j k h g = (omega (arith, h.0, g.0), λ b l. let c = h.1 b l in let f = g.1 b l in (omega arith, omega arith))

          in_half : (n : ℕ) (k : Box) → k.depth + n ≡ 80 → Le (deepest a n k) k
          in_half = descends Le (λ k. (omega arith, λ b l. (omega arith, omega arith)))
              (λ j k d _ _ i. let o = onto (lower k) j k (lower_inside k d) i in (omega arith, o.1))
              (λ j k d _ _ i. let o = onto (upper k) j k (upper_inside k d) i in (omega arith, o.1))

          by : (x y : Bool) → x ≡ false → Le (deepest a n (lower k)) (lower k) → Le (deepest a n (upper k)) (upper k) → Inside (descend (deepest a n) k x y) k
          by true y g i j = absurd (grind arith)
          by false true g i j = onto (lower k) (deepest a n (lower k)) k (lower_inside k d) i
          by false false g i j = onto (upper k) (deepest a n (upper k)) k (upper_inside k d) j

  pub few_says : (k : Box) → few a k ≡ false → (4 < many a k) × (k.depth < 80)
  unfolding few
  few_says k h = (grind arith, grind arith)

  few_deep : (k : Box) → k.depth ≡ 80 → few a k ≡ true
  unfolding few
  few_deep k h = grind arith

  draw_deep : (n : ℕ) (k : Box) → k.depth ≡ 80 → draw a n k ≡ stop
  unfolding draw
  draw_deep zero k h = refl
  draw_deep (suc n) k h = let f = few_deep k h in rw f

  few_few : (k : Box) → many a k ≤ 4 → few a k ≡ true
  unfolding few
  few_few k h = grind arith

  pub draw_few : (n : ℕ) (k : Box) → many a k ≤ 4 → draw a (suc n) k ≡ stop
  unfolding draw
  draw_few n k h = let f = few_few k h in rw f

  -- four nodes to a sample, less three; less five where the box is split at once
  pub draw_size : (n : ℕ) (k : Box) → 0 < many a k →
      (size (draw a n k) + 3 ≤ 4 * many a k) × (k.depth < 80 → both a k ≡ true → size (draw a n k) + 5 ≤ 4 * many a k)
  unfolding draw
  draw_size zero k o = (omega arith, λ d h. let b = both_says k h in let c = halves_many k d in omega arith)
  draw_size (suc n) k o =
      go (few a k) (both a k) refl refl (draw_size n (lower k)) (draw_size n (upper k)) (draw_size n (core a k))
    where
      Bound : Box → Plan → Type 0
      Bound k t = (size t + 3 ≤ 4 * many a k) × (k.depth < 80 → both a k ≡ true → size t + 5 ≤ 4 * many a k)

      in_core : k.depth < 80 → 4 < many a k → (0 < many a (core a k) → Bound (core a k) (draw a n (core a k))) → size (draw a n (core a k)) + 5 ≤ 4 * many a k
      in_core d l i =
          let c = count_ext (lodged a (core a k)) (lodged a k) a.slots (core_same k d) in
          ⊎_elim
          (λ e. let s : size (draw a n (core a k)) ≡ 1 = ap size (draw_deep n (core a k) e) in omega arith)
          (λ e. let f = (i (omega arith)).1 e.0 e.1 in omega arith)
          (core_tight k d)

      go : (x y : Bool) → few a k ≡ x → both a k ≡ y → (0 < many a (lower k) → Bound (lower k) (draw a n (lower k))) → (0 < many a (upper k) → Bound (upper k) (draw a n (upper k))) →
          (0 < many a (core a k) → Bound (core a k) (draw a n (core a k))) → Bound k (boxed (draw a n) a k x y)
      go true y e f i j c = (omega arith, λ d h. let b = both_says k h in let u = halves_many k d in omega arith)
      go false true e f i j c =
          let s = few_says k e in
          let u = halves_many k s.1 in
          let b = both_says k f in
          let l = (i b.0).0 in
          let r = (j b.1).0 in
          (omega arith, λ d h. omega arith)
      go false false e f i j c =
          let s = few_says k e in
          let t = in_core s.1 s.0 c in
          (omega arith, λ d h. absurd (grind arith))

  cond_dvd : (d : ℕ) (c : Bool) → d ∣ cond c d 0
  cond_dvd d true = dvd_refl d
  cond_dvd d false = dvd-zero d

  next_dvd : (t b : ℕ) → t < 80 → b < 8 → side (suc t) b ∣ side t b
  next_dvd t b h l = rw (side_next t b h l) (dvd-add (side (suc t) b) (dvd_refl (side (suc t) b)) (cond_dvd (side (suc t) b) (eqb b (cut t))))

  pub lower_grid : (k : Box) → k.depth < 80 → Grid k → Grid (lower k)
  unfolding lower
  lower_grid k d g = (
    omega arith,
    λ b l.
        let s = side_next k.depth b d l in
        let c = g.1 b l in
        (omega arith, mod-eq-zero_of_dvd (side (suc k.depth) b) (dvd_trans (side (suc k.depth) b) (next_dvd k.depth b d l) (dvd_of_mod-eq-zero (side k.depth b) c.1))),
  )

  pub upper_grid : (k : Box) → k.depth < 80 → Grid k → Grid (upper k)
  unfolding upper
  upper_grid k d g = (
    omega arith,
    λ b l.
        let s = side_next k.depth b d l in
        let c = g.1 b l in
        (omega arith, mod-eq-zero_of_dvd (side (suc k.depth) b) (dvd-add (side (suc k.depth) b) (dvd_trans (side (suc k.depth) b) (next_dvd k.depth b d l) (dvd_of_mod-eq-zero (side k.depth b) c.1)) (cond_dvd (side (suc k.depth) b) (eqb b (cut k.depth))))),
  )

  deepest_grid : (n : ℕ) (k : Box) → k.depth + n ≡ 80 → Grid k → Grid (deepest a n k)
  deepest_grid = descends (λ j k. Grid k → Grid j) (λ k g. g) (λ j k d _ _ i g. i (lower_grid k d g)) (λ j k d _ _ i g. i (upper_grid k d g))

  pub core_grid : (k : Box) → k.depth < 80 → Grid k → Grid (core a k)
  unfolding core
  core_grid k d g = deepest_grid (80 - k.depth) k (omega arith) g

  -- the boxes of the drawn plan lie in one another
  pub draw_fits : (n : ℕ) (k : Box) → Grid k → Fits (draw a n k) k
  unfolding draw
  draw_fits zero k g = g
  draw_fits (suc n) k g =
      go (few a k) (both a k) refl refl (λ d. draw_fits n (lower k) (lower_grid k d g)) (λ d. draw_fits n (upper k) (upper_grid k d g)) (λ d. draw_fits n (core a k) (core_grid k d g))
    where
      go : (x y : Bool) → few a k ≡ x → both a k ≡ y → (k.depth < 80 → Fits (draw a n (lower k)) (lower k)) → (k.depth < 80 → Fits (draw a n (upper k)) (upper k)) →
          (k.depth < 80 → Fits (draw a n (core a k)) (core a k)) → Fits (boxed (draw a n) a k x y) k
      go true y e f i j c = g
      go false true e f i j c = let d = (few_says k e).1 in (g, d, i d, j d)
      go false false e f i j c = let d = (few_says k e).1 in (g, core_inside k d f, c d)

  pub everything_grid : Grid everything
  everything_grid = (omega arith, λ b l. let s = side_zero b l in (omega arith, zero-mod (side 0 b)))

  pub everything_covers : Valid a → (s : ℕ) → s < a.slots → a.held s ≡ true → covers everything (a.value s) ≡ true
  everything_covers ok s l h = covers_all everything (a.value s) (λ b m. let s' = side_zero b m in let v = (ok s l h).1 b m in (omega arith, omega arith))

  pub plan_size : (k : Box) → 0 < many a k → size (plan a k) + 3 ≤ 4 * many a k
  unfolding plan
  plan_size k o = (draw_size (80 - k.depth) k o).0

  -- no rebuild needs more than 1021 nodes
  pub rebuilt_size : a.slots ≤ 256 → size (rebuilt a) ≤ 1021
  rebuilt_size l = go (many a everything) refl (count_le (lodged a everything) a.slots)
    where
      go : (c : ℕ) → many a everything ≡ c → c ≤ a.slots → size (rebuilt a) ≤ 1021
      go zero e h = let f : size (rebuilt a) ≡ 1 = ap size (draw_few 79 everything (omega arith)) in omega arith
      go (suc c) e h = let b = (draw_size 80 everything (omega arith)).0 in omega arith

  lower_deep : (n : ℕ) (k : Box) → 80 ≤ k.depth + suc n → 80 ≤ (lower k).depth + n
  unfolding lower
  lower_deep n k d = omega arith

  upper_deep : (n : ℕ) (k : Box) → 80 ≤ k.depth + suc n → 80 ≤ (upper k).depth + n
  unfolding upper
  upper_deep n k d = omega arith

  draw_bottom : (n : ℕ) (k : Box) → 80 ≤ k.depth → draw a n k ≡ stop
  unfolding draw few
  draw_bottom zero k h = refl
  draw_bottom (suc n) k h = let f : few a k ≡ true = grind arith in rw f

  -- more halvings than there are change nothing
  pub draw_enough : (n m : ℕ) (k : Box) → 80 ≤ k.depth + n → 80 ≤ k.depth + m → draw a n k ≡ draw a m k
  unfolding draw
  draw_enough zero m k h i = sym (draw_bottom m k (omega arith))
  draw_enough (suc n) zero k h i = draw_bottom (suc n) k (omega arith)
  draw_enough (suc n) (suc m) k h i = go (few a k) (both a k) refl refl (draw_enough n m (lower k) (lower_deep n k h) (lower_deep m k i)) (draw_enough n m (upper k) (upper_deep n k h) (upper_deep m k i)) (draw_enough n m (core a k))
    where
      go : (x y : Bool) → few a k ≡ x → both a k ≡ y → draw a n (lower k) ≡ draw a m (lower k) → draw a n (upper k) ≡ draw a m (upper k) →
          (80 ≤ (core a k).depth + n → 80 ≤ (core a k).depth + m → draw a n (core a k) ≡ draw a m (core a k)) → boxed (draw a n) a k x y ≡ boxed (draw a m) a k x y
      go true y e f l u c = refl
      go false true e f l u c = cc
      go false false e f l u c = let d = (core_inside k (few_says k e).1 f).0 in let z = c (omega arith) (omega arith) in cc

  -- the plan of a box, by its three cases
  pub plan_stop : (k : Box) → few a k ≡ true → plan a k ≡ stop
  unfolding plan draw
  plan_stop k h = go (80 - k.depth)
    where
      go : (n : ℕ) → draw a n k ≡ stop
      go zero = refl
      go (suc n) = rw h

  plan_at : (n : ℕ) (k : Box) → 80 ≤ k.depth + n → draw a n k ≡ plan a k
  unfolding plan
  plan_at n k h = draw_enough n (80 - k.depth) k h (omega arith)

  plan_next : (n : ℕ) (k : Box) → few a k ≡ false → (b : Bool) → both a k ≡ b → draw a (suc n) k ≡ boxed (draw a n) a k false b
  unfolding draw
  plan_next n k f b e = rw f (rw e)

  pub plan_halve : (k : Box) → few a k ≡ false → both a k ≡ true → plan a k ≡ halve (plan a (lower k)) (plan a (upper k))
  plan_halve k f e =
      let d = few_says k f in
      let x = plan_next (79 - k.depth) k f true e in
      let y = plan_at (79 - k.depth) (lower k) (lower_deep (79 - k.depth) k (omega arith)) in
      let z = plan_at (79 - k.depth) (upper k) (upper_deep (79 - k.depth) k (omega arith)) in
      let w = plan_at (suc (79 - k.depth)) k (omega arith) in
      cc

  pub plan_focus : (k : Box) → few a k ≡ false → both a k ≡ false → plan a k ≡ focus (core a k) (plan a (core a k))
  plan_focus k f e =
      let d = few_says k f in
      let i = (core_inside k d.1 e).0 in
      let x = plan_next (79 - k.depth) k f false e in
      let y = plan_at (79 - k.depth) (core a k) (omega arith) in
      let w = plan_at (suc (79 - k.depth)) k (omega arith) in
      cc

  -- the core, by its three cases
  core_at : (n : ℕ) (k : Box) → k.depth + n ≡ 80 → deepest a n k ≡ core a k
  unfolding core
  core_at n k h = let e : n ≡ 80 - k.depth = omega arith in ap (λ (m : ℕ). deepest a m k) e

  core_next : (n : ℕ) (k : Box) (b c : Bool) → both a k ≡ b → ltb 0 (many a (lower k)) ≡ c → deepest a (suc n) k ≡ descend (deepest a n) k b c
  unfolding deepest
  core_next n k b c e f = rw e (rw f)

  pub core_stop : (k : Box) → k.depth ≡ 80 → core a k ≡ k
  unfolding deepest
  core_stop k h = sym (core_at 0 k (omega arith))

  pub core_here : (k : Box) → k.depth < 80 → both a k ≡ true → core a k ≡ k
  core_here k h e = sym (core_at (suc (79 - k.depth)) k (omega arith)) ∙ core_next (79 - k.depth) k true _ e refl

  pub core_low : (k : Box) → k.depth < 80 → both a k ≡ false → ltb 0 (many a (lower k)) ≡ true → core a k ≡ core a (lower k)
  core_low k h e f = sym (core_at (suc (79 - k.depth)) k (omega arith)) ∙ (core_next (79 - k.depth) k false true e f ∙ core_at (79 - k.depth) (lower k) (lower_depth (79 - k.depth) k (omega arith)))

  pub core_high : (k : Box) → k.depth < 80 → both a k ≡ false → ltb 0 (many a (lower k)) ≡ false → core a k ≡ core a (upper k)
  core_high k h e f = sym (core_at (suc (79 - k.depth)) k (omega arith)) ∙ (core_next (79 - k.depth) k false false e f ∙ core_at (79 - k.depth) (upper k) (upper_depth (79 - k.depth) k (omega arith)))
