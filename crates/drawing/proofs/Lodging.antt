-- What the run of a box says of the samples in the box and in its halves. Assumes nothing.
use Rattle.std.proofs.Common.{◌≡◌, ℕ, suc, ◌+◌, ◌-◌, ◌<◌, ◌≤◌, true, false, not, ◌&&◌, eqb, ltb, List, ◌++◌, length, take, drop, sym, ap, ◌∙◌, subst, arith}
use Rattle.std.proofs.lemmas.List.{take_at, drop_at}
use Rattle.std.proofs.lemmas.Bool.{ltb-true}
use Rattle.ranking.specs.Counts.{bit}
use Rattle.ranking.proofs.Counted.{count_ext, none_counted}
use Rattle.boxes.specs.Views.{Halved}
use Rattle.trees.specs.Boxes.{Box, lower, upper}
use Rattle.trees.specs.Drawing.{lodged, many, both, core, of_fibre}
use Rattle.trees.specs.Samples.{Samples}
use Rattle.trees.proofs.Boxed.{halves_cover}
use Rattle.trees.proofs.Drawn.{halves_many, core_same, core_here, core_low, core_high}
use Rattle.drawing.specs.Runs.{Run, Parted, lodging, of_code}
use Rattle.drawing.proofs.Parting.{front_counts, rest_counts}
use Rattle.drawing.proofs.Running.{holds_length}

module _ (a : Samples) where
  halves_lodged : (k : Box) → k.depth < 80 → (s : ℕ) → bit (lodged a k s) ≡ bit (lodged a (lower k) s) + bit (lodged a (upper k) s)
  unfolding lodged
  halves_lodged k d s = let c = halves_cover k (a.value s) d in grind arith

  lodged_held : (k : Box) (s : ℕ) → lodged a k s ≡ true → a.held s ≡ true
  unfolding lodged
  lodged_held k s h = grind arith

  none_above : (k : Box) → many a (upper k) ≡ 0 → both a k ≡ false
  unfolding both
  none_above k z = grind arith

  none_below : (k : Box) → many a (lower k) ≡ 0 → both a k ≡ false
  unfolding both
  none_below k z = grind arith

  -- a run of one box is a run of any other that holds the same samples
  pub run_same : (j k : Box) (xs : List ℕ) → ((s : ℕ) → s < a.slots → lodged a j s ≡ lodged a k s) → Run a k xs → Run a j xs
  run_same j k xs h r q =
      r q ∙ count_ext (λ s. lodged a k s && q s) (λ s. lodged a j s && q s) a.slots (λ s l. ap (λ b. b && q s) (sym (h s l)))

  module _ (k : Box) (xs : List ℕ) (r : Run a k xs) where
    pub run_length : length xs ≡ many a k
    run_length = holds_length (lodged a k) a.slots xs r

    pub run_code : (f : ℕ) → of_code a xs f ≡ of_fibre a k f
    unfolding of_fibre
    run_code f =
        r (λ s. a.held s && eqb (a.fibre s) f)
        ∙ count_ext _ _ a.slots (λ s l. let h = lodged_held k s in grind arith)

    pub run_core : k.depth < 80 → Run a (core a k) xs
    run_core d = run_same (core a k) k xs (core_same a k d) r

    module _ (d : k.depth < 80) where
      pub run_lodging : lodging a (lower k) xs ≡ many a (lower k)
      run_lodging = r (lodged a (lower k)) ∙ count_ext _ _ a.slots (λ s l. let h = halves_lodged k d s in grind arith)

      -- the two parts of a run
      module _ (ys : List ℕ) (m : ℕ) (p : Parted (lodged a (lower k)) xs ys m) where
        pub run_lower : Run a (lower k) (take m ys)
        run_lower q =
            front_counts (lodged a (lower k)) xs ys m p q
            ∙ (r (λ s. lodged a (lower k) s && q s)
            ∙ count_ext (λ s. lodged a k s && (lodged a (lower k) s && q s)) (λ s. lodged a (lower k) s && q s) a.slots (λ s l. let h = halves_lodged k d s in grind arith))

        pub run_upper : Run a (upper k) (drop m ys)
        run_upper q =
            rest_counts (lodged a (lower k)) xs ys m p q
            ∙ (r (λ s. not (lodged a (lower k) s) && q s)
            ∙ count_ext (λ s. lodged a k s && (not (lodged a (lower k) s) && q s)) (λ s. lodged a (upper k) s && q s) a.slots (λ s l. let h = halves_lodged k d s in grind arith))

      -- a half that has them all
      all_lower : many a (upper k) ≡ 0 → Run a (lower k) xs
      all_lower e = run_same (lower k) k xs (λ s l. let h = halves_lodged k d s in let n = none_counted (lodged a (upper k)) a.slots s e l in grind arith) r

      all_upper : many a (lower k) ≡ 0 → Run a (upper k) xs
      all_upper e = run_same (upper k) k xs (λ s l. let h = halves_lodged k d s in let n = none_counted (lodged a (lower k)) a.slots s e l in grind arith) r

      -- what the number below tells
      module _ (n : ℕ) (e : n ≡ lodging a (lower k) xs) where
        below_many : (n ≡ many a (lower k)) × (length xs ≡ n + many a (upper k))
        below_many =
            let x : n ≡ many a (lower k) = e ∙ run_lodging in
            let y = run_length in
            let z = halves_many a k d in
            (x, omega arith)

        pub below_both : 0 < n → n < length xs → both a k ≡ true
        unfolding both
        below_both l m = let x = below_many in grind arith

        pub below_low : 0 < n → length xs ≤ n → Run a (lower k) xs × (core a k ≡ core a (lower k))
        below_low l m =
            let x = below_many in
            let z : many a (upper k) ≡ 0 = omega arith in
            let t : ltb 0 (many a (lower k)) ≡ true = grind arith in
            (all_lower z, core_low a k d (none_above k z) t)

        pub below_high : n ≡ 0 → Run a (upper k) xs × (core a k ≡ core a (upper k))
        below_high l =
            let x = below_many in
            let z : many a (lower k) ≡ 0 = omega arith in
            let t : ltb 0 (many a (lower k)) ≡ false = grind arith in
            (all_upper z, core_high a k d (none_below k z) t)

-- the same for halves that the program made
module _ (a : Samples) (k l u : Box) (h : Halved k l u) (t : true ≡ ltb k.depth 80) (xs : List ℕ) (r : Run a k xs) where
  pub halves_depth : k.depth < 80
  halves_depth = ltb-true k.depth 80 (sym t)

  pub halves_deeper : (l.depth ≡ suc k.depth) × (u.depth ≡ suc k.depth)
  unfolding lower upper
  halves_deeper = (ap (λ (j : Box). j.depth) h.low, ap (λ (j : Box). j.depth) h.high)

  -- fewer halvings are left in either half
  pub halves_smaller : (80 - l.depth < 80 - k.depth) × (80 - u.depth < 80 - k.depth)
  halves_smaller = let d = halves_depth in let m = halves_deeper in (omega arith, omega arith)

  module _ (n : ℕ) (e : n ≡ lodging a l xs) where
    is_below : n ≡ lodging a (lower k) xs
    is_below = e ∙ ap (λ (j : Box). lodging a j xs) h.low

    pub core_stays : 0 < n → n < length xs → core a k ≡ k
    core_stays p q = core_here a k halves_depth (below_both a k xs r halves_depth n is_below p q)

    pub core_goes_low : 0 < n → length xs ≤ n → Run a l xs × (core a l ≡ core a k)
    core_goes_low p q =
        let x = below_low a k xs r halves_depth n is_below p q in
        (subst (λ (j : Box). Run a j xs) (sym h.low) x.0, ap (core a) h.low ∙ sym x.1)

    pub core_goes_high : n ≡ 0 → Run a u xs × (core a u ≡ core a k)
    core_goes_high p =
        let x = below_high a k xs r halves_depth n is_below p in
        (subst (λ (j : Box). Run a j xs) (sym h.high) x.0, ap (core a) h.high ∙ sym x.1)

  -- the two parts of the run
  pub run_halves : (ys f b : List ℕ) (m : ℕ) → Parted (lodged a l) xs ys m → ys ≡ f ++ b → length f ≡ m → Run a l f × Run a u b
  run_halves ys f b m p e n =
      let q : Parted (lodged a (lower k)) xs ys m = subst (λ (j : Box). Parted (lodged a j) xs ys m) h.low p in
      let front : take m ys ≡ f = ap (take m) e ∙ take_at f b m n in
      let back : drop m ys ≡ b = ap (drop m) e ∙ drop_at f b m n in (
        subst (λ (j : Box). Run a j f) (sym h.low) (subst (Run a (lower k)) front (run_lower a k xs r halves_depth ys m q)),
        subst (λ (j : Box). Run a j b) (sym h.high) (subst (Run a (upper k)) back (run_upper a k xs r halves_depth ys m q)),
      )
