-- What a drop leaves stands where it stood, with the same low and high, and none of it lies beyond high. Assumes nothing.
use Rattle.std.proofs.Common.{◌≡◌, ℕ, zero, suc, ◌<◌, ◌≤◌, Bool, true, false, ◌&&◌, sym, refl, ap, ◌∙◌, arith}
use Rattle.std.specs.Prelude.{nat_le, nat_lt}
use Rattle.std.proofs.lemmas.Bool.Decides.{nat_tests}
use Rattle.ranking.specs.Counts.{count}
use Rattle.walks.specs.Scenes.{Scene, Fair}
use Rattle.walks.specs.Views.{low, high, active}
use Rattle.walks.specs.Walk.{Place, within, is_node, bound_at, view, dropping, opening, walk}
use Rattle.walks.proofs.Alike.{Alike, low_alike, high_alike}
use Rattle.walks.proofs.Moments.{kept, kept_enough, kept_low, kept_high}
use Rattle.walks.proofs.Walked.{Walked, bounded, dropping_entered, root_walked, opening_walked, walked}

module _ (c : Scene) (k : ℕ) where
  pub dropping_same : (p : ℕ → Place) (s : ℕ) → (kept (view c p) k).entered s ≡ true → dropping c k p s ≡ p s
  unfolding dropping
  dropping_same p s e = let a : nat_lt (high (view c p) k) ((view c p).near s) ≡ false = grind (arith, nat_tests) in grind arith

  pub dropping_alike : (p : ℕ → Place) → Alike (kept (view c p) k) (view c (dropping c k p))
  dropping_alike p = record {
    slots = refl;
    entered = λ s l. sym (dropping_entered c k p s);
    in_node = λ s l e. ap is_node (sym (dropping_same p s e));
    near = λ s l e. ap (λ q. bound_at c.near c.weight q s) (sym (dropping_same p s e));
    far = λ s l e. ap (λ q. bound_at c.far c.weight q s) (sym (dropping_same p s e));
    weight = λ s l e. refl;
    fibre = λ s l e. refl;
  }

  module _ (u : ℕ → ℕ → Bool) (fair : Fair c u) (positive : 0 < k) where
    pub dropping_low : (p : ℕ → Place) → Walked c u k p → low (view c (dropping c k p)) k ≡ low (view c p) k
    dropping_low p w =
        let b = bounded c u k fair p w in
        sym (low_alike (kept (view c p) k) (view c (dropping c k p)) (dropping_alike p) k positive (kept_enough (view c p) k b positive w.enough)) ∙ kept_low (view c p) k b positive w.enough

    pub dropping_high : (p : ℕ → Place) → Walked c u k p → high (view c (dropping c k p)) k ≡ high (view c p) k
    dropping_high p w =
        let b = bounded c u k fair p w in
        sym (high_alike (kept (view c p) k) (view c (dropping c k p)) (dropping_alike p) k positive (kept_enough (view c p) k b positive w.enough)) ∙ kept_high (view c p) k b positive w.enough

    dropping_near : (p : ℕ → Place) → Walked c u k p → (s : ℕ) → s < c.slots → (view c (dropping c k p)).entered s ≡ true → (view c (dropping c k p)).near s ≤ high (view c (dropping c k p)) k
    dropping_near p w s l e =
        let h = dropping_high p w in
        let t : (kept (view c p) k).entered s ≡ true = sym (dropping_entered c k p s) ∙ e in
        let n = (dropping_alike p).near s l t in
        grind (arith, nat_tests)

    module _ (many : k ≤ count c.held c.slots) where
      -- high drops what lies beyond it at once
      pub walked_near : (i s : ℕ) → s < c.slots → (view c (walk c k i)).entered s ≡ true → (view c (walk c k i)).near s ≤ high (view c (walk c k i)) k
      unfolding walk
      walked_near zero = dropping_near (λ s. within 0) (root_walked c u k fair positive many)
      walked_near (suc i) = dropping_near (opening c k (walk c k i)) (opening_walked c u k fair (walk c k i) (walked c u k fair positive many i))

      -- so what is entered is active where it is not inside
      pub walked_active : (i s : ℕ) → s < c.slots → active (view c (walk c k i)) k s ≡ ((view c (walk c k i)).entered s && nat_le (low (view c (walk c k i)) k) ((view c (walk c k i)).far s))
      walked_active i s l = let n = walked_near i s l in grind (arith, nat_tests)
