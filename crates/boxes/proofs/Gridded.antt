-- A depth and a corner that are on the grid, and the boxes that they make. Assumes nothing.
use Rattle.std.proofs.Common.{◌≡◌, ℕ, ◌+◌, ◌/◌, ◌%◌, ◌^◌, ◌<◌, ◌≤◌, Bool, true, false, eqb, List, get_or, sym, refl, ap, ◌∙◌, subst, arith}
use Prim.Native.Nat.{◌∣◌}
use native.Mathlib.Nat.{dvd-sub, le_of_dvd, dvd_of_mod-eq-zero}
use Rattle.trees.specs.Boxes.{side, halved, Box, lower, upper, Grid, on_step, is_on_grid}
use Rattle.trees.specs.Samples.{Samples}
use Rattle.trees.proofs.Boxed.{every_at, every_all, side_pos, side_deepest, halved_le}
use Rattle.trees.proofs.Drawn.{lower_grid, upper_grid}
use Rattle.boxes.specs.Grids.{gridded}
use Rattle.boxes.specs.Views.{entries, box_of}
use Rattle.boxes.specs.declared.bounds.Bounds.{Bounds}

-- a side divides the band
divides : ℕ → Bool
divides h = eqb (1024 % (1024 / 2 ^ h)) 0

side_divides : (t b : ℕ) → t ≤ 80 → b < 8 → side t b ∣ 1024
unfolding side divides
side_divides t b h l =
    let few = halved_le t b h l in
    let e = every_at divides 11 (halved t b) refl (omega arith) in
    let z : 1024 % (1024 / 2 ^ halved t b) ≡ 0 = grind arith in
    dvd_of_mod-eq-zero (1024 / 2 ^ halved t b) z

-- the next multiple of the side is no farther than the end of the band
next_multiple : (d x n : ℕ) → d ∣ x → d ∣ n → x < n → x + d ≤ n
next_multiple d x n p q l =
    let r = le_of_dvd (omega arith) (dvd-sub d q p) in
    omega arith

pub on_grid_depth : (t : ℕ) (l : List ℕ) → gridded t l ≡ true → t ≤ 80
unfolding is_on_grid
on_grid_depth t l h = grind arith

on_grid_step : (t : ℕ) (l : List ℕ) → gridded t l ≡ true → (b : ℕ) → b < 8 → on_step t b (get_or l b 0) ≡ true
unfolding is_on_grid
on_grid_step t l h b m = every_at (λ b. on_step t b (get_or l b 0)) 8 b (grind arith) m

pub grid_from : (t : ℕ) (l : List ℕ) → gridded t l ≡ true → Grid (record { depth = t; corner = entries l })
grid_from t l h =
    let d = on_grid_depth t l h in (
      d,
      λ b m.
          let s = on_grid_step t l h b m in
          let z : get_or l b 0 % side t b ≡ 0 = grind arith in
          (next_multiple (side t b) (get_or l b 0) 1024 (dvd_of_mod-eq-zero (side t b) z) (side_divides t b d m) (grind arith), z),
    )

pub on_grid_all : (t : ℕ) (l : List ℕ) → t ≤ 80 → ((b : ℕ) → b < 8 → on_step t b (get_or l b 0) ≡ true) → gridded t l ≡ true
unfolding is_on_grid
on_grid_all t l d h = let e = every_all (λ b. on_step t b (get_or l b 0)) 8 h in grind arith

pub on_grid_from : (t : ℕ) (l : List ℕ) → Grid (record { depth = t; corner = entries l }) → gridded t l ≡ true
on_grid_from t l g =
    on_grid_all t l g.0 (λ b m. let s = g.1 b m in let p = side_pos t b g.0 m in grind arith)

-- the halves of a box are on the grid
none : Samples
none = record { slots = 0; held = λ s. false; fibre = λ s. 0; value = λ s b. 0 }

pub on_grid_lower : (t : ℕ) (l : List ℕ) (k : Box) → ◌≡◌ {A = Box} (record { depth = t; corner = entries l }) (lower k) → k.depth < 80 → Grid k → gridded t l ≡ true
on_grid_lower t l k e d g = on_grid_from t l (subst (λ (j : Box). Grid j) (sym e) (lower_grid none k d g))

pub on_grid_upper : (t : ℕ) (l : List ℕ) (k : Box) → ◌≡◌ {A = Box} (record { depth = t; corner = entries l }) (upper k) → k.depth < 80 → Grid k → gridded t l ≡ true
on_grid_upper t l k e d g = on_grid_from t l (subst (λ (j : Box). Grid j) (sym e) (upper_grid none k d g))

-- the bounds of the program are on the grid
pub grid_of : (k : Bounds) → Grid (box_of k)
grid_of k = grid_from k.depth k.corner k.on_grid

-- the sides of the deepest boxes
pub deepest_side : (t b : ℕ) → t ≡ 80 → b < 8 → side t b ≡ 1
deepest_side t b e l = ap (λ d. side d b) e ∙ side_deepest b l
