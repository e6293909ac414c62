-- Boxes over eight bands of values 0 to 1023: a depth from 0 to 80, and a corner in each band. Assumes nothing.
--   every p n     all numbers below n pass p
--   halved t b    how often band b has been halved at depth t
--   side t b      how many values a box of depth t covers in band b
--   spans k b x   the box k covers the value x in band b
--   covers k v    it covers the values v in all eight bands
--   cut t         the band that halving a box of depth t cuts
--   lower, upper  the two halves of a box
--   Alike j k     two boxes of the same depth and corner
--   Inside j k    the box j lies in the box k and is deeper
--   is_on_grid k     the depth is at most 80, and each corner below 1024 and a multiple of the side
--   Grid k        the same, with what the box covers below 1024
use Rattle.std.specs.Prelude.{◌≡◌, ℕ, zero, suc, ◌+◌, ◌-◌, ◌/◌, ◌%◌, ◌^◌, ◌<◌, ◌≤◌, Bool, true, cond, ◌&&◌, ◌==◌, nat_le, nat_lt}

abbrev pub every : (ℕ → Bool) → ℕ → Bool
every p zero = true
every p (suc n) = p n && every p n

unfoldable pub halved : ℕ → ℕ → ℕ
halved t b = (t + (7 - b)) / 8

unfoldable pub side : ℕ → ℕ → ℕ
side t b = 1024 / 2 ^ halved t b

-- the corner is the lowest value in each band
pub record Box : Type 0 where
  pub depth : ℕ
  pub corner : ℕ → ℕ

unfoldable pub spans : Box → ℕ → ℕ → Bool
spans k b x = nat_le (k.corner b) x && nat_lt x (k.corner b + side k.depth b)

unfoldable pub covers : Box → (ℕ → ℕ) → Bool
covers k v = every (λ b. spans k b (v b)) 8

abbrev pub cut : ℕ → ℕ
cut t = t % 8

unfoldable pub lower : Box → Box
lower k = record { depth = suc k.depth; corner = k.corner }

unfoldable pub upper : Box → Box
upper k = record { depth = suc k.depth; corner = λ b. k.corner b + cond (b == cut k.depth) (side (suc k.depth) b) 0 }

-- two boxes of the same depth and corner
abbrev pub Alike : Box → Box → Type 0
Alike j k = (j.depth ≡ k.depth) × ((b : ℕ) → b < 8 → j.corner b ≡ k.corner b)

abbrev pub Inside : Box → Box → Type 0
Inside j k = (k.depth < j.depth) × ((b : ℕ) → b < 8 → (k.corner b ≤ j.corner b) × (j.corner b + side j.depth b ≤ k.corner b + side k.depth b))

abbrev pub Grid : Box → Type 0
Grid k = (k.depth ≤ 80) × ((b : ℕ) → b < 8 → (k.corner b + side k.depth b ≤ 1024) × (k.corner b % side k.depth b ≡ 0))

-- a box of depth t may begin at the value x in band b
abbrev pub on_step : ℕ → ℕ → ℕ → Bool
on_step t b x = nat_lt x 1024 && x % side t b == 0

unfoldable pub is_on_grid : Box → Bool
is_on_grid k = nat_le k.depth 80 && every (λ b. on_step k.depth b (k.corner b)) 8

-- the box of all readings
abbrev pub everything : Box
everything = record { depth = 0; corner = λ b. 0 }
