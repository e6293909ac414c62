-- The program's boxes, as the tree's: when two are the same, and what their halves are. Assumes nothing.
use Rattle.std.proofs.Common.{◌≡◌, ℕ, zero, suc, ◌+◌, ◌%◌, ◌<◌, Bool, true, false, cond, eqb, ◌≢◌, List, replicate, length, get_or, set, refl, ap, ◌∙◌, add-one, arith, get_or-set_other, get_or-set_same}
use Rattle.std.proofs.lemmas.Bool.Decides.{same_from_decides}
use Rattle.std.specs.Prelude.{Decides}
use Rattle.ranking.specs.Counts.{bit}
use Rattle.trees.specs.Boxes.{every, Box, side, covers, lower, upper, everything}
use Rattle.trees.proofs.Boxed.{every_at, every_all, funext, halves_cover}
use Rattle.boxes.specs.Views.{entries, Halved}

-- what tells that all numbers below n pass a test
pub every_is : (p : ℕ → Bool) (n : ℕ) (r : Bool) → Decides r ((b : ℕ) → b < n → p b ≡ true) → r ≡ every p n
every_is p n r d = same_from_decides r (every p n) d (λ e b l. every_at p n b e l, every_all p n)

pub same_box : (t u : ℕ) (f g : ℕ → ℕ) → t ≡ u → f ≡ g → ◌≡◌ {A = Box} (record { depth = t; corner = f }) (record { depth = u; corner = g })
same_box t u f g p q = cc

abbrev pub zeros : List ℕ
zeros = replicate 8 0

pub zeros_at : (b : ℕ) → entries zeros b ≡ 0
zeros_at = go 8
  where
    go : (n b : ℕ) → entries (replicate n 0) b ≡ 0
    go zero b = refl
    go (suc n) zero = refl
    go (suc n) (suc b) = go n b

pub zeros_box : ◌≡◌ {A = Box} (record { depth = 0; corner = entries zeros }) everything
zeros_box = same_box 0 0 (entries zeros) (λ b. 0) refl (funext (entries zeros) (λ b. 0) zeros_at)

pub lower_is : (t : ℕ) (l : List ℕ) → ◌≡◌ {A = Box} (record { depth = t + 1; corner = entries l }) (lower (record { depth = t; corner = entries l }))
unfolding lower
lower_is t l = same_box (t + 1) (suc t) (entries l) (entries l) (omega arith) refl

set_more : (l : List ℕ) (i x b : ℕ) → i < length l → get_or (set l i (get_or l i 0 + x)) b 0 ≡ get_or l b 0 + cond (eqb b i) x 0
set_more l i x b h = go (eqb b i) refl
  where
    go : (e : Bool) → eqb b i ≡ e → get_or (set l i (get_or l i 0 + x)) b 0 ≡ get_or l b 0 + cond e x 0
    go true e = let f : b ≡ i = grind arith in rw f (rw get_or-set_same refl)
    go false e = let f : b ≢ i = λ z. grind arith in rw get_or-set_other (omega arith)

pub upper_is : (t x : ℕ) (l : List ℕ) → t % 8 < length l → x ≡ side (t + 1) (t % 8) → ◌≡◌ {A = Box} (record { depth = t + 1; corner = entries (set l (t % 8) (get_or l (t % 8) 0 + x)) }) (upper (record { depth = t; corner = entries l }))
unfolding upper
upper_is t x l h e =
    same_box (t + 1) (suc t) _ _ (omega arith) (funext _ _ (λ b. set_more l (t % 8) x b h ∙ ap (λ (z : ℕ). get_or l b 0 + z) (go b (eqb b (t % 8)) refl)))
  where
    s : x ≡ side (suc t) (t % 8)
    s = rw add-one at e

    go : (b : ℕ) (c : Bool) → eqb b (t % 8) ≡ c → cond c x 0 ≡ cond c (side (suc t) b) 0
    go b true c = let f : b ≡ t % 8 = grind arith in rw f s
    go b false c = refl

pub halved_is : (k l u : Box) → k.depth < 80 → l ≡ lower k → u ≡ upper k → Halved k l u
halved_is k l u d p q = record {
  low = p;
  high = q;
  once = λ v. let h = halves_cover k v d in let x = ap (λ (j : Box). bit (covers j v)) p in let y = ap (λ (j : Box). bit (covers j v)) q in omega arith;
}
