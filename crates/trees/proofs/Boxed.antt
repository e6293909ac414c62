-- What the sides of boxes are, and that the halves of a box cover what it covers, and nothing twice. Assumes nothing.
use Rattle.std.proofs.Common.{◌≡◌, ℕ, zero, suc, ◌+◌, ◌-◌, ◌*◌, ◌/◌, ◌^◌, ◌<◌, ◌≤◌, Bool, true, false, cond, eqb, ltb, refl, ap, arith}
use Rattle.ranking.specs.Counts.{bit}
use Rattle.trees.specs.Boxes.{every, halved, side, Box, spans, covers, cut, lower, upper, Inside}

pub every_at : (p : ℕ → Bool) (n b : ℕ) → every p n ≡ true → b < n → p b ≡ true
every_at p zero b h l = absurd (omega arith)
every_at p (suc n) b h l = let i = every_at p n b in grind arith

pub every_all : (p : ℕ → Bool) (n : ℕ) → ((b : ℕ) → b < n → p b ≡ true) → every p n ≡ true
every_all p zero h = refl
every_all p (suc n) h = let a = h n (omega arith) in let i = every_all p n (λ b l. h b (omega arith)) in grind arith

-- one more halving of the band that is cut, and none of the others
pub halved_cut : (t : ℕ) → halved (suc t) (cut t) ≡ suc (halved t (cut t))
unfolding halved
halved_cut t = omega arith

pub halved_same : (t b : ℕ) → b < 8 → (b ≡ cut t → ⊥) → halved (suc t) b ≡ halved t b
unfolding halved
halved_same t b l h = omega arith

pub halved_le : (t b : ℕ) → t ≤ 80 → b < 8 → halved t b ≤ 10
unfolding halved
halved_le t b h l = omega arith

pub halved_cut_lt : (t : ℕ) → t < 80 → halved t (cut t) < 10
unfolding halved
halved_cut_lt t h = omega arith

halves : ℕ → Bool
halves h = eqb (1024 / 2 ^ h) (2 * (1024 / 2 ^ suc h))

halves_at : (h : ℕ) → h < 10 → 1024 / 2 ^ h ≡ 2 * (1024 / 2 ^ suc h)
unfolding halves
halves_at h l = let a = every_at halves 10 h refl l in grind arith

pub side_cut : (t : ℕ) → t < 80 → side t (cut t) ≡ 2 * side (suc t) (cut t)
unfolding side
side_cut t h = let a = halved_cut t in let b = halves_at (halved t (cut t)) (halved_cut_lt t h) in grind arith

pub side_same : (t b : ℕ) → b < 8 → (b ≡ cut t → ⊥) → side (suc t) b ≡ side t b
unfolding side
side_same t b l h = ap (λ (k : ℕ). 1024 / 2 ^ k) (halved_same t b l h)

positive : ℕ → Bool
positive h = ltb 0 (1024 / 2 ^ h)

pub side_pos : (t b : ℕ) → t ≤ 80 → b < 8 → 0 < side t b
unfolding side positive
side_pos t b h l = let a = every_at positive 11 (halved t b) refl (let i = halved_le t b h l in omega arith) in grind arith

-- the tests, as facts on numbers
pub spans_says : (k : Box) (b x : ℕ) → spans k b x ≡ true → (k.corner b ≤ x) × (x < k.corner b + side k.depth b)
unfolding spans
spans_says k b x h = (grind arith, grind arith)

pub spans_from : (k : Box) (b x : ℕ) → k.corner b ≤ x → x < k.corner b + side k.depth b → spans k b x ≡ true
unfolding spans
spans_from k b x l r = grind arith

pub covers_spans : (k : Box) (v : ℕ → ℕ) → covers k v ≡ true → (b : ℕ) → b < 8 → spans k b (v b) ≡ true
unfolding covers
covers_spans k v h b l = every_at (λ b. spans k b (v b)) 8 b h l

pub covers_at : (k : Box) (v : ℕ → ℕ) → covers k v ≡ true → (b : ℕ) → b < 8 → (k.corner b ≤ v b) × (v b < k.corner b + side k.depth b)
covers_at k v h b l = spans_says k b (v b) (covers_spans k v h b l)

pub covers_all : (k : Box) (v : ℕ → ℕ) → ((b : ℕ) → b < 8 → (k.corner b ≤ v b) × (v b < k.corner b + side k.depth b)) → covers k v ≡ true
unfolding covers
covers_all k v h = every_all (λ b. spans k b (v b)) 8 (λ b l. spans_from k b (v b) (h b l).0 (h b l).1)

-- what a box inside covers, the box covers
pub inside_covers : (j k : Box) (v : ℕ → ℕ) → Inside j k → covers j v ≡ true → covers k v ≡ true
inside_covers j k v i h = covers_all k v (λ b l. let a = covers_at j v h b l in let c = i.1 b l in (omega arith, omega arith))

-- the sides of a half in each band
pub side_next : (t b : ℕ) → t < 80 → b < 8 → side t b ≡ side (suc t) b + cond (eqb b (cut t)) (side (suc t) b) 0
side_next t b h l = go (eqb b (cut t)) refl
  where
    go : (e : Bool) → eqb b (cut t) ≡ e → side t b ≡ side (suc t) b + cond e (side (suc t) b) 0
    go true e = let i : b ≡ cut t = grind arith in let s = side_cut t h in let u : side t b ≡ 2 * side (suc t) b = rw i s in omega arith
    go false e = let s = side_same t b l (λ i. grind arith) in omega arith

pub lower_inside : (k : Box) → k.depth < 80 → Inside (lower k) k
unfolding lower
lower_inside k h = (omega arith, λ b l. let s = side_next k.depth b h l in (omega arith, omega arith))

pub upper_inside : (k : Box) → k.depth < 80 → Inside (upper k) k
unfolding upper
upper_inside k h = (omega arith, λ b l. let s = side_next k.depth b h l in (omega arith, omega arith))

-- the lower half has what lies below the middle of the band that is cut, the upper half the rest
middle : Box → ℕ
middle k = k.corner (cut k.depth) + side (suc k.depth) (cut k.depth)

lower_says : (k : Box) (v : ℕ → ℕ) → covers (lower k) v ≡ true → v (cut k.depth) < middle k
unfolding middle lower
lower_says k v h = (covers_at (lower k) v h (cut k.depth) (omega arith)).1

lower_from : (k : Box) (v : ℕ → ℕ) → k.depth < 80 → covers k v ≡ true → v (cut k.depth) < middle k → covers (lower k) v ≡ true
unfolding middle lower
lower_from k v h c l = covers_all (lower k) v (λ b m. let a = covers_at k v c b m in let s = side_next k.depth b h m in go b m a s (eqb b (cut k.depth)) refl)
  where
    go : (b : ℕ) → b < 8 → (k.corner b ≤ v b) × (v b < k.corner b + side k.depth b) → side k.depth b ≡ side (suc k.depth) b + cond (eqb b (cut k.depth)) (side (suc k.depth) b) 0 →
        (e : Bool) → eqb b (cut k.depth) ≡ e → (k.corner b ≤ v b) × (v b < k.corner b + side (suc k.depth) b)
    go b m a s true e = let i : b ≡ cut k.depth = grind arith in (a.0, rw i l)
    go b m a s false e = (a.0, grind arith)

upper_says : (k : Box) (v : ℕ → ℕ) → covers (upper k) v ≡ true → middle k ≤ v (cut k.depth)
unfolding middle upper
upper_says k v h = let a = covers_at (upper k) v h (cut k.depth) (omega arith) in grind arith

upper_from : (k : Box) (v : ℕ → ℕ) → k.depth < 80 → covers k v ≡ true → middle k ≤ v (cut k.depth) → covers (upper k) v ≡ true
unfolding middle upper
upper_from k v h c l = covers_all (upper k) v (λ b m. let a = covers_at k v c b m in let s = side_next k.depth b h m in go b a s (eqb b (cut k.depth)) refl)
  where
    go : (b : ℕ) → (k.corner b ≤ v b) × (v b < k.corner b + side k.depth b) → side k.depth b ≡ side (suc k.depth) b + cond (eqb b (cut k.depth)) (side (suc k.depth) b) 0 →
        (e : Bool) → eqb b (cut k.depth) ≡ e → (k.corner b + cond e (side (suc k.depth) b) 0 ≤ v b) × (v b < (k.corner b + cond e (side (suc k.depth) b) 0) + side (suc k.depth) b)
    go b a s true e = let i : b ≡ cut k.depth = grind arith in (rw i l, grind arith)
    go b a s false e = (grind arith, grind arith)

-- the halves cover what the box covers, and nothing twice
pub halves_cover : (k : Box) (v : ℕ → ℕ) → k.depth < 80 → bit (covers k v) ≡ bit (covers (lower k) v) + bit (covers (upper k) v)
halves_cover k v h =
    let a = lower_says k v in
    let b = lower_from k v h in
    let c = upper_says k v in
    let d = upper_from k v h in
    let e = inside_covers (lower k) k v (lower_inside k h) in
    let f = inside_covers (upper k) k v (upper_inside k h) in
    grind arith

pub side_zero : (b : ℕ) → b < 8 → side 0 b ≡ 1024
unfolding side halved
side_zero b l = let e : (0 + (7 - b)) / 8 ≡ 0 = omega arith in ap (λ (k : ℕ). 1024 / 2 ^ k) e

pub side_deepest : (b : ℕ) → b < 8 → side 80 b ≡ 1
unfolding side halved
side_deepest b l = let e : (80 + (7 - b)) / 8 ≡ 10 = omega arith in ap (λ (k : ℕ). 1024 / 2 ^ k) e

-- a box covers what it spans in each band
pub covers_from : (k : Box) (v : ℕ → ℕ) → ((b : ℕ) → b < 8 → spans k b (v b) ≡ true) → covers k v ≡ true
unfolding covers
covers_from k v h = every_all (λ b. spans k b (v b)) 8 h

pub covers_not : (k : Box) (v : ℕ → ℕ) (b : ℕ) → b < 8 → spans k b (v b) ≡ false → covers k v ≡ false
covers_not k v b l h = let a : covers k v ≡ true → spans k b (v b) ≡ true = λ c. covers_spans k v c b l in grind arith

pub funext : (f g : ℕ → ℕ) → ((b : ℕ) → f b ≡ g b) → f ≡ g
funext f g h = λ i b. h b i
