-- The counts of a numbered plan are right. Assumes nothing.
use Rattle.std.proofs.Common.{◌≡◌, ℕ, zero, suc, ◌+◌, ◌<◌, ◌≤◌, Bool, true, false, not, ◌&&◌, ltb, leb, sym, refl, ap, ◌∙◌, subst, arith}
use Rattle.ranking.specs.Counts.{count}
use Rattle.ranking.proofs.Counted.{count_ext, count_none}
use Rattle.trees.specs.Boxes.{Box, covers, lower, upper, Alike, everything}
use Rattle.trees.specs.Trees.{Node, parts, Rules, under}
use Rattle.trees.specs.Samples.{Samples, Valid, lies, Right}
use Rattle.trees.specs.Drawing.{Plan, stop, halve, focus, size, lodged, both, few, core, boxed, draw, Numbered, of_fibre, Tallied}
use Rattle.trees.proofs.Boxed.{halves_cover}
use Rattle.trees.proofs.Pathed.{child, first_named, second_named, next_first, next_second, alike_covers, under_root}
use Rattle.trees.proofs.Drawn.{Same, core_same, few_says, everything_covers}
use Rattle.trees.proofs.Numbering.{alike_sym}

-- a core holds all the samples of its box
abbrev pub Holds : Samples → Plan → Box → Type 0
Holds a stop k = Unit {0}
Holds a (halve l r) k = (k.depth < 80) × Holds a l (lower k) × Holds a r (upper k)
Holds a (focus j c) k = Same a j k × Holds a c j

pub draw_holds : (a : Samples) (n : ℕ) (k : Box) → Holds a (draw a n k) k
unfolding draw
draw_holds a zero k = tt
draw_holds a (suc n) k = go (few a k) (both a k) refl (draw_holds a n (lower k)) (draw_holds a n (upper k)) (draw_holds a n (core a k))
  where
    go : (x y : Bool) → few a k ≡ x → Holds a (draw a n (lower k)) (lower k) → Holds a (draw a n (upper k)) (upper k) → Holds a (draw a n (core a k)) (core a k) → Holds a (boxed (draw a n) a k x y) k
    go true y e i j c = tt
    go false true e i j c = ((few_says a k e).1, i, j)
    go false false e i j c = (core_same a k (few_says a k e).1, c)

module _ (m : ℕ) (node : ℕ → Node) (rules : Rules m node) (a : Samples) where
  -- the samples in box k are those below node n
  abbrev Set : ℕ → Box → Type 0
  Set n k = (s : ℕ) → s < a.slots → lodged a k s ≡ (a.held s && under node (a.value s) n)

  set_count : (n : ℕ) (k : Box) → Set n k → (f : ℕ) → of_fibre a k f ≡ count (lies node a n f) a.slots
  unfolding of_fibre lies
  set_count n k e f = count_ext _ _ a.slots (λ s l. let i = e s l in grind arith)

  alike_same : (v : ℕ → ℕ) (j k : Box) → Alike j k → covers j v ≡ covers k v
  alike_same v j k h =
      let x = alike_covers m node rules v j k h in
      let y = alike_covers m node rules v k j (alike_sym j k h) in
      grind arith

  first_at : (n : ℕ) (j : Box) → n < m → parts (node n).kind ≡ true → Alike (node (node n).first).box j → (v : ℕ → ℕ) → under node v (node n).first ≡ (under node v n && covers j v)
  first_at n j l y h v =
      let x = child m node rules v n (node n).first l (first_named m node rules v n y) in
      let z = next_first m node rules v n l y in
      let t = alike_same v (node (node n).first).box j h in
      grind arith

  second_at : (n : ℕ) (j : Box) → n < m → parts (node n).kind ≡ true → Alike (node (node n).first).box j → (v : ℕ → ℕ) → under node v (node n).second ≡ (under node v n && not (covers j v))
  second_at n j l y h v =
      let x = child m node rules v n (node n).second l (second_named m node rules v n y) in
      let z = next_second m node rules v n l y in
      let t = alike_same v (node (node n).first).box j h in
      grind arith

  set_low : (n : ℕ) (k : Box) → k.depth < 80 → Set n k → (c : ℕ) → ((v : ℕ → ℕ) → under node v c ≡ (under node v n && covers (lower k) v)) → Set c (lower k)
  unfolding lodged
  set_low n k d e c h s l = let i = e s l in let j = h (a.value s) in let b = halves_cover k (a.value s) d in grind arith

  set_high : (n : ℕ) (k : Box) → k.depth < 80 → Set n k → (c : ℕ) → ((v : ℕ → ℕ) → under node v c ≡ (under node v n && not (covers (lower k) v))) → Set c (upper k)
  unfolding lodged
  set_high n k d e c h s l = let i = e s l in let j = h (a.value s) in let b = halves_cover k (a.value s) d in grind arith

  set_core : (n : ℕ) (j k : Box) → Same a j k → Set n k → (c : ℕ) → ((v : ℕ → ℕ) → under node v c ≡ (under node v n && covers j v)) → Set c j
  unfolding lodged
  set_core n j k w e c h s l = let i = e s l in let t = h (a.value s) in let o = w s l in grind arith

  rim_none : (n : ℕ) (j k : Box) → Same a j k → Set n k → (c : ℕ) → ((v : ℕ → ℕ) → under node v c ≡ (under node v n && not (covers j v))) → (f : ℕ) → count (lies node a c f) a.slots ≡ 0
  unfolding lies lodged
  rim_none n j k w e c h f =
      count_none (lies node a c f) a.slots (λ s l. let i = e s l in let t = h (a.value s) in let o = w s l in grind arith)

  numbered_top : (p : Plan) (k : Box) (n : ℕ) → Numbered node p k n → Alike (node n).box k
  numbered_top stop k n i = i.1
  numbered_top (halve p q) k n i = i.0.1
  numbered_top (focus j p) k n i = i.0.1

  pub tallied : (tally : ℕ → ℕ → ℕ) (p : Plan) (k : Box) (n hi : ℕ) → hi ≡ n + size p → hi ≤ m → Numbered node p k n → Holds a p k → Tallied a tally p k n → Set n k →
      (x : ℕ) → n ≤ x → x < hi → (f : ℕ) → f < 8 → tally x f ≡ count (lies node a x f) a.slots
  tallied tally stop k n hi h le i o t e x l r f g =
      let z : n ≡ x = omega arith in
      subst (λ (x : ℕ). tally x f ≡ count (lies node a x f) a.slots) z (t f g ∙ set_count n k e f)
  tallied tally (halve p r) k n hi h le i o t e x l u f g =
      let yes : parts (node n).kind ≡ true = ap parts i.0.0 in
      let one = i.0.2 in
      let two = i.0.3 in
      let top : Alike (node (node n).first).box (lower k) = rw one (numbered_top p (lower k) (suc n) i.1) in
      let fst = first_at n (lower k) (omega arith) yes top in
      let snd = second_at n (lower k) (omega arith) yes top in
      go (leb x n) (ltb x (suc n + size p)) refl refl
      (λ a1 b1. tallied tally p (lower k) (suc n) (suc n + size p) refl (omega arith) i.1 o.1 t.1 (set_low n k o.0 e (suc n) (rw one at fst)) x a1 b1 f g)
      (λ a1 b1. tallied tally r (upper k) (suc n + size p) hi (omega arith) le i.2 o.2 t.2 (set_high n k o.0 e (suc n + size p) (rw two at snd)) x a1 b1 f g)
    where
      Good : Type 0
      Good = tally x f ≡ count (lies node a x f) a.slots

      go : (c d : Bool) → leb x n ≡ c → ltb x (suc n + size p) ≡ d → (suc n ≤ x → x < suc n + size p → Good) → (suc n + size p ≤ x → x < hi → Good) → Good
      go true d c1 d1 y z = let v : n ≡ x = grind arith in subst (λ (x : ℕ). tally x f ≡ count (lies node a x f) a.slots) v (t.0 f g ∙ set_count n k e f)
      go false true c1 d1 y z = y (grind arith) (grind arith)
      go false false c1 d1 y z = z (grind arith) u
  tallied tally (focus j p) k n hi h le i o t e x l u f g =
      let yes : parts (node n).kind ≡ true = ap parts i.0.0 in
      let one = i.0.2 in
      let two = i.0.3 in
      let top : Alike (node (node n).first).box j = rw one (numbered_top p j (suc n) i.1) in
      let fst = first_at n j (omega arith) yes top in
      let snd = second_at n j (omega arith) yes top in
      go (leb x n) (ltb x (suc n + size p)) refl refl
      (λ a1 b1. tallied tally p j (suc n) (suc n + size p) refl (omega arith) i.1 o.1 t.1 (set_core n j k o.0 e (suc n) (rw one at fst)) x a1 b1 f g)
      (t.2 f g ∙ sym (rim_none n j k o.0 e (suc n + size p) (rw two at snd) f))
    where
      Good : ℕ → Type 0
      Good x = tally x f ≡ count (lies node a x f) a.slots

      go : (c d : Bool) → leb x n ≡ c → ltb x (suc n + size p) ≡ d → (suc n ≤ x → x < suc n + size p → Good x) → Good (suc n + size p) → Good x
      go true d c1 d1 y z = let v : n ≡ x = grind arith in subst Good v (t.0 f g ∙ set_count n k e f)
      go false true c1 d1 y z = y (grind arith) (grind arith)
      go false false c1 d1 y z = let v : suc n + size p ≡ x = grind arith in subst Good v z

  all_in : Valid a → Set 0 everything
  unfolding lodged
  all_in ok s l = let c = everything_covers a ok s l in let u = under_root node (a.value s) in grind arith

  pub tallied_right : (tally : ℕ → ℕ → ℕ) (p : Plan) → m ≡ size p → Valid a → Numbered node p everything 0 → Holds a p everything → Tallied a tally p everything 0 → Right m node tally a
  tallied_right tally p h ok i o t x f l g = tallied tally p everything 0 m (omega arith) (omega arith) i o t (all_in ok) x (omega arith) l f g
