-- Counts stay right when a sample is put in or taken out. Assumes nothing.
use Rattle.std.proofs.Common.{◌≡◌, ℕ, zero, suc, ◌+◌, ◌<◌, Bool, true, false, ◌&&◌, eqb, refl, ap, ◌∙◌, arith}
use Rattle.ranking.specs.Counts.{bit, count}
use Rattle.ranking.proofs.Counted.{count_less, count_ext, count_split, count_at}
use Rattle.trees.specs.Trees.{Node, parts, Rules, choice, next, reached, under}
use Rattle.trees.specs.Samples.{Samples, Valid, lies, Right, filled, emptied, raised, lowered}
use Rattle.trees.proofs.Pathed.{under_parts, reached_le}

pub count_point : (b : Bool) (z n : ℕ) → z < n → count (λ s. b && eqb s z) n ≡ bit b
count_point b z n l = count_ext (λ s. b && eqb s z) (λ s. eqb s z && b) n (λ s _. grind arith) ∙ count_at (λ _. b) z n l

-- two tests that differ at z alone
pub count_differs : (p q : ℕ → Bool) (n z : ℕ) → z < n → p z ≡ false → ((s : ℕ) → s < n → (s ≡ z → ⊥) → q s ≡ p s) → count q n ≡ count p n + bit (q z)
count_differs p q n z l a h =
    let e = count_split q p (λ s. q z && eqb s z) n (λ s m. let i = h s m in go s (eqb s z) refl i) in
    let o = count_point (q z) z n l in
    omega arith
  where
    go : (s : ℕ) (e : Bool) → eqb s z ≡ e → ((s ≡ z → ⊥) → q s ≡ p s) → bit (q s) ≡ bit (p s) + bit (q z && e)
    go s true e i = let f : s ≡ z = grind arith in let x : q s ≡ q z = ap q f in let y : p s ≡ p z = ap p f in grind arith
    go s false e i = let x = i (λ f. grind arith) in grind arith

module _ (m : ℕ) (node : ℕ → Node) (rules : Rules m node) where
  -- a parent has what its children have
  lies_parts : (a : Samples) (x f : ℕ) → x < m → parts (node x).kind ≡ true → (s : ℕ) → bit (lies node a x f s) ≡ bit (lies node a (node x).first f s) + bit (lies node a (node x).second f s)
  unfolding lies
  lies_parts a x f l p s = let u = under_parts m node rules (a.value s) x l p in grind arith

  pub count_parts : (a : Samples) (x f : ℕ) → x < m → parts (node x).kind ≡ true → count (lies node a x f) a.slots ≡ count (lies node a (node x).first f) a.slots + count (lies node a (node x).second f) a.slots
  count_parts a x f l p = count_split _ _ _ a.slots (λ s _. lies_parts a x f l p s)

  pub right_parts : (tally : ℕ → ℕ → ℕ) (a : Samples) → Right m node tally a → (x f : ℕ) → x < m → f < 8 → parts (node x).kind ≡ true → tally x f ≡ tally (node x).first f + tally (node x).second f
  right_parts tally a r x f l k p =
      let c = count_parts a x f l p in
      let d = rules.links x l p in
      let u = r x f l k in
      let v = r (node x).first f d.1 k in
      let w = r (node x).second f d.3 k in
      omega arith

module _ (node : ℕ → Node) where
  admit_other : (a : Samples) (z f : ℕ) (v : ℕ → ℕ) (x g s : ℕ) → (s ≡ z → ⊥) → lies node (filled a z f v) x g s ≡ lies node a x g s
  unfolding lies filled
  admit_other a z f v x g s h = grind arith

  admit_here : (a : Samples) (z f : ℕ) (v : ℕ → ℕ) (x g : ℕ) → lies node (filled a z f v) x g z ≡ (eqb f g && under node v x)
  unfolding lies filled
  admit_here a z f v x g = grind arith

  empty_here : (a : Samples) (z x g : ℕ) → a.held z ≡ false → lies node a x g z ≡ false
  unfolding lies
  empty_here a z x g e = grind arith

  pub admit_right : (m : ℕ) (tally : ℕ → ℕ → ℕ) (a : Samples) (z f : ℕ) (v : ℕ → ℕ) → Right m node tally a → z < a.slots → a.held z ≡ false → Right m node (raised node tally f v) (filled a z f v)
  unfolding raised filled
  admit_right m tally a z f v r l e x g k h =
      let o = r x g k h in
      let c = count_differs (lies node a x g) (lies node (filled a z f v) x g) a.slots z l (empty_here a z x g e) (λ s _ d. admit_other a z f v x g s d) in
      let d = admit_here a z f v x g in
      grind arith

  withdraw_other : (a : Samples) (z x g s : ℕ) → (s ≡ z → ⊥) → lies node a x g s ≡ lies node (emptied a z) x g s
  unfolding lies emptied
  withdraw_other a z x g s h = grind arith

  withdraw_here : (a : Samples) (z x g : ℕ) → lies node (emptied a z) x g z ≡ false
  unfolding lies emptied
  withdraw_here a z x g = grind arith

  full_here : (a : Samples) (z x g : ℕ) → a.held z ≡ true → lies node a x g z ≡ (eqb (a.fibre z) g && under node (a.value z) x)
  unfolding lies
  full_here a z x g e = grind arith

  pub withdraw_right : (m : ℕ) (tally : ℕ → ℕ → ℕ) (a : Samples) (z : ℕ) → Right m node tally a → z < a.slots → a.held z ≡ true → Right m node (lowered node tally (a.fibre z) (a.value z)) (emptied a z)
  unfolding lowered emptied
  withdraw_right m tally a z r l e x g k h =
      let o = r x g k h in
      let c = count_differs (lies node (emptied a z) x g) (lies node a x g) a.slots z l (withdraw_here a z x g) (λ s _ d. withdraw_other a z x g s d) in
      let d = full_here a z x g e in
      grind arith

  -- what is on the path has one of fibre f to take off
  pub held_some : (m : ℕ) (tally : ℕ → ℕ → ℕ) (a : Samples) (z : ℕ) → Right m node tally a → Valid a → z < a.slots → a.held z ≡ true → (x : ℕ) → x < m → under node (a.value z) x ≡ true → 0 < tally x (a.fibre z)
  held_some m tally a z r ok l e x k u =
      let o = r x (a.fibre z) k (ok z l e).0 in
      let d = full_here a z x (a.fibre z) e in
      let c = count_less (λ _. false) (lies node a x (a.fibre z)) a.slots z (λ s _ h. grind arith) l refl (grind arith) in
      omega arith

-- the path depends on the first m nodes alone
same_next : (n k : ℕ → Node) (v : ℕ → ℕ) (m x y : ℕ) → Rules m n → ((x : ℕ) → x < m → n x ≡ k x) → x < m → next n v x y ≡ next k v x y
unfolding next choice
same_next n k v m x y rules h l =
    let a = h x l in
    let b : parts (n x).kind ≡ true → n (n x).first ≡ k (n x).first = λ p. h (n x).first (rules.links x l p).1 in
    grind arith

pub same_reached : (n k : ℕ → Node) (v : ℕ → ℕ) (m x : ℕ) → Rules m n → ((x : ℕ) → x < m → n x ≡ k x) → x < m → reached n v x ≡ reached k v x
unfolding reached
same_reached n k v m zero rules h l = refl
same_reached n k v m (suc x) rules h l =
    let i = same_reached n k v m x rules h (omega arith) in
    let a = same_next n k v m (reached n v x) (suc x) rules h (omega (arith, reached_le n v x)) in
    grind arith

pub same_under : (n k : ℕ → Node) (v : ℕ → ℕ) (m x : ℕ) → Rules m n → ((x : ℕ) → x < m → n x ≡ k x) → x < m → under n v x ≡ under k v x
unfolding under
same_under n k v m x rules h l = let i = same_reached n k v m x rules h l in grind arith
