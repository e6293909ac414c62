-- The path of values through a tree: where it goes, that it ends in one leaf, and that its boxes cover the values. Assumes nothing.
use Rattle.std.proofs.Common.{◌≡◌, ℕ, zero, suc, ◌+◌, ◌-◌, ◌<◌, ◌≤◌, Bool, true, false, cond, not, ◌&&◌, eqb, sym, refl, ap, ◌∙◌, arith}
use Rattle.ranking.specs.Counts.{bit, count}
use Rattle.ranking.proofs.Counted.{count_less}
use Rattle.trees.specs.Boxes.{side, Box, covers, lower, upper, Alike}
use Rattle.trees.specs.Trees.{Kind, leaf, split, shrink, Node, parts, names, Rules, choice, next, reached, under}
use Rattle.trees.proofs.Boxed.{covers_at, covers_all, halves_cover, side_zero}

-- at most one number passes a test that one number passes
pub count_two : (p : ℕ → Bool) (n x y : ℕ) → x < y → y < n → p x ≡ true → p y ≡ true → 2 ≤ count p n
count_two p n x y l m a b =
    let c = count_less (λ s. p s && eqb s x) p n y (λ s _ h. grind arith) m (grind arith) b in
    let d = count_less (λ s. false) (λ s. p s && eqb s x) n x (λ s _ h. grind arith) (omega arith) refl (grind arith) in
    omega arith

pub count_one : (p : ℕ → Bool) (n x y : ℕ) → count p n ≡ 1 → x < n → y < n → p x ≡ true → p y ≡ true → x ≡ y
count_one p n x y e l m a b =
    let c : x < y → 2 ≤ count p n = λ h. count_two p n x y h m a b in
    let d : y < x → 2 ≤ count p n = λ h. count_two p n y x h l b a in
    grind arith

module _ (node : ℕ → Node) (v : ℕ → ℕ) where
  -- the choice is one of the two children
  pub choice_names : (x y : ℕ) → next node v x y ≡ true → names node x y ≡ true
  unfolding next choice names
  choice_names x y h = grind arith

  pub next_one : (x y z : ℕ) → next node v x y ≡ true → next node v x z ≡ true → y ≡ z
  unfolding next
  next_one x y z a b = grind arith

  pub reached_le : (x : ℕ) → reached node v x ≤ x
  unfolding reached
  reached_le zero = omega arith
  reached_le (suc x) = let i = reached_le x in grind arith

  pub under_root : under node v 0 ≡ true
  unfolding under reached
  under_root = refl

  pub under_is : (x : ℕ) → under node v x ≡ true → reached node v x ≡ x
  unfolding under
  under_is x h = grind arith

  pub is_under : (x : ℕ) → reached node v x ≡ x → under node v x ≡ true
  unfolding under
  is_under x h = grind arith

  -- x + 1 is on the path iff it is next
  pub under_next : (x : ℕ) → under node v (suc x) ≡ next node v (reached node v x) (suc x)
  unfolding under reached
  under_next x = let i = reached_le x in grind arith

  -- what is reached is on the path
  pub reached_under : (x : ℕ) → under node v (reached node v x) ≡ true
  unfolding reached
  reached_under zero = under_root
  reached_under (suc x) = go (reached_under x) (next node v (reached node v x) (suc x)) refl
    where
      go : under node v (reached node v x) ≡ true → (b : Bool) → next node v (reached node v x) (suc x) ≡ b → under node v (cond b (suc x) (reached node v x)) ≡ true
      go i true e = under_next x ∙ e
      go i false e = i

module _ (m : ℕ) (node : ℕ → Node) (rules : Rules m node) (v : ℕ → ℕ) where
  pub next_up : (x y : ℕ) → x < m → next node v x y ≡ true → (x < y) × (y < m)
  unfolding next choice
  next_up x y l h = let a = rules.links x l in (grind arith, grind arith)

  -- from x to the next node nothing else is reached
  stays_on : (x y z : ℕ) → next node v x y ≡ true → suc z < y → reached node v z ≡ x → reached node v (suc z) ≡ x
  unfolding reached
  stays_on x y z h b e = let n = next_one node v x y (suc z) h in grind arith

  stays : (x y z : ℕ) → x < m → under node v x ≡ true → next node v x y ≡ true → x ≤ z → z < y → reached node v z ≡ x
  stays x y zero l u h a b = let c = under_is node v x u in let e : x ≡ zero = omega arith in cc
  stays x y (suc z) l u h a b = go (stays x y z l u h) (eqb x (suc z)) refl
    where
      go : (x ≤ z → z < y → reached node v z ≡ x) → (e : Bool) → eqb x (suc z) ≡ e → reached node v (suc z) ≡ x
      go i true e = let f : x ≡ suc z = grind arith in let g = under_is node v x u in cc
      go i false e = stays_on x y z h b (i (grind arith) (omega arith))

  pub next_under : (x y : ℕ) → x < m → under node v x ≡ true → next node v x y ≡ true → under node v y ≡ true
  next_under x zero l u h = absurd (omega (arith, next_up x zero l h))
  next_under x (suc z) l u h =
      let a = next_up x (suc z) l h in
      let e = stays x (suc z) z l u h (omega arith) (omega arith) in
      let f = under_next node v z in
      grind arith

  pub names_up : (x y : ℕ) → x < m → names node x y ≡ true → (x < y) × (y < m)
  unfolding names
  names_up x y l h = let a = rules.links x l in (grind arith, grind arith)

  -- the only parent of y is the one before it on the path
  pub under_parent : (x y : ℕ) → x < m → names node x y ≡ true → under node v y ≡ true → (under node v x ≡ true) × (next node v x y ≡ true)
  under_parent x zero l n u = absurd (omega (arith, names_up x zero l n))
  under_parent x (suc z) l n u =
      let a = names_up x (suc z) l n in
      let b = reached_le node v z in
      let h : next node v (reached node v z) (suc z) ≡ true = sym (under_next node v z) ∙ u in
      let e : reached node v z ≡ x = count_one (λ x. names node x (suc z)) m (reached node v z) x (rules.once (suc z) (omega arith) a.1) (omega arith) l (choice_names node v (reached node v z) (suc z) h) n in
      let r = reached_under node v z in
      (rw e at r, rw e at h)

  -- a child is on the path iff its parent is, and it is the choice there
  pub child : (x y : ℕ) → x < m → names node x y ≡ true → under node v y ≡ (under node v x && next node v x y)
  child x y l n =
      let a = under_parent x y l n in
      let b = next_under x y l in
      grind arith

  pub first_named : (x : ℕ) → parts (node x).kind ≡ true → names node x (node x).first ≡ true
  unfolding names
  first_named x h = grind arith

  pub second_named : (x : ℕ) → parts (node x).kind ≡ true → names node x (node x).second ≡ true
  unfolding names
  second_named x h = grind arith

  pub next_first : (x : ℕ) → x < m → parts (node x).kind ≡ true → next node v x (node x).first ≡ covers (node (node x).first).box v
  unfolding next choice
  next_first x l h = let t = rules.twice x l h in grind arith

  pub next_second : (x : ℕ) → x < m → parts (node x).kind ≡ true → next node v x (node x).second ≡ not (covers (node (node x).first).box v)
  unfolding next choice
  next_second x l h = let t = rules.twice x l h in grind arith

  -- of a parent on the path exactly one child is on it
  pub under_parts : (x : ℕ) → x < m → parts (node x).kind ≡ true → bit (under node v x) ≡ bit (under node v (node x).first) + bit (under node v (node x).second)
  under_parts x l h =
      let a = child x (node x).first l (first_named x h) in
      let b = child x (node x).second l (second_named x h) in
      let c = next_first x l h in
      let d = next_second x l h in
      grind arith

  pub alike_covers : (j k : Box) → Alike j k → covers k v ≡ true → covers j v ≡ true
  alike_covers j k a h = covers_all j v (λ b l.
      let c = covers_at k v h b l in
      let d = a.1 b l in
      let e : side j.depth b ≡ side k.depth b = ap (λ (t : ℕ). side t b) a.0 in
      (omega arith, omega arith))

  -- a child on the path covers what its parent covers
  second_covers : (x : ℕ) → x < m → covers (node x).box v ≡ true → covers (node (node x).first).box v ≡ false → parts (node x).kind ≡ true → covers (node (node x).second).box v ≡ true
  second_covers x l c d p = go (node x).kind refl
    where
      go : (k : Kind) → (node x).kind ≡ k → covers (node (node x).second).box v ≡ true
      go leaf e = let a : parts leaf ≡ true = rw e at p in absurd (grind arith)
      go split e =
          let s = rules.splits x l e in
          let a = halves_cover (node x).box v s.0 in
          let b = alike_covers (node (node x).first).box (lower (node x).box) s.1 in
          let u = alike_covers (node (node x).second).box (upper (node x).box) s.2 in
          grind arith
      go shrink e = alike_covers _ _ (rules.shrinks x l e).2 c

  next_covers : (x y : ℕ) → x < m → covers (node x).box v ≡ true → next node v x y ≡ true → covers (node y).box v ≡ true
  unfolding next choice
  next_covers x y l c h = go (covers (node (node x).first).box v) refl h
    where
      go : (b : Bool) → covers (node (node x).first).box v ≡ b → (parts (node x).kind && eqb (cond b (node x).first (node x).second) y) ≡ true → covers (node y).box v ≡ true
      go true e i = let f : (node x).first ≡ y = grind arith in rw f at e
      go false e i = let f : (node x).second ≡ y = grind arith in let a = second_covers x l c e (grind arith) in rw f at a

  -- a leaf that is reached stays reached
  leaf_next : (x y : ℕ) → (node x).kind ≡ leaf → next node v x y ≡ false
  unfolding next
  leaf_next x y e = grind arith

  leaf_on : (x z : ℕ) → (node x).kind ≡ leaf → reached node v z ≡ x → reached node v (suc z) ≡ x
  unfolding reached
  leaf_on x z k e = let n = leaf_next x (suc z) k in grind arith

  leaf_stays : (x z : ℕ) → (node x).kind ≡ leaf → under node v x ≡ true → x ≤ z → reached node v z ≡ x
  leaf_stays x zero k u a = let c = under_is node v x u in let e : x ≡ zero = omega arith in cc
  leaf_stays x (suc z) k u a = go (leaf_stays x z k u) (eqb x (suc z)) refl
    where
      go : (x ≤ z → reached node v z ≡ x) → (e : Bool) → eqb x (suc z) ≡ e → reached node v (suc z) ≡ x
      go i true e = let f : x ≡ suc z = grind arith in let g = under_is node v x u in cc
      go i false e = leaf_on x z k (i (grind arith))

  -- the path goes up
  reached_up_one : (x : ℕ) → reached node v x ≤ reached node v (suc x)
  unfolding reached
  reached_up_one x = let a = reached_le node v x in grind arith

  reached_up : (x d : ℕ) → reached node v x ≤ reached node v (d + x)
  reached_up x zero = grind arith
  reached_up x (suc d) = let i = reached_up x d in let a = reached_up_one (d + x) in let e : suc d + x ≡ suc (d + x) = omega arith in rw e (omega arith)

  pub has_next : (x : ℕ) → parts (node x).kind ≡ true → next node v x (choice node x v) ≡ true
  unfolding next
  has_next x p = grind arith

  -- the path ends in a leaf, and in no other
  pub ends : (node (reached node v (m - 1))).kind ≡ leaf
  ends = go (node (reached node v (m - 1))).kind refl
    where
      more : parts (node (reached node v (m - 1))).kind ≡ true → ⊥
      more p =
          let x = reached node v (m - 1) in
          let o = rules.some in
          let a = reached_le node v (m - 1) in
          let n = has_next (reached node v (m - 1)) p in
          let b = next_up (reached node v (m - 1)) (choice node (reached node v (m - 1)) v) (omega arith) n in
          let u = under_is node v (choice node (reached node v (m - 1)) v) (next_under (reached node v (m - 1)) (choice node (reached node v (m - 1)) v) (omega arith) (reached_under node v (m - 1)) n) in
          let c = reached_up (choice node (reached node v (m - 1)) v) ((m - 1) - choice node (reached node v (m - 1)) v) in
          let e : ((m - 1) - choice node (reached node v (m - 1)) v) + choice node (reached node v (m - 1)) v ≡ m - 1 = omega arith in
          let f = rw e at c in
          omega arith

      go : (k : Kind) → (node (reached node v (m - 1))).kind ≡ k → (node (reached node v (m - 1))).kind ≡ leaf
      go leaf e = e
      go split e = absurd (more (rw e refl))
      go shrink e = absurd (more (rw e refl))

  pub ends_one : (x : ℕ) → x < m → (node x).kind ≡ leaf → under node v x ≡ true → x ≡ reached node v (m - 1)
  ends_one x l k u = sym (leaf_stays x (m - 1) k u (omega arith))

  root_covers : ((b : ℕ) → b < 8 → v b < 1024) → covers (node 0).box v ≡ true
  root_covers f = covers_all (node 0).box v (λ b l.
      let r = rules.root in
      let c = r.1 b l in
      let d = f b l in
      let e : side (node 0).box.depth b ≡ 1024 = ap (λ (t : ℕ). side t b) r.0 ∙ side_zero b l in
      (omega arith, omega arith))

  reached_covers : ((b : ℕ) → b < 8 → v b < 1024) → (x : ℕ) → x < m → covers (node (reached node v x)).box v ≡ true
  unfolding reached
  reached_covers f zero l = root_covers f
  reached_covers f (suc x) l = go (reached_covers f x (omega arith)) (next node v (reached node v x) (suc x)) refl
    where
      go : covers (node (reached node v x)).box v ≡ true → (b : Bool) → next node v (reached node v x) (suc x) ≡ b → covers (node (cond b (suc x) (reached node v x))).box v ≡ true
      go i true e = next_covers (reached node v x) (suc x) (omega (arith, reached_le node v x)) i e
      go i false e = i

  -- a node on the path has a box that covers the values
  pub under_covers : ((b : ℕ) → b < 8 → v b < 1024) → (x : ℕ) → x < m → under node v x ≡ true → covers (node x).box v ≡ true
  under_covers f x l u = let a = reached_covers f x l in let e = under_is node v x u in rw e at a

  -- no node between two on the path, or after its leaf, is on it
  pub under_between : (x y z : ℕ) → x < m → under node v x ≡ true → next node v x y ≡ true → x < z → z < y → under node v z ≡ false
  under_between x y z l u h a b =
      let r = stays x y z l u h (omega arith) b in
      let i = under_is node v z in
      grind arith

  pub under_after : (x z : ℕ) → (node x).kind ≡ leaf → under node v x ≡ true → x < z → under node v z ≡ false
  under_after x z k u a =
      let r = leaf_stays x z k u (omega arith) in
      let i = under_is node v z in
      grind arith
