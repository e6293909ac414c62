-- A numbered plan keeps the rules of a tree. Assumes nothing.
use Rattle.std.proofs.Common.{◌≡◌, ℕ, suc, ◌+◌, ◌<◌, ◌≤◌, Bool, true, false, cond, ◌&&◌, eqb, ltb, leb, ◌⊎◌, sym, refl, ap, ◌∙◌, subst, inl, inr, ⊎_elim, arith}
use Rattle.ranking.specs.Counts.{count}
use Rattle.ranking.proofs.Counted.{count_ext}
use Rattle.trees.specs.Boxes.{side, Box, cut, lower, upper, Inside, Alike, Grid, everything}
use Rattle.trees.specs.Trees.{leaf, split, shrink, Node, parts, names, Rules}
use Rattle.trees.specs.Drawing.{Plan, stop, halve, focus, size, Is, Numbered, Fits}
use Rattle.trees.proofs.Boxed.{side_pos}
use Rattle.trees.proofs.Counting.{count_point}

pub size_pos : (p : Plan) → 0 < size p
size_pos stop = omega arith
size_pos (halve p q) = omega arith
size_pos (focus j p) = omega arith

pub alike_sym : (j k : Box) → Alike j k → Alike k j
alike_sym j k a = (sym a.0, λ b l. sym (a.1 b l))

alike_trans : (i j k : Box) → Alike i j → Alike j k → Alike i k
alike_trans i j k a c = (a.0 ∙ c.0, λ b l. a.1 b l ∙ c.1 b l)

alike_side : (j k : Box) → Alike j k → (b : ℕ) → side j.depth b ≡ side k.depth b
alike_side j k a b = ap (λ (t : ℕ). side t b) a.0

alike_lower : (j k : Box) → Alike j k → Alike (lower j) (lower k)
unfolding lower
alike_lower j k a = (ap suc a.0, a.1)

alike_upper : (j k : Box) → Alike j k → Alike (upper j) (upper k)
unfolding upper
alike_upper j k a = (
  ap suc a.0,
  λ b l.
      let x = a.1 b l in
      let y = ap (λ (t : ℕ). cond (eqb b (cut t)) (side (suc t) b) 0) a.0 in
      omega arith,
)

alike_grid : (j k : Box) → Alike j k → Grid k → Grid j
alike_grid j k a g = (
  omega (arith, a.0, g.0),
  λ b l.
      let x = a.1 b l in
      let y = alike_side j k a b in
      let z = g.1 b l in
      (omega arith, rw x (rw y z.1)),
)

alike_inside : (i j k l : Box) → Alike i j → Alike k l → Inside j l → Inside i k
alike_inside i j k l a c h = (
  omega (arith, a.0, c.0, h.0),
  λ b m.
      let x = a.1 b m in
      let y = c.1 b m in
      let z = h.1 b m in
      let u = alike_side i j a b in
      let v = alike_side k l c b in
      (omega arith, omega arith),
)

-- the rules for the nodes from lo to below hi, of which lo has no parent among them
pub record Part (lo hi : ℕ) (node : ℕ → Node) (k : Box) : Type 0 where
  pub top : Alike (node lo).box k
  pub grid : (x : ℕ) → lo ≤ x → x < hi → Grid (node x).box
  pub leaves : (x : ℕ) → lo ≤ x → x < hi → (node x).kind ≡ leaf → ((node x).first ≡ 0) × ((node x).second ≡ 0)
  pub links : (x : ℕ) → lo ≤ x → x < hi → parts (node x).kind ≡ true → (x < (node x).first) × ((node x).first < hi) × (x < (node x).second) × ((node x).second < hi)
  pub twice : (x : ℕ) → lo ≤ x → x < hi → parts (node x).kind ≡ true → (node x).first ≡ (node x).second → ⊥
  pub named : (y : ℕ) → lo < y → y < hi → (p : ℕ) × (lo ≤ p) × (p < hi) × (names node p y ≡ true) × ((x : ℕ) → lo ≤ x → x < hi → names node x y ≡ true → x ≡ p)
  pub splits : (x : ℕ) → lo ≤ x → x < hi → (node x).kind ≡ split →
      ((node x).box.depth < 80) × Alike (node (node x).first).box (lower (node x).box) × Alike (node (node x).second).box (upper (node x).box)
  pub shrinks : (x : ℕ) → lo ≤ x → x < hi → (node x).kind ≡ shrink →
      Inside (node (node x).first).box (node x).box × ((node (node x).second).kind ≡ leaf) × Alike (node (node x).second).box (node x).box

module _ (node : ℕ → Node) where
  names_parts : (x y : ℕ) → names node x y ≡ true → parts (node x).kind ≡ true
  unfolding names
  names_parts x y h = grind arith

  names_says : (x y : ℕ) → names node x y ≡ true → ((node x).first ≡ y) ⊎ ((node x).second ≡ y)
  unfolding names
  names_says x y h = grind arith

  named_first : (x y : ℕ) → parts (node x).kind ≡ true → (node x).first ≡ y → names node x y ≡ true
  unfolding names
  named_first x y h e = grind arith

  named_second : (x y : ℕ) → parts (node x).kind ≡ true → (node x).second ≡ y → names node x y ≡ true
  unfolding names
  named_second x y h e = grind arith

  part_names : (lo hi : ℕ) (k : Box) → Part lo hi node k → (x y : ℕ) → lo ≤ x → x < hi → names node x y ≡ true → (x < y) × (y < hi)
  part_names lo hi k e x y a b h =
      let l = e.links x a b (names_parts x y h) in
      let s = names_says x y h in
      (omega arith, omega arith)

  -- a leaf
  leaf_part : (n : ℕ) (k : Box) → Is (node n) leaf k 0 0 → Grid k → Part n (suc n) node k
  leaf_part n k i g = record {
    top = i.1;
    grid = at (λ x. Grid (node x).box) (alike_grid (node n).box k i.1 g);
    leaves = at (λ x. (node x).kind ≡ leaf → ((node x).first ≡ 0) × ((node x).second ≡ 0)) (λ e. (i.2, i.3));
    links = at (λ x. parts (node x).kind ≡ true → (x < (node x).first) × ((node x).first < suc n) × (x < (node x).second) × ((node x).second < suc n)) (λ e. absurd (no e));
    twice = at (λ x. parts (node x).kind ≡ true → (node x).first ≡ (node x).second → ⊥) (λ e. absurd (no e));
    named = λ y a b. absurd (omega arith);
    splits = at (λ x. (node x).kind ≡ split → ((node x).box.depth < 80) × Alike (node (node x).first).box (lower (node x).box) × Alike (node (node x).second).box (upper (node x).box)) (λ e. absurd (no (ap parts e)));
    shrinks = at (λ x. (node x).kind ≡ shrink → Inside (node (node x).first).box (node x).box × ((node (node x).second).kind ≡ leaf) × Alike (node (node x).second).box (node x).box) (λ e. absurd (no (ap parts e)));
  }
    where
      at : (P : ℕ → Type 0) → P n → (x : ℕ) → n ≤ x → x < suc n → P x
      at P p x a b = let e : n ≡ x = omega arith in subst P e p

      no : parts (node n).kind ≡ true → ⊥
      no e = let f = i.0 in grind arith

  -- a parent with its children's parts behind it
  module _ (lo mid hi : ℕ) (k j l : Box) (e : Part (suc lo) mid node j) (f : Part mid hi node l) (u : suc lo < mid) (v : mid < hi)
      (top : Alike (node lo).box k) (g : Grid k) (yes : parts (node lo).kind ≡ true) (one : (node lo).first ≡ suc lo) (two : (node lo).second ≡ mid) where
    by_part : (P : ℕ → Type 0) → P lo → ((x : ℕ) → suc lo ≤ x → x < mid → P x) → ((x : ℕ) → mid ≤ x → x < hi → P x) → (x : ℕ) → lo ≤ x → x < hi → P x
    by_part P p q r x a b = go (leb x lo) (ltb x mid) refl refl
      where
        go : (c d : Bool) → leb x lo ≡ c → ltb x mid ≡ d → P x
        go true d m n = let e : lo ≡ x = grind arith in subst P e p
        go false true m n = q x (grind arith) (grind arith)
        go false false m n = r x (grind arith) b

    join_links : (x : ℕ) → lo ≤ x → x < hi → parts (node x).kind ≡ true → (x < (node x).first) × ((node x).first < hi) × (x < (node x).second) × ((node x).second < hi)
    join_links = by_part (λ x. parts (node x).kind ≡ true → (x < (node x).first) × ((node x).first < hi) × (x < (node x).second) × ((node x).second < hi))
        (λ h. (omega arith, omega arith, omega arith, omega arith))
        (λ x a b h. let t = e.links x a b h in (omega arith, omega arith, omega arith, omega arith))
        (λ x a b h. f.links x a b h)

    -- what each of the three names
    lo_names : (y : ℕ) → names node lo y ≡ true → (y ≡ suc lo) ⊎ (y ≡ mid)
    lo_names y h = ⊎_elim (λ s. inl (sym s ∙ one)) (λ s. inr (sym s ∙ two)) (names_says lo y h)

    Only : ℕ → Type 0
    Only y = (p : ℕ) × (lo ≤ p) × (p < hi) × (names node p y ≡ true) × ((x : ℕ) → lo ≤ x → x < hi → names node x y ≡ true → x ≡ p)

    only_lo : (y : ℕ) → names node lo y ≡ true → (suc lo < y → y < mid → ⊥) → (mid < y → ⊥) → Only y
    unfolding Only
    only_lo y n a c = (
      lo,
      omega arith,
      omega arith,
      n,
      by_part (λ x. names node x y ≡ true → x ≡ lo)
          (λ h. refl)
          (λ x p q h. let t = part_names (suc lo) mid j e x y p q h in absurd (a (omega arith) (omega arith)))
          (λ x p q h. let t = part_names mid hi l f x y p q h in absurd (c (omega arith))),
    )

    only_first : (y : ℕ) → suc lo < y → y < mid → Only y
    unfolding Only
    only_first y a b =
        let o = e.named y a b in (
          o.0,
          omega (arith, o.1),
          omega (arith, o.2),
          o.3,
          by_part (λ x. names node x y ≡ true → x ≡ o.0)
              (λ h. let t = lo_names y h in absurd (omega arith))
              (λ x p q h. o.4 x p q h)
              (λ x p q h. let t = part_names mid hi l f x y p q h in absurd (omega arith)),
        )

    only_second : (y : ℕ) → mid < y → y < hi → Only y
    unfolding Only
    only_second y a b =
        let o = f.named y a b in (
          o.0,
          omega (arith, o.1),
          omega (arith, o.2),
          o.3,
          by_part (λ x. names node x y ≡ true → x ≡ o.0)
              (λ h. let t = lo_names y h in absurd (omega arith))
              (λ x p q h. let t = part_names (suc lo) mid j e x y p q h in absurd (omega arith))
              (λ x p q h. o.4 x p q h),
        )

    join_named : (y : ℕ) → lo < y → y < hi → Only y
    join_named y a b = go (leb y (suc lo)) (ltb y mid) (leb y mid) refl refl refl
      where
        go : (c d t : Bool) → leb y (suc lo) ≡ c → ltb y mid ≡ d → leb y mid ≡ t → Only y
        go true d t m n o = only_lo y (named_first lo y yes (grind arith)) (λ a1 a2. grind arith) (λ a1. grind arith)
        go false true t m n o = only_first y (grind arith) (grind arith)
        go false false true m n o = only_lo y (named_second lo y yes (grind arith)) (λ a1 a2. grind arith) (λ a1. grind arith)
        go false false false m n o = only_second y (grind arith) b

    pub join : ((node lo).kind ≡ split → ((node lo).box.depth < 80) × Alike (node (suc lo)).box (lower (node lo).box) × Alike (node mid).box (upper (node lo).box)) →
        ((node lo).kind ≡ shrink → Inside (node (suc lo)).box (node lo).box × ((node mid).kind ≡ leaf) × Alike (node mid).box (node lo).box) → Part lo hi node k
    unfolding Only
    join s t = record {
      top = top;
      grid = by_part (λ x. Grid (node x).box) (alike_grid (node lo).box k top g) e.grid f.grid;
      leaves = by_part (λ x. (node x).kind ≡ leaf → ((node x).first ≡ 0) × ((node x).second ≡ 0)) (λ h. absurd (no h)) e.leaves f.leaves;
      links = join_links;
      twice = by_part (λ x. parts (node x).kind ≡ true → (node x).first ≡ (node x).second → ⊥) (λ h i. omega arith) e.twice f.twice;
      named = join_named;
      splits = by_part (λ x. (node x).kind ≡ split → ((node x).box.depth < 80) × Alike (node (node x).first).box (lower (node x).box) × Alike (node (node x).second).box (upper (node x).box))
          (λ h. let d = s h in (d.0, rw one d.1, rw two d.2)) e.splits f.splits;
      shrinks = by_part (λ x. (node x).kind ≡ shrink → Inside (node (node x).first).box (node x).box × ((node (node x).second).kind ≡ leaf) × Alike (node (node x).second).box (node x).box)
          (λ h. let d = t h in (rw one d.0, rw two d.1, rw two d.2)) e.shrinks f.shrinks;
    }
      where
        no : (node lo).kind ≡ leaf → ⊥
        no h = let w = yes in grind arith

  fits_grid : (p : Plan) (k : Box) → Fits p k → Grid k
  fits_grid stop k f = f
  fits_grid (halve p q) k f = f.0
  fits_grid (focus j p) k f = f.0

  pub numbered_part : (p : Plan) (k : Box) (n hi : ℕ) → hi ≡ n + size p → Numbered node p k n → Fits p k → Part n hi node k
  numbered_part stop k n hi h i f = let e : suc n ≡ hi = omega arith in subst (λ (z : ℕ). Part n z node k) e (leaf_part n k i f)
  numbered_part (halve p q) k n hi h i f =
      let e = numbered_part p (lower k) (suc n) (suc n + size p) refl i.1 f.2 in
      let g = numbered_part q (upper k) (suc n + size p) hi (omega arith) i.2 f.3 in
      let kd = i.0.0 in
      join n (suc n + size p) hi k (lower k) (upper k) e g (omega (arith, size_pos p)) (omega (arith, size_pos q)) i.0.1 f.0 (grind arith) i.0.2 i.0.3
      (λ _. (
        omega (arith, i.0.1.0, f.1),
        alike_trans (node (suc n)).box (lower k) (lower (node n).box) e.top (alike_sym (lower (node n).box) (lower k) (alike_lower (node n).box k i.0.1)),
        alike_trans (node (suc n + size p)).box (upper k) (upper (node n).box) g.top (alike_sym (upper (node n).box) (upper k) (alike_upper (node n).box k i.0.1)),
      ))
      (λ w. absurd (never (sym kd ∙ w)))
    where
      never : split ≡ shrink → ⊥
      never w = let z : ◌≡◌ {A = ℕ} 0 1 = cc in omega arith
  numbered_part (focus j p) k n hi h i f =
      let e = numbered_part p j (suc n) (suc n + size p) refl i.1 f.2 in
      let g = leaf_part (suc n + size p) k i.2 f.0 in
      let kd = i.0.0 in
      let z : suc (suc n + size p) ≡ hi = omega arith in
      join n (suc n + size p) hi k j k e (subst (λ (z : ℕ). Part (suc n + size p) z node k) z g) (omega (arith, size_pos p)) (omega arith) i.0.1 f.0 (grind arith) i.0.2 i.0.3
      (λ w. absurd (never (sym kd ∙ w)))
      (λ _. (
        alike_inside (node (suc n)).box j (node n).box k e.top i.0.1 f.1,
        i.2.0,
        alike_trans (node (suc n + size p)).box k (node n).box i.2.1 (alike_sym (node n).box k i.0.1),
      ))
    where
      never : shrink ≡ split → ⊥
      never w = let z : ◌≡◌ {A = ℕ} 0 1 = cc in omega arith

  -- a test that one number passes
  count_only : (q : ℕ → Bool) (n p : ℕ) → p < n → q p ≡ true → ((x : ℕ) → x < n → q x ≡ true → x ≡ p) → count q n ≡ 1
  count_only q n p l h u =
      let c = count_ext q (λ s. true && eqb s p) n (λ x m. let i = u x m in let j : x ≡ p → q x ≡ true = λ e. ap q e ∙ h in grind arith) in
      let d = count_point true p n l in
      omega arith

  pub numbered_rules : (p : Plan) → Numbered node p everything 0 → Fits p everything → Rules (size p) node
  numbered_rules p i f =
      let e = numbered_part p everything 0 (size p) (omega arith) i f in
      record {
        some = size_pos p;
        depths = λ x l. (e.grid x (omega arith) l).0;
        corners = λ x b l m. let g = e.grid x (omega arith) l in let c = g.1 b m in let s = side_pos (node x).box.depth b g.0 m in (omega arith, c.1);
        root = (e.top.0, e.top.1);
        leaves = λ x l. e.leaves x (omega arith) l;
        links = λ x l. e.links x (omega arith) l;
        twice = λ x l. e.twice x (omega arith) l;
        once = λ y a b. let o = e.named y a b in count_only (λ x. names node x y) (size p) o.0 o.2 o.3 (λ x m h. o.4 x (omega arith) m h);
        splits = λ x l. e.splits x (omega arith) l;
        shrinks = λ x l. e.shrinks x (omega arith) l;
      }

-- a numbering speaks of its own nodes alone
pub numbered_ext : (node kode : ℕ → Node) (p : Plan) (k : Box) (n : ℕ) → ((x : ℕ) → n ≤ x → x < n + size p → node x ≡ kode x) → Numbered node p k n → Numbered kode p k n
numbered_ext node kode stop k n h i = let e = h n (omega arith) (omega arith) in subst (λ (x : Node). Is x leaf k 0 0) e i
numbered_ext node kode (halve p q) k n h i = (
  subst (λ (x : Node). Is x split k (suc n) (suc n + size p)) (h n (omega arith) (omega arith)) i.0,
  numbered_ext node kode p (lower k) (suc n) (λ x l m. h x (omega arith) (omega arith)) i.1,
  numbered_ext node kode q (upper k) (suc n + size p) (λ x l m. h x (omega arith) (omega arith)) i.2,
)
numbered_ext node kode (focus j p) k n h i = (
  subst (λ (x : Node). Is x shrink k (suc n) (suc n + size p)) (h n (omega arith) (omega arith)) i.0,
  numbered_ext node kode p j (suc n) (λ x l m. h x (omega arith) (omega arith)) i.1,
  subst (λ (x : Node). Is x leaf k 0 0) (h (suc n + size p) (omega arith) (omega arith)) i.2,
)
