-- The tests of a tree say its rules, and the rules pass the tests. Assumes nothing.
use Rattle.std.proofs.Common.{◌≡◌, ℕ, zero, suc, ◌%◌, ◌<◌, ◌≤◌, true, false, ◌&&◌, ◌||◌, eqb, ltb, sym, refl, ap, ◌∙◌, arith}
use Rattle.std.proofs.lemmas.Bool.{and_parts, and_from, eqb-true, eq-eqb, ltb-true, lt-ltb, leb-true, le-leb, both_ways}
use Rattle.std.proofs.lemmas.Bool.Decides.{nat_tests}
use Rattle.ranking.specs.Counts.{count}
use Rattle.trees.specs.Boxes.{side, Box, lower, upper, Alike, Inside, on_step, is_on_grid}
use Rattle.trees.specs.Lawful.{alike, within, inside, childless, whole, sound, linked, is_leaf, nested, nested_by, lawful, counted, right}
use Rattle.trees.specs.Samples.{Samples, lies, Right}
use Rattle.trees.specs.Trees.{Kind, leaf, split, shrink, Node, parts, names, Rules}
use Rattle.trees.proofs.Boxed.{every_at, every_all}

pub alike_says : (j k : Box) → alike j k ≡ true → Alike j k
unfolding alike
alike_says j k h =
    let p = and_parts _ _ h in
    (eqb-true _ _ p.0, λ b l. eqb-true _ _ (every_at (λ b. eqb (j.corner b) (k.corner b)) 8 b p.1 l))

pub alike_from : (j k : Box) → Alike j k → alike j k ≡ true
unfolding alike
alike_from j k a = and_from _ _ (eq-eqb _ _ a.0) (every_all (λ b. eqb (j.corner b) (k.corner b)) 8 (λ b l. eq-eqb _ _ (a.1 b l)))

pub inside_says : (j k : Box) → inside j k ≡ true → Inside j k
unfolding inside
inside_says j k h =
    let p = and_parts _ _ h in
    (ltb-true _ _ p.0, λ b l. let q = and_parts _ _ (every_at (within j k) 8 b p.1 l) in (leb-true _ _ q.0, leb-true _ _ q.1))

pub inside_from : (j k : Box) → Inside j k → inside j k ≡ true
unfolding inside
inside_from j k a =
    and_from _ _ (lt-ltb _ _ a.0) (every_all (within j k) 8 (λ b l. and_from _ _ (le-leb _ _ (a.1 b l).0) (le-leb _ _ (a.1 b l).1)))

is_leaf_says : (k : Kind) → is_leaf k ≡ true → k ≡ leaf
is_leaf_says leaf e = refl
is_leaf_says split e = absurd (both_ways false refl e)
is_leaf_says shrink e = absurd (both_ways false refl e)

module _ (node : ℕ → Node) where
  sound_grid : (x : ℕ) → sound node x ≡ true → is_on_grid (node x).box ≡ true
  unfolding sound
  sound_grid x h = (and_parts _ _ h).0

  grid_says : (k : Box) → is_on_grid k ≡ true → (k.depth ≤ 80) × ((b : ℕ) → b < 8 → (k.corner b < 1024) × (k.corner b % side k.depth b ≡ 0))
  unfolding is_on_grid
  grid_says k h =
      let p = and_parts _ _ h in
      (leb-true _ _ p.0, λ b l. let q = and_parts _ _ (every_at (λ b. on_step k.depth b (k.corner b)) 8 b p.1 l) in (ltb-true _ _ q.0, eqb-true _ _ q.1))

  grid_from : (k : Box) → k.depth ≤ 80 → ((b : ℕ) → b < 8 → (k.corner b < 1024) × (k.corner b % side k.depth b ≡ 0)) → is_on_grid k ≡ true
  unfolding is_on_grid
  grid_from k d c = and_from _ _ (le-leb _ _ d) (every_all (λ b. on_step k.depth b (k.corner b)) 8 (λ b l. and_from _ _ (lt-ltb _ _ (c b l).0) (eq-eqb _ _ (c b l).1)))

  whole_says : (k : Box) → whole k ≡ true → (k.depth ≡ 0) × ((b : ℕ) → b < 8 → k.corner b ≡ 0)
  whole_says k h = let p = and_parts _ _ h in (eqb-true _ _ p.0, λ b l. eqb-true _ _ (every_at (λ b. eqb (k.corner b) 0) 8 b p.1 l))

  whole_from : (k : Box) → k.depth ≡ 0 → ((b : ℕ) → b < 8 → k.corner b ≡ 0) → whole k ≡ true
  whole_from k d c = and_from _ _ (eq-eqb _ _ d) (every_all (λ b. eqb (k.corner b) 0) 8 (λ b l. eq-eqb _ _ (c b l)))

  root_whole : sound node 0 ≡ true → whole (node 0).box ≡ true
  unfolding sound
  root_whole h = let a = (and_parts (is_on_grid (node 0).box) (childless (node 0) && (ltb 0 0 || whole (node 0).box)) h).1 in (and_parts (childless (node 0)) (whole (node 0).box) a).1

  leaf_says : (x : ℕ) → sound node x ≡ true → (node x).kind ≡ leaf → ((node x).first ≡ 0) × ((node x).second ≡ 0)
  unfolding sound
  leaf_says x h e =
      let a = (and_parts (is_on_grid (node x).box) (childless (node x) && (ltb 0 x || whole (node x).box)) h).1 in
      let c = (and_parts (childless (node x)) (ltb 0 x || whole (node x).box) a).0 in
      let p : parts (node x).kind ≡ false = ap parts e in
      (grind (arith, nat_tests), grind (arith, nat_tests))

  links_say : (m x : ℕ) → linked m node x ≡ true → parts (node x).kind ≡ true → (x < (node x).first) × ((node x).first < m) × (x < (node x).second) × ((node x).second < m)
  unfolding linked
  links_say m x h p = (grind (arith, nat_tests), grind (arith, nat_tests), grind (arith, nat_tests), grind (arith, nat_tests))

  twice_says : (m x : ℕ) → linked m node x ≡ true → parts (node x).kind ≡ true → (node x).first ≡ (node x).second → ⊥
  unfolding linked
  twice_says m x h p e = grind (arith, nat_tests)

  once_says : (m y : ℕ) → linked m node y ≡ true → 0 < y → count (λ x. names node x y) m ≡ 1
  unfolding linked
  once_says m y h p = grind (arith, nat_tests)

  split_says : (x : ℕ) → nested node x ≡ true → (node x).kind ≡ split → ((node x).box.depth < 80) × Alike (node (node x).first).box (lower (node x).box) × Alike (node (node x).second).box (upper (node x).box)
  unfolding nested
  split_says x h e =
      let t = ap (λ k. nested_by k (node x).box (node (node x).first) (node (node x).second)) (sym e) ∙ h in
      let p = and_parts _ _ t in
      let q = and_parts _ _ p.1 in
      (ltb-true _ _ p.0, alike_says _ _ q.0, alike_says _ _ q.1)

  shrink_says : (x : ℕ) → nested node x ≡ true → (node x).kind ≡ shrink → Inside (node (node x).first).box (node x).box × ((node (node x).second).kind ≡ leaf) × Alike (node (node x).second).box (node x).box
  unfolding nested
  shrink_says x h e =
      let t = ap (λ k. nested_by k (node x).box (node (node x).first) (node (node x).second)) (sym e) ∙ h in
      let p = and_parts _ _ t in
      let q = and_parts _ _ p.1 in
      (inside_says _ _ p.0, is_leaf_says _ q.0, alike_says _ _ q.1)

pub rules_from_lawful : (m : ℕ) (node : ℕ → Node) → lawful m node ≡ true → Rules m node
unfolding lawful
rules_from_lawful m node h =
    let p = and_parts _ _ h in
    let q = and_parts _ _ p.1 in
    let r = and_parts _ _ q.1 in
    let some = ltb-true _ _ p.0 in
    let s = λ (x : ℕ) (l : x < m). every_at (sound node) m x q.0 l in
    let t = λ (x : ℕ) (l : x < m). every_at (linked m node) m x r.0 l in
    let u = λ (x : ℕ) (l : x < m). every_at (nested node) m x r.1 l in
    record {
      some = some;
      depths = λ x l. (grid_says node _ (sound_grid node x (s x l))).0;
      corners = λ x b l k. (grid_says node _ (sound_grid node x (s x l))).1 b k;
      root = whole_says node _ (root_whole node (s 0 some));
      leaves = λ x l. leaf_says node x (s x l);
      links = λ x l. links_say node m x (t x l);
      twice = λ x l. twice_says node m x (t x l);
      once = λ y p l. once_says node m y (t y l) p;
      splits = λ x l. split_says node x (u x l);
      shrinks = λ x l. shrink_says node x (u x l);
    }

module _ (m : ℕ) (node : ℕ → Node) (rules : Rules m node) where
  sound_from : (x : ℕ) → x < m → sound node x ≡ true
  unfolding sound
  sound_from x l =
      and_from _ _ (grid_from node (node x).box (rules.depths x l) (λ b k. rules.corners x b l k))
      (and_from _ _ (bare (node x).kind refl) (first x))
    where
      bare : (k : Kind) → (node x).kind ≡ k → childless (node x) ≡ true
      bare leaf e = let a = rules.leaves x l e in let p : parts (node x).kind ≡ false = ap parts e in grind (arith, nat_tests)
      bare split e = let p : parts (node x).kind ≡ true = ap parts e in grind arith
      bare shrink e = let p : parts (node x).kind ≡ true = ap parts e in grind arith

      first : (y : ℕ) → (ltb 0 y || whole (node y).box) ≡ true
      first zero = let w = whole_from node (node 0).box rules.root.0 rules.root.1 in grind (arith, nat_tests)
      first (suc y) = let p = lt-ltb 0 (suc y) (omega arith) in grind arith

  linked_from : (x : ℕ) → x < m → linked m node x ≡ true
  unfolding linked
  linked_from x l =
      let a = rules.links x l in
      let b = rules.twice x l in
      let c = λ (p : 0 < x). rules.once x p l in
      grind (arith, nat_tests)

  nested_from : (x : ℕ) → x < m → nested node x ≡ true
  unfolding nested
  nested_from x l = go (node x).kind refl
    where
      go : (k : Kind) → (node x).kind ≡ k → nested_by k (node x).box (node (node x).first) (node (node x).second) ≡ true
      go leaf e = refl
      go split e = let s = rules.splits x l e in and_from _ _ (lt-ltb _ _ s.0) (and_from _ _ (alike_from _ _ s.1) (alike_from _ _ s.2))
      go shrink e = let s = rules.shrinks x l e in and_from _ _ (inside_from _ _ s.0) (and_from _ _ (ap is_leaf s.1) (alike_from _ _ s.2))

  pub lawful_from_rules : lawful m node ≡ true
  unfolding lawful
  lawful_from_rules =
      and_from _ _ (lt-ltb 0 m rules.some)
      (and_from _ _ (every_all (sound node) m sound_from) (and_from _ _ (every_all (linked m node) m linked_from) (every_all (nested node) m nested_from)))

module _ (m : ℕ) (node : ℕ → Node) (counts : ℕ → ℕ → ℕ) (a : Samples) where
  pub right_says : right m node counts a ≡ true → Right m node counts a
  unfolding right counted
  right_says h x f l k =
      eqb-true _ _ (every_at (λ f. eqb (counts x f) (count (lies node a x f) a.slots)) 8 f (every_at (counted node counts a) m x h l) k)

  pub right_from : Right m node counts a → right m node counts a ≡ true
  unfolding right counted
  right_from r =
      every_all (counted node counts a) m
      (λ x l. every_all (λ f. eqb (counts x f) (count (lies node a x f) a.slots)) 8 (λ f k. eq-eqb _ _ (r x f l k)))
