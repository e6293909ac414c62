-- The plan of a box and its size, by what its run and its core tell. Assumes nothing.
use Rattle.std.proofs.Common.{◌≡◌, ℕ, suc, ◌+◌, ◌<◌, ◌≤◌, true, false, List, ◌++◌, length, Option, Some, IfSome, sym, ap, ◌∙◌, subst, arith}
use Rattle.std.proofs.lemmas.Bool.{lt-ltb}
use Rattle.ranking.proofs.Counted.{count_le}
use Rattle.boxes.specs.Views.{Halved, box_of}
use Rattle.boxes.specs.declared.bounds.Bounds.{Bounds}
use Rattle.trees.specs.Boxes.{Box}
use Rattle.trees.specs.Drawing.{halve, focus, size, lodged, many, both, few, core, plan}
use Rattle.trees.specs.Samples.{Samples}
use Rattle.trees.proofs.Drawn.{plan_halve, plan_focus, few_says, core_here, core_inside}
use Rattle.drawing.specs.Builds.{over, nodes_of, Ready}
use Rattle.drawing.specs.Runs.{Run, Parted}
use Rattle.drawing.specs.declared.build.Builder.{Builder}
use Rattle.drawing.proofs.Lodging.{run_length, run_core, run_halves, halves_deeper}
use Rattle.trees.proofs.Numbering.{size_pos}

module _ (a : Samples) (k : Box) where
  plan_pos : 0 < size (plan a k)
  plan_pos = size_pos (plan a k)

  pub few_deep : 80 ≤ k.depth → few a k ≡ true
  unfolding few
  few_deep h = grind arith

  few_many : (m : ℕ) → m ≡ many a k → m ≤ 4 → few a k ≡ true
  unfolding few
  few_many m e h = grind arith

  not_few : (m : ℕ) → m ≡ many a k → 4 < m → k.depth < 80 → few a k ≡ false
  unfolding few
  not_few m e h d = grind arith

  -- what the run tells
  module _ (xs : List ℕ) (r : Run a k xs) where
    pub few_short : length xs ≤ 4 → few a k ≡ true
    few_short h = few_many (length xs) (run_length a k xs r) h

    pub full_long : 4 < length xs → k.depth < 80 → few a k ≡ false
    full_long h d = not_few (length xs) (run_length a k xs r) h d

    run_bound : length xs ≤ a.slots
    run_bound = omega (arith, run_length a k xs r, count_le (lodged a k) a.slots)

  -- what the core tells
  module _ (d : k.depth < 80) (i : Box) (e : i ≡ core a k) where
    pub deeper_one_half : k.depth < i.depth → both a k ≡ false
    deeper_one_half h =
        let x : both a k ≡ true → i.depth ≡ k.depth = λ b. ap (λ (j : Box). j.depth) (e ∙ core_here a k d b) in
        grind arith

    pub level_both : i.depth ≤ k.depth → both a k ≡ true
    level_both h =
        let x : both a k ≡ false → k.depth < (core a k).depth = λ b. (core_inside a k d b).0 in
        let y = ap (λ (j : Box). j.depth) e in
        grind arith

  module _ (f : few a k ≡ false) where
    pub full_depth : k.depth < 80
    full_depth = (few_says a k f).1

    pub split_plan : (l u : Box) → both a k ≡ true → Halved k l u → plan a k ≡ halve (plan a l) (plan a u)
    split_plan l u b h = let e = plan_halve a k f b in let p = h.low in let q = h.high in cc

    pub split_size : (l u : Box) → both a k ≡ true → Halved k l u → size (plan a k) ≡ suc (size (plan a l) + size (plan a u))
    split_size l u b h = ap size (split_plan l u b h)

    pub shrink_plan : (i : Box) → both a k ≡ false → i ≡ core a k → plan a k ≡ focus (core a k) (plan a i)
    shrink_plan i b p = let e = plan_focus a k f b in cc

    pub shrink_size : (i : Box) → both a k ≡ false → i ≡ core a k → size (plan a k) ≡ suc (size (plan a i) + 1)
    shrink_size i b p = ap size (shrink_plan i b p)

    pub shrink_deeper : (i : Box) → both a k ≡ false → i ≡ core a k → k.depth < i.depth
    shrink_deeper i b p =
        let e = (core_inside a k full_depth b).0 in
        let g = ap (λ (j : Box). j.depth) p in
        omega arith

    pub inner_run : (i : Box) → i ≡ core a k → (xs : List ℕ) → Run a k xs → Run a i xs
    inner_run i p xs r = subst (λ (j : Box). Run a j xs) (sym p) (run_core a k xs r full_depth)

-- a builder that is ready has a short run, and room for a node
module _ (b : Builder) (k : Bounds) (xs : List ℕ) (r : Ready b k xs) where
  pub ready_bound : length xs ≤ 256
  ready_bound = run_bound (over b) (box_of k) xs r.run

  pub ready_room : length (nodes_of b) < 1021
  ready_room = omega (arith, plan_pos (over b) (box_of k), r.room)

-- what a split gives to its halves: a part of the run, and room for its nodes
pub record Halves (a : Samples) (k l u : Box) (f b : List ℕ) : Type 0 where
  pub depth : k.depth < 80
  pub deeper : (l.depth ≡ suc k.depth) × (u.depth ≡ suc k.depth)
  pub size : size (plan a k) ≡ suc (size (plan a l) + size (plan a u))
  pub front : Run a l f
  pub back : Run a u b

module _ (a : Samples) (k l u : Box) (full : few a k ≡ false) (parts : both a k ≡ true) (h : Halved k l u) where
  pub halves_run : (xs ys f b : List ℕ) (m : ℕ) → Run a k xs → Parted (lodged a l) xs ys m → ys ≡ f ++ b → length f ≡ m → Halves a k l u f b
  halves_run xs ys f b m r p e n =
      let d = full_depth a k full in
      let t = sym (lt-ltb k.depth 80 d) in
      let z = run_halves a k l u h t xs r ys f b m p e n in
      record { depth = d; deeper = halves_deeper a k l u h t xs r; size = split_size a k full l u parts h; front = z.0; back = z.1 }

-- the halves that an unwrap gives
pub halves_of : (k : Bounds) (o : Option (Bounds × Bounds)) (x : Bounds × Bounds) → o ≡ Some x → IfSome o (λ y. Halved (box_of k) (box_of y.0) (box_of y.1)) → Halved (box_of k) (box_of x.0) (box_of x.1)
halves_of k o x e h = subst (λ p. IfSome p (λ y. Halved (box_of k) (box_of y.0) (box_of y.1))) e h
