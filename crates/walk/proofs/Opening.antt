-- Opening a node: its samples stand nowhere, and then in its children, or alone one after the other. Assumes nothing.
use Rattle.std.proofs.Common.{◌≡◌, ℕ, ◌<◌, Bool, true, false, cond, ◌&&◌, eqb, ltb, List, get_or, sym, refl, ap, ◌∙◌, ⊎_elim, arith}
use Rattle.std.proofs.lemmas.Bool.{cases_Bool}
use Rattle.std.proofs.lemmas.Bool.Decides.{nat_tests}
use Rattle.walks.specs.Scenes.{Scene, Fair}
use Rattle.walks.specs.Walk.{Place, within, alone, dropped, is_within, is_kept, dropping, opens, moved, opening}
use Rattle.walks.proofs.Opened.{within_is, is_within_at, active_stands, opens_active, opening_at}
use Rattle.walks.proofs.Steps.{kept_within}
use Rattle.walks.proofs.Walked.{Stands, Walked}
use Rattle.walk.specs.Places.{leaving, entering, singled, Vacant, Placed}
use Rattle.walk.proofs.Parted.{Parted}
use Rattle.walk.proofs.Whole.{Whole}

stands_in : (c : Scene) (u : ℕ → ℕ → Bool) (s : ℕ) (q : Place) (x : ℕ) → Stands c u s q → is_within q x ≡ true → (x < c.nodes) × (u x s ≡ true)
stands_in c u s (within y) x a e = let f : y ≡ x = grind (arith, nat_tests) in (omega (arith, a.0), rw f at a.1)
stands_in c u s alone x a e = absurd (cc)
stands_in c u s dropped x a e = absurd (cc)

dropped_within : (b : Bool) (q : Place) (y : ℕ) → is_within (cond b dropped q) y ≡ true → is_within q y ≡ true
dropped_within true q y e = absurd (cc)
dropped_within false q y e = e

module _ (c : Scene) (u : ℕ → ℕ → Bool) (k : ℕ) (p : ℕ → Place) (walked : Walked c u k p) (whole : Whole c u p) (x : ℕ) (now : opens c k p x ≡ true) where
  -- the samples that stand in x are those at or below it
  pub has_all : (s : ℕ) → s < c.slots → c.held s ≡ true → is_within (p s) x ≡ u x s
  has_all s l h =
      let one = active_stands c k p x (opens_active c k p x now) in
      let held = one.2 in
      let there : u x s ≡ true → is_within (p s) x ≡ true = λ b. is_within_at (p s) x (whole x one.0 s one.1 l (grind arith) h one.3 b) in
      let here : is_within (p s) x ≡ true → u x s ≡ true = λ e. (stands_in c u s (p s) x (walked.stands s l h) e).1 in
      grind arith

  pub opens_below : x < c.nodes
  opens_below =
      let one = active_stands c k p x (opens_active c k p x now) in
      let held = one.2 in
      (stands_in c u one.0 (p one.0) x (walked.stands one.0 one.1 (grind arith)) (is_within_at (p one.0) x one.3)).0

  pub moves : (s : ℕ) → s < c.slots → c.held s ≡ true → opening c k p s ≡ cond (is_within (p s) x) (moved c k (c.leaf x) x s) (p s)
  moves s l h = opening_at c k p x opens_below now s (λ y e. (stands_in c u s (p s) y (walked.stands s l h) (is_within_at (p s) y e)).0)

  -- a leaf
  pub leaf_opening : c.leaf x ≡ true → (s : ℕ) → s < c.slots → c.held s ≡ true → singled c c.slots x p s ≡ opening c k p s
  leaf_opening e s l h = go (is_within (p s) x) refl
    where
      go : (b : Bool) → is_within (p s) x ≡ b → singled c c.slots x p s ≡ opening c k p s
      go true i =
          let a : ((c.held s && is_within (p s) x) && ltb s c.slots) ≡ true = grind (arith, nat_tests) in
          ap (λ b. cond b alone (leaving c x p s)) a ∙ ap (λ f. moved c k f x s) (sym e) ∙ ap (λ b. cond b (moved c k (c.leaf x) x s) (p s)) (sym i) ∙ sym (moves s l h)
      go false i =
          let a : ((c.held s && is_within (p s) x) && ltb s c.slots) ≡ false = grind (arith, nat_tests) in
          let g : (c.held s && is_within (p s) x) ≡ false = grind arith in
          ap (λ b. cond b alone (leaving c x p s)) a ∙ ap (λ b. cond b dropped (p s)) g ∙ ap (λ b. cond b (moved c k (c.leaf x) x s) (p s)) (sym i) ∙ sym (moves s l h)

  -- two children
  module _ (a b : ℕ) (parted : Parted c u x a b) where
    child_empty : (y s : ℕ) → s < c.slots → c.held s ≡ true → x < y → (u y s ≡ true → u x s ≡ true) → is_within (p s) y ≡ false
    child_empty y s l h up below =
        ⊎_elim
        (λ (e : is_within (p s) y ≡ true).
        let z = stands_in c u s (p s) y (walked.stands s l h) e in
        let f = has_all s l h in
        let g = below z.1 in
        let i : p s ≡ within x = within_is (p s) x (grind arith) in
        let m : is_within (within x) y ≡ true = rw i at e in
        absurd (grind (arith, nat_tests)))
        (λ e. e)
        (cases_Bool (is_within (p s) y))

    left_empty : (y s : ℕ) → is_within (p s) y ≡ false → is_within (leaving c x p s) y ≡ false
    left_empty y s e =
        ⊎_elim (λ (h : is_within (leaving c x p s) y ≡ true). let f = dropped_within (c.held s && is_within (p s) x) (p s) y h in absurd (grind arith)) (λ e. e)
        (cases_Bool (is_within (leaving c x p s) y))

    below_first : (s : ℕ) → u a s ≡ true → u x s ≡ true
    below_first s h = let e = parted.first s in grind arith

    below_second : (s : ℕ) → u b s ≡ true → u x s ≡ true
    below_second s h = let e = parted.second s in grind arith

    not_both : (s : ℕ) → u a s ≡ true → u b s ≡ false
    not_both s h =
        let e = parted.first s in
        let f = parted.second s in
        let t = parted.twice in
        grind (arith, nat_tests)

    gone : (s : ℕ) → s < c.slots → c.held s ≡ true → u x s ≡ true → leaving c x p s ≡ dropped
    gone s l h i = let e = has_all s l h in let f : (c.held s && is_within (p s) x) ≡ true = grind arith in ap (λ b. cond b dropped (p s)) f

    pub first_vacant : Vacant c u a (leaving c x p)
    first_vacant = record {
      below = parted.below.0;
      free = λ s l h i. ap is_kept (gone s l h (below_first s i));
      fresh = λ s l h. left_empty a s (child_empty a s l h parted.up.0 (below_first s));
    }

    first_other : (s : ℕ) → u a s ≡ false → entering c u a (leaving c x p) s ≡ leaving c x p s
    first_other s i = let e : (c.held s && u a s) ≡ false = grind arith in ap (λ b. cond b (within a) (leaving c x p s)) e

    first_in : (s : ℕ) → c.held s ≡ true → u a s ≡ true → entering c u a (leaving c x p) s ≡ within a
    first_in s h i = let e : (c.held s && u a s) ≡ true = grind arith in ap (λ b. cond b (within a) (leaving c x p s)) e

    pub second_vacant : Vacant c u b (entering c u a (leaving c x p))
    second_vacant = record {
      below = parted.below.1;
      free = λ s l h i. let n = not_both s in let o : u a s ≡ false = grind arith in ap is_kept (first_other s o ∙ gone s l h (below_second s i));
      fresh = λ s l h. go s l h (u a s) refl;
    }
      where
        go : (s : ℕ) → s < c.slots → c.held s ≡ true → (d : Bool) → u a s ≡ d → is_within (entering c u a (leaving c x p) s) b ≡ false
        go s l h true i = let t = parted.twice in let e = ap (λ q. is_within q b) (first_in s h i) in let f : eqb a b ≡ false = grind (arith, nat_tests) in e ∙ f
        go s l h false i = ap (λ q. is_within q b) (first_other s i) ∙ left_empty b s (child_empty b s l h parted.up.1 (below_second s))

    pub split_opening : (s : ℕ) → s < c.slots → c.held s ≡ true → entering c u b (entering c u a (leaving c x p)) s ≡ opening c k p s
    split_opening s l h = go (u b s) refl (u a s) refl
      where
        before : Place
        before = entering c u a (leaving c x p) s

        in_x : (y : ℕ) → u x s ≡ true → c.child x s ≡ y → within y ≡ opening c k p s
        in_x y i e =
            let f = has_all s l h in
            ap within (sym e) ∙ ap (λ o. moved c k o x s) (sym parted.inner) ∙ ap (λ b. cond b (moved c k (c.leaf x) x s) (p s)) (sym (f ∙ i)) ∙ sym (moves s l h)

        go : (d : Bool) → u b s ≡ d → (f : Bool) → u a s ≡ f → entering c u b (entering c u a (leaving c x p)) s ≡ opening c k p s
        go true i f j =
            let e : (c.held s && u b s) ≡ true = grind arith in
            let g = parted.second s in
            ap (λ d. cond d (within b) (entering c u a (leaving c x p) s)) e ∙ in_x b (below_second s i) (grind (arith, nat_tests))
        go false i true j =
            let e : (c.held s && u b s) ≡ false = grind arith in
            let g = parted.first s in
            ap (λ d. cond d (within b) (entering c u a (leaving c x p) s)) e ∙ first_in s h j ∙ in_x a (below_first s j) (grind (arith, nat_tests))
        go false i false j =
            let e : (c.held s && u b s) ≡ false = grind arith in
            let g = parted.first s in
            let m = parted.second s in
            let o = parted.one s in
            let f = has_all s l h in
            let n : is_within (p s) x ≡ false = grind arith in
            ap (λ d. cond d (within b) (entering c u a (leaving c x p) s)) e ∙ first_other s j ∙ ap (λ d. cond d dropped (p s)) (let g : (c.held s && is_within (p s) x) ≡ false = grind arith in g) ∙ ap (λ d. cond d (moved c k (c.leaf x) x s) (p s)) (sym n) ∙ sym (moves s l h)

  -- the node of each slot
  module _ (at : List ℕ) (placed : Placed c u p at) where
    pub stands_test : (s : ℕ) → s < c.slots → c.held s ≡ true → eqb (get_or at s 0) x ≡ is_within (p s) x
    stands_test s l h =
        let way = placed.on_way s l h in
        let here : is_within (p s) x ≡ true → get_or at s 0 ≡ x = λ e. placed.stands x s l h (within_is (p s) x e) in
        let all = has_all s l h in
        let same : get_or at s 0 ≡ x → u (get_or at s 0) s ≡ u x s = λ e. ap (λ y. u y s) e in
        grind (arith, nat_tests)

    pub placed_leaf : c.leaf x ≡ true → Placed c u (opening c k p) at
    placed_leaf e = record { on_way = placed.on_way; stands = λ y s l h i. go y s l h (is_within (p s) x) refl i }
      where
        go : (y s : ℕ) → s < c.slots → c.held s ≡ true → (b : Bool) → is_within (p s) x ≡ b → opening c k p s ≡ within y → get_or at s 0 ≡ y
        go y s l h true f i =
            let a : opening c k p s ≡ alone = moves s l h ∙ ap (λ b. cond b (moved c k (c.leaf x) x s) (p s)) f ∙ ap (λ o. moved c k o x s) e in
            absurd (cc)
        go y s l h false f i =
            let a : opening c k p s ≡ p s = moves s l h ∙ ap (λ b. cond b (moved c k (c.leaf x) x s) (p s)) f in
            placed.stands y s l h (sym a ∙ i)

    pub placed_split : Fair c u → c.leaf x ≡ false → (new : List ℕ) → ((s : ℕ) → s < c.slots → c.held s ≡ true → get_or new s 0 ≡ cond (eqb (get_or at s 0) x) (c.child x s) (get_or at s 0)) → Placed c u (opening c k p) new
    placed_split fair e new is = record {
      on_way = λ s l h. way s l h (eqb (get_or at s 0) x) refl;
      stands = λ y s l h i. go y s l h (is_within (p s) x) refl i;
    }
      where
        way : (s : ℕ) → s < c.slots → c.held s ≡ true → (b : Bool) → eqb (get_or at s 0) x ≡ b → u (get_or new s 0) s ≡ true
        way s l h true f =
            let g = stands_test s l h in
            let i = has_all s l h in
            let d = fair.down x s opens_below l h e (grind arith) in
            ap (λ y. u y s) (is s l h ∙ ap (λ b. cond b (c.child x s) (get_or at s 0)) f) ∙ d.2
        way s l h false f = ap (λ y. u y s) (is s l h ∙ ap (λ b. cond b (c.child x s) (get_or at s 0)) f) ∙ placed.on_way s l h

        go : (y s : ℕ) → s < c.slots → c.held s ≡ true → (b : Bool) → is_within (p s) x ≡ b → opening c k p s ≡ within y → get_or new s 0 ≡ y
        go y s l h true f i =
            let a : opening c k p s ≡ within (c.child x s) = moves s l h ∙ ap (λ b. cond b (moved c k (c.leaf x) x s) (p s)) f ∙ ap (λ o. moved c k o x s) e in
            let n = is s l h ∙ ap (λ b. cond b (c.child x s) (get_or at s 0)) (stands_test s l h ∙ f) in
            cc
        go y s l h false f i =
            let a : opening c k p s ≡ p s = moves s l h ∙ ap (λ b. cond b (moved c k (c.leaf x) x s) (p s)) f in
            let n = is s l h ∙ ap (λ b. cond b (c.child x s) (get_or at s 0)) (stands_test s l h ∙ f) in
            n ∙ placed.stands y s l h (sym a ∙ i)

-- a drop moves no sample to a node
pub placed_dropping : (c : Scene) (u : ℕ → ℕ → Bool) (k : ℕ) (p : ℕ → Place) (at : List ℕ) → Placed c u p at → Placed c u (dropping c k p) at
unfolding dropping
placed_dropping c u k p at placed = record { on_way = placed.on_way; stands = λ x s l h e. placed.stands x s l h (kept_within c k _ (p s) x e) }
