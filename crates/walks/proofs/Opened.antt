-- What a step opens: one node, active, with the least depth and then the lowest number of these. Assumes nothing.
use Rattle.std.proofs.Common.{◌≡◌, ℕ, ◌<◌, Bool, true, false, cond, not, ◌&&◌, eqb, refl, ap, ⊎_elim, arith}
use Rattle.std.proofs.lemmas.Bool.{cases_Bool}
use Rattle.std.proofs.lemmas.Bool.Decides.{nat_tests}
use Rattle.ranking.specs.Counts.{count}
use Rattle.ranking.specs.Ranks.{nearer}
use Rattle.ranking.proofs.Counted.{count_none, count_some, none_counted}
use Rattle.ranking.proofs.Ranked.{nearer_strict, rank_one, count_first}
use Rattle.trees.proofs.Boxed.{every_at}
use Rattle.walks.specs.Scenes.{Scene}
use Rattle.walks.specs.Views.{active, is_counted}
use Rattle.walks.specs.Walk.{Place, within, alone, dropped, is_within, is_node, view, is_active, opens, moved, opened, opening}
use Rattle.walks.proofs.Same.{pick_finds}

pub within_is : (q : Place) (x : ℕ) → is_within q x ≡ true → q ≡ within x
within_is (within y) x e = let f : y ≡ x = grind (arith, nat_tests) in ap within f
within_is alone x e = absurd (grind arith)
within_is dropped x e = absurd (grind arith)

pub is_within_at : (q : Place) (x : ℕ) → q ≡ within x → is_within q x ≡ true
is_within_at q x e = rw e (grind (arith, nat_tests))

module _ (c : Scene) (k : ℕ) (p : ℕ → Place) where
  -- an active node has an active sample
  pub active_stands : (x : ℕ) → is_active c k p x ≡ true → (s : ℕ) × (s < c.slots) × (active (view c p) k s ≡ true) × (p s ≡ within x)
  unfolding is_active
  active_stands x e =
      let f = pick_finds (λ s. active (view c p) k s && is_within (p s) x) c.slots (grind (arith, nat_tests)) in
      let g = f.1 in
      (_, f.0, grind arith, within_is _ x (grind arith))

  pub stands_active : (x s : ℕ) → s < c.slots → active (view c p) k s ≡ true → p s ≡ within x → is_active c k p x ≡ true
  unfolding is_active
  stands_active x s l a e =
      let w = is_within_at (p s) x e in
      let n = count_some (λ s. active (view c p) k s && is_within (p s) x) c.slots s l (grind arith) in
      grind (arith, nat_tests)

  pub opens_active : (x : ℕ) → opens c k p x ≡ true → is_active c k p x ≡ true
  unfolding opens
  opens_active x e = grind arith

  -- no active node comes before it
  pub opens_least : (x y : ℕ) → y < c.nodes → opens c k p x ≡ true → is_active c k p y ≡ true → nearer c.depth y x ≡ false
  unfolding opens
  opens_least x y l e a =
      let none = none_counted (λ t. is_active c k p t && nearer c.depth t x) c.nodes y (grind (arith, nat_tests)) l in
      grind arith

  pub least_opens : (x : ℕ) → is_active c k p x ≡ true → ((y : ℕ) → y < c.nodes → is_active c k p y ≡ true → nearer c.depth y x ≡ false) → opens c k p x ≡ true
  unfolding opens
  least_opens x a none =
      let e = count_none (λ t. is_active c k p t && nearer c.depth t x) c.nodes (λ y l. let n = none y l in grind arith) in
      grind (arith, nat_tests)

  pub opens_one : (x y : ℕ) → x < c.nodes → y < c.nodes → opens c k p x ≡ true → opens c k p y ≡ true → x ≡ y
  unfolding opens
  opens_one x y l m a b = rank_one (nearer c.depth) (nearer_strict c.depth) (is_active c k p) c.nodes x y l m (grind arith) (grind arith) (grind (arith, nat_tests))

  -- where a node is active, one is opened
  pub opens_some : (x : ℕ) → x < c.nodes → is_active c k p x ≡ true → count (opens c k p) c.nodes ≡ 1
  unfolding opens
  opens_some x l a =
      let n = count_some (is_active c k p) c.nodes x l a in
      let f = count_first (nearer c.depth) (nearer_strict c.depth) (is_active c k p) c.nodes 1 in
      omega arith

  -- where no active entry is a node, none is opened
  pub counted_none : is_counted (view c p) k ≡ true → (x : ℕ) → is_active c k p x ≡ false
  unfolding is_counted
  counted_none h x =
      ⊎_elim (λ e.
      let a = active_stands x e in
      let at = every_at (λ s. not (active (view c p) k s && (view c p).in_node s)) c.slots a.0 h a.1 in
      let node = ap is_node a.3 in
      let f = a.2 in
      absurd (grind arith))
      (λ e. e)
      (cases_Bool (is_active c k p x))

  module _ (x : ℕ) (below : x < c.nodes) (now : opens c k p x ≡ true) where
    pub opens_is : (y : ℕ) → y < c.nodes → opens c k p y ≡ eqb y x
    opens_is y l =
        let one = opens_one y x l below in
        let same : y ≡ x → opens c k p y ≡ opens c k p x = λ e. ap (opens c k p) e in
        grind (arith, nat_tests)

    opened_at : (q : Place) (s : ℕ) → ((y : ℕ) → q ≡ within y → y < c.nodes) → opened c k (opens c k p) q s ≡ cond (is_within q x) (moved c k (c.leaf x) x s) q
    opened_at (within y) s known = go (eqb y x) refl
      where
        go : (b : Bool) → eqb y x ≡ b → cond (opens c k p y) (moved c k (c.leaf y) y s) (within y) ≡ cond (eqb y x) (moved c k (c.leaf x) x s) (within y)
        go true e = let f : y ≡ x = grind (arith, nat_tests) in cc (opens_is y (known y refl))
        go false e = cc (opens_is y (known y refl))
    opened_at alone s known = refl
    opened_at dropped s known = refl

    -- only the samples of x move
    pub opening_at : (s : ℕ) → ((y : ℕ) → p s ≡ within y → y < c.nodes) → opening c k p s ≡ cond (is_within (p s) x) (moved c k (c.leaf x) x s) (p s)
    unfolding opening
    opening_at s known = opened_at (p s) s known
