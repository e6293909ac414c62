-- What holds at every moment of a walk: where samples stand, that k are entered, and that the nearest of them are the nearest of all. Assumes nothing.
use Rattle.std.proofs.Common.{◌≡◌, ℕ, zero, suc, ◌<◌, ◌≤◌, Bool, true, false, cond, not, ◌&&◌, refl, ◌∙◌, arith}
use Rattle.std.specs.Prelude.{nat_le, nat_lt}
use Rattle.std.proofs.lemmas.Bool.Decides.{nat_tests}
use Rattle.ranking.specs.Counts.{count}
use Rattle.ranking.specs.Ranks.{nearer, first}
use Rattle.ranking.proofs.Counted.{count_ext}
use Rattle.walks.specs.Scenes.{Scene, Fair, plain}
use Rattle.walks.specs.Views.{high, nearest}
use Rattle.walks.specs.Walk.{Place, within, alone, dropped, is_kept, is_node, bound_at, view, dropping, opens, moved, opened, opening, walk}
use Rattle.walks.proofs.Moments.{Bounded, kept_enough, kept_nearest}
use Rattle.walks.proofs.Same.{first_ext}

-- a sample stands in a node on its way, or alone, or was dropped
abbrev pub Stands : Scene → (ℕ → ℕ → Bool) → ℕ → Place → Type 0
Stands c u s (within x) = (x < c.nodes) × (u x s ≡ true)
Stands c u s alone = Unit {0}
Stands c u s dropped = Unit {0}

kept_if : (b : Bool) (q : Place) → is_kept (cond b dropped q) ≡ (is_kept q && not b)
kept_if true q = grind arith
kept_if false q = grind arith

module _ (c : Scene) (k : ℕ) where
  -- a drop keeps what high reaches
  pub dropping_entered : (p : ℕ → Place) (s : ℕ) → (view c (dropping c k p)).entered s ≡ ((view c p).entered s && nat_le ((view c p).near s) (high (view c p) k))
  unfolding dropping
  dropping_entered p s =
      let e = kept_if (nat_lt (high (view c p) k) ((view c p).near s)) (p s) in
      grind (arith, nat_tests)

  opened_kept : (o : ℕ → Bool) (q : Place) (s : ℕ) → is_kept (opened c k o q s) ≡ is_kept q
  opened_kept o (within x) s = go (o x) (c.leaf x)
    where
      go : (b l : Bool) → is_kept (cond b (moved c k l x s) (within x)) ≡ true
      go true true = refl
      go true false = refl
      go false l = refl
  opened_kept o alone s = refl
  opened_kept o dropped s = refl

  -- opening keeps all
  pub opening_entered : (p : ℕ → Place) (s : ℕ) → (view c (opening c k p)).entered s ≡ (view c p).entered s
  unfolding opening
  opening_entered p s = let e = opened_kept (opens c k p) (p s) s in grind arith

  root_entered : (s : ℕ) → (view c (λ s. within 0)).entered s ≡ c.held s
  root_entered s = grind arith

  same_first : (p q : ℕ → Bool) → ((s : ℕ) → p s ≡ q s) → (s : ℕ) → s < c.slots → first p (nearer c.weight) c.slots k s ≡ first q (nearer c.weight) c.slots k s
  same_first p q e = first_ext p q c.slots (λ t _. e t) (nearer c.weight) k

module _ (c : Scene) (u : ℕ → ℕ → Bool) (k : ℕ) where
  pub record Walked (p : ℕ → Place) : Type 0 where
    pub stands : (s : ℕ) → s < c.slots → c.held s ≡ true → Stands c u s (p s)
    pub enough : k ≤ count (view c p).entered c.slots
    pub same : (s : ℕ) → s < c.slots → nearest (view c p) k s ≡ nearest (plain c) k s

  stands_if : (b : Bool) (s : ℕ) (q : Place) → Stands c u s q → Stands c u s (cond b dropped q)
  stands_if true s q a = tt
  stands_if false s q a = a

  dropping_stands : (p : ℕ → Place) (s : ℕ) → Stands c u s (p s) → Stands c u s (dropping c k p s)
  unfolding dropping
  dropping_stands p s a = stands_if (nat_lt (high (view c p) k) ((view c p).near s)) s (p s) a

  place_single : (q : Place) (s : ℕ) → is_kept q ≡ true → is_node q ≡ false → (bound_at c.near c.weight q s ≡ c.weight s) × (bound_at c.far c.weight q s ≡ c.weight s)
  place_single (within x) s e n = absurd (grind arith)
  place_single alone s e n = (refl, refl)
  place_single dropped s e n = absurd (grind arith)

  module _ (fair : Fair c u) where
    place_bounds : (q : Place) (s : ℕ) → s < c.slots → c.held s ≡ true → Stands c u s q → is_kept q ≡ true → (bound_at c.near c.weight q s ≤ c.weight s) × (c.weight s ≤ bound_at c.far c.weight q s)
    place_bounds (within x) s l h a e = fair.bounds x s a.0 l h a.1
    place_bounds alone s l h a e = (omega arith, omega arith)
    place_bounds dropped s l h a e = absurd (grind arith)

    pub bounded : (p : ℕ → Place) → Walked p → Bounded (view c p)
    bounded p w = record {
      bounds = λ s l e. place_bounds (p s) s l (grind arith) (w.stands s l (grind arith)) (grind arith);
      single = λ s l e n. place_single (p s) s (grind arith) n;
    }

    moved_stands : (x s : ℕ) → s < c.slots → c.held s ≡ true → x < c.nodes → u x s ≡ true → (l : Bool) → c.leaf x ≡ l → Stands c u s (moved c k l x s)
    moved_stands x s l h n a true e = tt
    moved_stands x s l h n a false e = let d = fair.down x s n l h e a in (d.1, d.2)

    opened_stands : (o : ℕ → Bool) (q : Place) (s : ℕ) → s < c.slots → c.held s ≡ true → Stands c u s q → Stands c u s (opened c k o q s)
    opened_stands o (within x) s l h a = go (o x)
      where
        go : (b : Bool) → Stands c u s (cond b (moved c k (c.leaf x) x s) (within x))
        go true = moved_stands x s l h a.0 a.1 (c.leaf x) refl
        go false = a
    opened_stands o alone s l h a = a
    opened_stands o dropped s l h a = a

    opening_stands : (p : ℕ → Place) → Walked p → (s : ℕ) → s < c.slots → c.held s ≡ true → Stands c u s (opening c k p s)
    unfolding opening
    opening_stands p w s l h = opened_stands (opens c k p) (p s) s l h (w.stands s l h)

    pub opening_walked : (p : ℕ → Place) → Walked p → Walked (opening c k p)
    opening_walked p w = record {
      stands = opening_stands p w;
      enough = let e = count_ext _ _ c.slots (λ s l. opening_entered c k p s) in omega (arith, w.enough);
      same = λ s l. same_first c k _ _ (opening_entered c k p) s l ∙ w.same s l;
    }

    module _ (positive : 0 < k) where
      pub dropping_walked : (p : ℕ → Place) → Walked p → Walked (dropping c k p)
      dropping_walked p w =
          let b = bounded p w in
          record {
            stands = λ s l h. dropping_stands p s (w.stands s l h);
            enough = let e = count_ext _ _ c.slots (λ s l. dropping_entered c k p s) in omega (arith, kept_enough (view c p) k b positive w.enough);
            same = λ s l. same_first c k _ _ (dropping_entered c k p) s l ∙ (kept_nearest (view c p) k b positive w.enough s l ∙ w.same s l);
          }

      module _ (many : k ≤ count c.held c.slots) where
        pub root_walked : Walked (λ s. within 0)
        root_walked = record {
          stands = λ s l h. (fair.some, fair.root s l h);
          enough = let e = count_ext _ _ c.slots (λ s l. root_entered c k s) in omega arith;
          same = λ s l. same_first c k _ _ (root_entered c k) s l;
        }

        pub walked : (i : ℕ) → Walked (walk c k i)
        unfolding walk
        walked zero = dropping_walked (λ s. within 0) root_walked
        walked (suc i) = dropping_walked (opening c k (walk c k i)) (opening_walked (walk c k i) (walked i))
