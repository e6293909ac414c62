-- A table gets an entry for a node, or for one sample after the other of a leaf. Assumes nothing.
use Rattle.std.proofs.Common.{◌≡◌, ℕ, ◌+◌, ◌<◌, Bool, true, false, cond, ◌&&◌, eqb, ltb, List, [], ◌∷◌, ◌++◌, get_or, sym, refl, ap, ◌∙◌, arith}
use Rattle.std.proofs.lemmas.Bool.Decides.{nat_tests}
use Rattle.ranking.specs.Counts.{bit, count}
use Rattle.ranking.specs.Majority.{tally}
use Rattle.ranking.proofs.Counted.{count_ext, count_at, none_counted}
use Rattle.walks.specs.Scenes.{Scene}
use Rattle.walks.specs.Walk.{Place, within, alone, dropped, is_within, is_kept}
use Rattle.entries.specs.Shows.{is_alone, members, Faithful, Shows}
use Rattle.entries.specs.declared.entry.Entry.{Entry}
use Rattle.entries.specs.declared.entry.Of.{Of}
use Rattle.entries.specs.declared.entry.Of.TheVariants.{Node, Sample}
use Rattle.walk.specs.Places.{leaving, entering, singled, Vacant}
use Rattle.walk.proofs.Shown.{shows_ext, added}

is_within_self : (y : ℕ) → is_within (within y) y ≡ true
is_within_self y = grind (arith, nat_tests)

-- a sample that stands in another node than y does not stand in y
two_nodes : (q : Place) (x y : ℕ) → is_within q x ≡ true → is_within q y ≡ true → x ≡ y
two_nodes (within z) x y a b = grind (arith, nat_tests)
two_nodes alone x y a b = absurd (grind arith)
two_nodes dropped x y a b = absurd (grind arith)

node_alone : (q : Place) (x : ℕ) → is_within q x ≡ true → is_alone q ≡ true → ⊥
node_alone (within z) x a b = grind arith
node_alone alone x a b = grind arith
node_alone dropped x a b = grind arith

module _ (c : Scene) (u : ℕ → ℕ → Bool) (p : ℕ → Place) (es : List Entry) (shows : Shows c p es) where
  module _ (y : ℕ) (vacant : Vacant c u y p) where
    abbrev after : ℕ → Place
    after = entering c u y p

    after_below : (s : ℕ) → (c.held s && u y s) ≡ true → after s ≡ within y
    after_below s h = ap (λ b. cond b (within y) (p s)) h

    after_other : (s : ℕ) → (c.held s && u y s) ≡ false → after s ≡ p s
    after_other s h = ap (λ b. cond b (within y) (p s)) h

    -- those that stand in y are those at or below it
    below_y : (s : ℕ) → s < c.slots → (c.held s && is_within (after s) y) ≡ (c.held s && u y s)
    below_y s l = go (c.held s && u y s) refl
      where
        go : (b : Bool) → (c.held s && u y s) ≡ b → (c.held s && is_within (after s) y) ≡ (c.held s && u y s)
        go true h = let a = ap (λ q. is_within q y) (after_below s h) in let i = is_within_self y in grind arith
        go false h =
            let a = ap (λ q. is_within q y) (after_other s h) in
            let f : c.held s ≡ true → is_within (p s) y ≡ false = vacant.fresh s l in
            grind arith

    -- where no sample is at or below y, no entry is made
    pub entered_none : count (λ s. c.held s && u y s) c.slots ≡ 0 → Shows c (entering c u y p) es
    entered_none none =
        shows_ext c p after es (λ s l h. let z = none_counted (λ s. c.held s && u y s) c.slots s none l in sym (after_other s z)) shows

    module _ (t n f m : ℕ) (v : List ℕ) (deep : t ≡ c.depth y) (near : n ≡ c.near y) (far : f ≡ c.far y) (some : 0 < m)
        (counts : m ≡ count (λ s. c.held s && u y s) c.slots) (votes : (j : ℕ) → j < 8 → get_or v j 0 ≡ tally (λ s. c.held s && u y s) c.fibre c.slots j) where
      abbrev made : Entry
      made = record { of = Node y t; near = n; far = f; count = m; fibres = v }

      made_faithful : Faithful c after made
      made_faithful = record {
        some = some;
        counts = counts ∙ sym (count_ext (members c after (Node y t)) (λ s. c.held s && u y s) c.slots below_y);
        votes = λ j l.
            votes j l
            ∙ sym (count_ext (λ s. members c after (Node y t) s && eqb (c.fibre s) j) (λ s. (c.held s && u y s) && eqb (c.fibre s) j) c.slots (λ s k. ap (λ b. b && eqb (c.fibre s) j) (below_y s k)));
        bounds = (vacant.below, deep, near, far);
      }

      apart : (o : Of) (s r : ℕ) → s < c.slots → r < c.slots → members c p o r ≡ true → members c after o s ≡ true → members c after (Node y t) s ≡ true → ⊥
      apart (Node x d) s r l k a b e =
          let same = two_nodes (after s) x y (grind arith) (grind arith) in
          let f = vacant.fresh r k (grind arith) in
          let g : is_within (p r) x ≡ is_within (p r) y = ap (is_within (p r)) same in
          grind arith
      apart (Sample x) s r l k a b e = node_alone (after s) y (grind arith) (grind arith)

      pub entered_node : Shows c (entering c u y p) (es ++ record { of = Node y t; near = n; far = f; count = m; fibres = v } ∷ [])
      entered_node =
          added c p after es shows made made_faithful
          (λ s l h. let b = below_y s l in vacant.free s l (grind arith) (grind arith))
          (λ s l n. let b = below_y s l in after_other s (grind arith))
          apart

-- the samples of leaf x, one slot after the other
pub single_begins : (c : Scene) (x : ℕ) (p : ℕ → Place) (es : List Entry) → Shows c (leaving c x p) es → Shows c (singled c 0 x p) es
single_begins c x p es shows =
    shows_ext c (leaving c x p) (singled c 0 x p) es (λ s l h. let e : ((c.held s && is_within (p s) x) && ltb s 0) ≡ false = grind (arith, nat_tests) in ap (λ b. cond b alone (leaving c x p s)) (sym e)) shows

module _ (c : Scene) (x : ℕ) (p : ℕ → Place) (n : ℕ) (es : List Entry) (shows : Shows c (singled c n x p) es) (l : n < c.slots) where
  abbrev now : ℕ → Place
  now = singled c n x p

  abbrev then_ : ℕ → Place
  then_ = singled c (n + 1) x p

  -- only slot n may move
  unmoved : (s : ℕ) → ((c.held s && is_within (p s) x) && eqb s n) ≡ false → then_ s ≡ now s
  unmoved s h = let e : ((c.held s && is_within (p s) x) && ltb s (n + 1)) ≡ ((c.held s && is_within (p s) x) && ltb s n) = grind (arith, nat_tests) in ap (λ b. cond b alone (leaving c x p s)) e

  pub single_none : (c.held n && is_within (p n) x) ≡ false → Shows c (singled c (n + 1) x p) es
  single_none none =
      shows_ext c now then_ es (λ s k h. let e : eqb s n ≡ true → (c.held s && is_within (p s) x) ≡ false = λ e. let f : s ≡ n = grind (arith, nat_tests) in rw f none in sym (unmoved s (grind arith))) shows

  pub single_nowhere : c.held n ≡ true → is_within (p n) x ≡ true → singled c n x p n ≡ dropped
  single_nowhere held stood =
      let e : ((c.held n && is_within (p n) x) && ltb n n) ≡ false = grind (arith, nat_tests) in
      let f : (c.held n && is_within (p n) x) ≡ true = grind arith in
      ap (λ b. cond b alone (leaving c x p n)) e ∙ ap (λ b. cond b dropped (p n)) f

  module _ (held : c.held n ≡ true) (stood : is_within (p n) x ≡ true) (w m : ℕ) (v : List ℕ) (weighs : w ≡ c.weight n) (one : m ≡ 1)
      (votes : (j : ℕ) → j < 8 → get_or v j 0 ≡ bit (eqb (c.fibre n) j)) where
    abbrev single : Entry
    single = record { of = Sample n; near = w; far = w; count = m; fibres = v }

    moved_alone : then_ n ≡ alone
    moved_alone = let e : ((c.held n && is_within (p n) x) && ltb n (n + 1)) ≡ true = grind (arith, nat_tests) in ap (λ b. cond b alone (leaving c x p n)) e

    stood_nowhere : now n ≡ dropped
    stood_nowhere = single_nowhere held stood

    only_n : (s : ℕ) → members c then_ (Sample n) s ≡ (eqb s n && c.held s)
    only_n s = go (eqb s n) refl
      where
        go : (b : Bool) → eqb s n ≡ b → members c then_ (Sample n) s ≡ (eqb s n && c.held s)
        go true e =
            let f : s ≡ n = grind (arith, nat_tests) in
            let a : is_alone (then_ s) ≡ true = rw f (ap is_alone moved_alone) in
            grind (arith, nat_tests)
        go false e = grind (arith, nat_tests)

    counted_one : (q : ℕ → Bool) → count (λ s. members c then_ (Sample n) s && q s) c.slots ≡ bit (q n)
    counted_one q =
        count_ext (λ s. members c then_ (Sample n) s && q s) (λ s. eqb s n && (c.held s && q s)) c.slots (λ s k. let e = only_n s in grind arith)
        ∙ count_at (λ s. c.held s && q s) n c.slots l
        ∙ ap (λ b. bit (b && q n)) held

    single_faithful : Faithful c then_ single
    single_faithful = record {
      some = omega arith;
      counts = one ∙ sym (counted_one (λ s. true)) ∙ count_ext (λ s. members c then_ (Sample n) s && true) (members c then_ (Sample n)) c.slots (λ s k. grind arith);
      votes = λ j k. votes j k ∙ sym (counted_one (λ s. eqb (c.fibre s) j));
      bounds = (weighs, weighs);
    }

    apart_n : (o : Of) (s r : ℕ) → s < c.slots → r < c.slots → members c now o r ≡ true → members c then_ o s ≡ true → members c then_ (Sample n) s ≡ true → ⊥
    apart_n (Node z d) s r k i a b e = node_alone (then_ s) z (grind arith) (grind arith)
    apart_n (Sample z) s r k i a b e =
        let f : r ≡ n = grind (arith, nat_tests) in
        let g : is_alone (now r) ≡ false = rw f (ap is_alone stood_nowhere) in
        grind arith

    pub single_node : Shows c (singled c (n + 1) x p) (es ++ record { of = Sample n; near = w; far = w; count = m; fibres = v } ∷ [])
    single_node =
        added c now then_ es shows single single_faithful
        (λ s k h. let e = only_n s in let f : s ≡ n = grind (arith, nat_tests) in rw f (ap is_kept stood_nowhere))
        (λ s k b. unmoved s (let e = only_n s in grind (arith, nat_tests)))
        apart_n
