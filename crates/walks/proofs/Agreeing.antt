-- Walks over scenes that agree on nodes and held samples agree. Assumes nothing.
use Rattle.std.proofs.Common.{◌≡◌, ℕ, zero, suc, ◌<◌, ◌≤◌, Bool, true, false, ◌&&◌, refl, ap, ◌∙◌, arith}
use Rattle.ranking.specs.Counts.{count}
use Rattle.ranking.specs.Ranks.{nearer, first}
use Rattle.ranking.proofs.Counted.{count_ext}
use Rattle.walks.specs.Scenes.{Scene, Fair}
use Rattle.walks.specs.Views.{active}
use Rattle.walks.specs.Walk.{Place, within, alone, dropped, is_within, is_node, is_kept, bound_at, view, dropping, is_active, opens, moved, opened, opening, walk, end}
use Rattle.walks.proofs.Alike.{Alike, high_alike, active_alike, end_alike, first_equal}
use Rattle.walks.proofs.Walked.{Stands, Walked, root_walked, opening_walked, walked}

-- two scenes that say the same of each node, and of each sample held
pub record Agree (c e : Scene) : Type 0 where
  pub slots : c.slots ≡ e.slots
  pub nodes : c.nodes ≡ e.nodes
  pub held : (s : ℕ) → s < c.slots → c.held s ≡ e.held s
  pub fibre : (s : ℕ) → s < c.slots → c.held s ≡ true → c.fibre s ≡ e.fibre s
  pub weight : (s : ℕ) → s < c.slots → c.held s ≡ true → c.weight s ≡ e.weight s
  pub leaf : (x : ℕ) → x < c.nodes → c.leaf x ≡ e.leaf x
  pub depth : (x : ℕ) → x < c.nodes → c.depth x ≡ e.depth x
  pub near : (x : ℕ) → x < c.nodes → c.near x ≡ e.near x
  pub far : (x : ℕ) → x < c.nodes → c.far x ≡ e.far x
  pub child : (x s : ℕ) → x < c.nodes → s < c.slots → c.held s ≡ true → c.child x s ≡ e.child x s

module _ (c e : Scene) (a : Agree c e) (u : ℕ → ℕ → Bool) (k : ℕ) where
  place_near : (q : Place) (s : ℕ) → s < c.slots → c.held s ≡ true → Stands c u s q → bound_at c.near c.weight q s ≡ bound_at e.near e.weight q s
  place_near (within x) s l h t = a.near x t.0
  place_near alone s l h t = a.weight s l h
  place_near dropped s l h t = refl

  place_far : (q : Place) (s : ℕ) → s < c.slots → c.held s ≡ true → Stands c u s q → bound_at c.far c.weight q s ≡ bound_at e.far e.weight q s
  place_far (within x) s l h t = a.far x t.0
  place_far alone s l h t = a.weight s l h
  place_far dropped s l h t = refl

  moved_agree : (l : Bool) (x s : ℕ) → c.child x s ≡ e.child x s → moved c k l x s ≡ moved e k l x s
  moved_agree true x s h = refl
  moved_agree false x s h = ap within h

  opened_agree : (o r : ℕ → Bool) → ((x : ℕ) → x < c.nodes → o x ≡ r x) → (q : Place) (s : ℕ) → s < c.slots → c.held s ≡ true → Stands c u s q → opened c k o q s ≡ opened e k r q s
  opened_agree o r same (within x) s l h t =
      let b = same x t.0 in
      let f = a.leaf x t.0 in
      let g = moved_agree (c.leaf x) x s (a.child x s t.0 l h) in
      cc
  opened_agree o r same alone s l h t = refl
  opened_agree o r same dropped s l h t = refl

  -- samples that stand where they stand in the other scene
  module _ (p q : ℕ → Place) (w : Walked c u k p) (same : (s : ℕ) → s < c.slots → c.held s ≡ true → p s ≡ q s) where
    near_agree : (s : ℕ) → s < c.slots → c.held s ≡ true → (view c p).near s ≡ (view e q).near s
    near_agree s l h = place_near (p s) s l h (w.stands s l h) ∙ ap (λ r. bound_at e.near e.weight r s) (same s l h)

    far_agree : (s : ℕ) → s < c.slots → c.held s ≡ true → (view c p).far s ≡ (view e q).far s
    far_agree s l h = place_far (p s) s l h (w.stands s l h) ∙ ap (λ r. bound_at e.far e.weight r s) (same s l h)

    entered_agree : (s : ℕ) → s < c.slots → (view c p).entered s ≡ (view e q).entered s
    entered_agree s l =
        let b = a.held s l in
        let f : c.held s ≡ true → is_kept (p s) ≡ is_kept (q s) = λ h. ap is_kept (same s l h) in
        grind arith

    pub views_alike : Alike (view c p) (view e q)
    views_alike = record {
      slots = a.slots;
      entered = entered_agree;
      in_node = λ s l f. ap is_node (same s l (grind arith));
      near = λ s l f. near_agree s l (grind arith);
      far = λ s l f. far_agree s l (grind arith);
      weight = λ s l f. a.weight s l (grind arith);
      fibre = λ s l f. a.fibre s l (grind arith);
    }

    module _ (positive : 0 < k) where
      pub end_agree : (n d : ℕ) → end c k n d p ≡ end e k n d q
      end_agree n d = end_alike c e p q views_alike k n d positive w.enough

      pub dropping_agree : (s : ℕ) → s < c.slots → c.held s ≡ true → dropping c k p s ≡ dropping e k q s
      unfolding dropping
      dropping_agree s l h =
          let b = high_alike (view c p) (view e q) views_alike k positive w.enough in
          let f = near_agree s l h in
          let g = same s l h in
          cc

      is_active_agree : (x : ℕ) → x < c.nodes → is_active c k p x ≡ is_active e k q x
      unfolding is_active
      is_active_agree x l =
          let b =
          count_ext (λ s. active (view c p) k s && is_within (p s) x) (λ s. active (view e q) k s && is_within (q s) x) c.slots
          (λ s m.
          let f = active_alike (view c p) (view e q) views_alike k positive w.enough s m in
          let g : c.held s ≡ true → is_within (p s) x ≡ is_within (q s) x = λ h. ap (λ r. is_within r x) (same s m h) in
          grind arith)
          in
          let d = ap (count (λ s. active (view e q) k s && is_within (q s) x)) a.slots in
          cc

      pub opens_agree : (x : ℕ) → x < c.nodes → opens c k p x ≡ opens e k q x
      unfolding opens
      opens_agree x l =
          first_equal (is_active c k p) (is_active e k q) c.depth e.depth c.nodes is_active_agree (λ y m _. a.depth y m) 1 x l
          ∙ ap (λ n. first (is_active e k q) (nearer e.depth) n 1 x) a.nodes

      pub opening_agree : (s : ℕ) → s < c.slots → c.held s ≡ true → opening c k p s ≡ opening e k q s
      unfolding opening
      opening_agree s l h =
          opened_agree (opens c k p) (opens e k q) opens_agree (p s) s l h (w.stands s l h) ∙ ap (λ r. opened e k (opens e k q) r s) (same s l h)

  module _ (fair : Fair c u) (positive : 0 < k) (many : k ≤ count c.held c.slots) where
    pub walk_agree : (i s : ℕ) → s < c.slots → c.held s ≡ true → walk c k i s ≡ walk e k i s
    unfolding walk
    walk_agree zero = dropping_agree (λ s. within 0) (λ s. within 0) (root_walked c u k fair positive many) (λ s l h. refl) positive
    walk_agree (suc i) =
        let w = walked c u k fair positive many i in
        let opens = opening_agree (walk c k i) (walk e k i) w (walk_agree i) positive in
        dropping_agree (opening c k (walk c k i)) (opening e k (walk e k i)) (opening_walked c u k fair (walk c k i) w) opens positive

    pub walk_ends_agree : (i n d : ℕ) → end c k n d (walk c k i) ≡ end e k n d (walk e k i)
    walk_ends_agree i n d = end_agree (walk c k i) (walk e k i) (walked c u k fair positive many i) (walk_agree i) positive n d
