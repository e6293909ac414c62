-- While a walk goes on, a node that has a sample has all the samples that belong at or below it. Assumes nothing.
use Rattle.std.proofs.Common.{◌≡◌, ℕ, zero, suc, ◌<◌, Bool, true, false, cond, sym, refl, ap, ◌∙◌, ⊎_elim}
use Rattle.std.specs.Prelude.{nat_lt}
use Rattle.walks.specs.Scenes.{Scene}
use Rattle.walks.specs.Views.{high}
use Rattle.walks.specs.Walk.{Place, within, dropped, bound_at, view, dropping, opens, moved, opened, opening, walk}
use Rattle.walks.proofs.Steps.{opened_before, kept_within}

-- what belongs below a child belongs below its parent, and goes to that child
abbrev pub Upward : Scene → (ℕ → ℕ → Bool) → Type 0
Upward c u = (x s t : ℕ) → x < c.nodes → c.leaf x ≡ false → u (c.child x s) t ≡ true → (u x t ≡ true) × (c.child x t ≡ c.child x s)

abbrev pub Whole : Scene → (ℕ → ℕ → Bool) → (ℕ → Place) → Type 0
Whole c u p = (x s t : ℕ) → s < c.slots → t < c.slots → c.held s ≡ true → c.held t ≡ true → p s ≡ within x → u x t ≡ true → p t ≡ within x

kept_test : (b : Bool) (q : Place) (x : ℕ) → cond b dropped q ≡ within x → b ≡ false
kept_test true q x h = absurd (cc)
kept_test false q x h = refl

module _ (c : Scene) (u : ℕ → ℕ → Bool) (k : ℕ) where
  -- all samples of a node are dropped together
  pub dropping_whole : (p : ℕ → Place) → Whole c u p → Whole c u (dropping c k p)
  unfolding dropping
  dropping_whole p whole x s t l m h i e b =
      let test = nat_lt (high (view c p) k) in
      let here : p s ≡ within x = kept_within c k (test ((view c p).near s)) (p s) x e in
      let there : p t ≡ within x = whole x s t l m h i here b in
      let low = kept_test (test ((view c p).near s)) (p s) x e in
      let near : (view c p).near t ≡ (view c p).near s = ap (λ q. bound_at c.near c.weight q t) there ∙ ap (λ q. bound_at c.near c.weight q s) (sym here) in
      ap (λ n. cond (test n) dropped (p t)) near ∙ ap (λ b. cond b dropped (p t)) low ∙ there

  module _ (up : Upward c u) where
    opened_whole : (o : ℕ → Bool) (p : ℕ → Place) → Whole c u p → ((x s : ℕ) → s < c.slots → c.held s ≡ true → p s ≡ within x → x < c.nodes) → Whole c u (λ s. opened c k o (p s) s)
    opened_whole o p whole known x s t l m h i e b =
        ⊎_elim
        (λ a.
        let there = whole x s t l m h i a.0 b in
        ap (λ q. opened c k o q t) there ∙ ap (λ r. cond r (moved c k (c.leaf x) x t) (within x)) a.1)
        (λ a.
        let y = a.0 in
        let above = up y s t (known y s l h a.1) a.3 (rw (sym a.4) at b) in
        let there = whole y s t l m h i a.1 above.0 in
        ap (λ q. opened c k o q t) there
        ∙ ap (λ r. cond r (moved c k (c.leaf y) y t) (within y)) a.2
        ∙ ap (λ f. moved c k f y t) a.3
        ∙ ap within (above.1 ∙ a.4))
        (opened_before c k o (p s) s x e)

    module _ (known : (i x s : ℕ) → s < c.slots → c.held s ≡ true → walk c k i s ≡ within x → x < c.nodes) where
      pub walk_whole : (i : ℕ) → Whole c u (walk c k i)
      unfolding walk opening
      walk_whole zero = dropping_whole (λ s. within 0) (λ x s t l m h i e b. e)
      walk_whole (suc i) = dropping_whole (opening c k (walk c k i)) (opened_whole (opens c k (walk c k i)) (walk c k i) (walk_whole i) (known i))
