-- A node is opened at most once, so a walk makes no more steps than there are nodes that hold samples. Assumes nothing.
use Rattle.std.proofs.Common.{◌≡◌, ℕ, zero, suc, ◌+◌, ◌<◌, ◌≤◌, ◌⊎◌, inl, inr, Bool, true, false, cond, ◌&&◌, ◌||◌, sym, refl, ◌∙◌, subst, ⊎_elim, arith}
use Rattle.std.specs.Prelude.{nat_lt}
use Rattle.std.proofs.lemmas.Bool.Decides.{nat_tests}
use Rattle.std.proofs.lemmas.Bool.{cases_Bool}
use Rattle.ranking.specs.Counts.{count}
use Rattle.ranking.proofs.Counted.{count_none, count_some, count_split, count_imp}
use Rattle.walks.specs.Scenes.{Scene, Fair}
use Rattle.walks.specs.Walk.{Place, within, alone, dropped, dropping, opens, moved, opened, opening, walk}
use Rattle.walks.specs.Laws.{holders}
use Rattle.walks.proofs.Opened.{active_stands, opens_active, opens_one}
use Rattle.walks.proofs.Walked.{Stands, walked}

module _ (c : Scene) (k : ℕ) where
  -- where a sample that stands in x after a step stood before it
  abbrev pub Before : (ℕ → Bool) → ℕ → ℕ → Place → Type 0
  Before o s x q = ((q ≡ within x) × (o x ≡ false)) ⊎ ((y : ℕ) × (q ≡ within y) × (o y ≡ true) × (c.leaf y ≡ false) × (c.child y s ≡ x))

  pub opened_before : (o : ℕ → Bool) (q : Place) (s x : ℕ) → opened c k o q s ≡ within x → Before o s x q
  opened_before o (within y) s x h = go (o y) refl (c.leaf y) refl h
    where
      go : (b : Bool) → o y ≡ b → (l : Bool) → c.leaf y ≡ l → cond b (moved c k l y s) (within y) ≡ within x → Before o s x (within y)
      go true e true f h = absurd (cc)
      go true e false f h = inr (y, refl, e, f, cc)
      go false e l f h = let g : y ≡ x = cc in inl (h, rw g at e)
  opened_before o alone s x h = absurd (cc)
  opened_before o dropped s x h = absurd (cc)

  pub kept_within : (b : Bool) (q : Place) (x : ℕ) → cond b dropped q ≡ within x → q ≡ within x
  kept_within true q x h = absurd (cc)
  kept_within false q x h = h

  step_before : (i s x : ℕ) → walk c k (suc i) s ≡ within x → Before (opens c k (walk c k i)) s x (walk c k i s)
  unfolding walk dropping opening
  step_before i s x h = opened_before (opens c k (walk c k i)) (walk c k i s) s x (kept_within _ (opening c k (walk c k i) s) x h)

  root_before : (s x : ℕ) → walk c k 0 s ≡ within x → x ≡ 0
  unfolding walk dropping
  root_before s x h = let e = kept_within _ (within 0) x h in cc

  -- the nodes opened in the first i steps
  unfoldable pub opened_by : ℕ → ℕ → Bool
  opened_by zero x = false
  opened_by (suc i) x = opened_by i x || opens c k (walk c k i) x

  opened_none : (x : ℕ) → opened_by 0 x ≡ false
  unfolding opened_by
  opened_none x = refl

  opened_next : (i x : ℕ) → opened_by (suc i) x ≡ true → (opened_by i x ≡ true) ⊎ (opens c k (walk c k i) x ≡ true)
  unfolding opened_by
  opened_next i x h = go (opened_by i x) refl h
    where
      go : (b : Bool) → opened_by i x ≡ b → (b || opens c k (walk c k i) x) ≡ true → (opened_by i x ≡ true) ⊎ (opens c k (walk c k i) x ≡ true)
      go true e h = inl e
      go false e h = inr h

  opened_still : (i x : ℕ) → opened_by i x ≡ true → opened_by (suc i) x ≡ true
  unfolding opened_by
  opened_still i x h = grind arith

  opened_now : (i x : ℕ) → opens c k (walk c k i) x ≡ true → opened_by (suc i) x ≡ true
  unfolding opened_by
  opened_now i x h = grind arith

  -- x is the child of a node opened in the first i steps
  pub record Reached (i x : ℕ) : Type 0 where
    pub from : ℕ
    pub sample : ℕ
    pub below : from < c.nodes
    pub inner : c.leaf from ≡ false
    pub before : opened_by i from ≡ true
    pub leads : c.child from sample ≡ x

  reached_still : (i x : ℕ) → Reached i x → Reached (suc i) x
  reached_still i x r = record { from = r.from; sample = r.sample; below = r.below; inner = r.inner; before = opened_still i r.from r.before; leads = r.leads }

  pub record Once (i : ℕ) : Type 0 where
    -- no sample stands in a node that was opened, and what was opened or has samples was reached
    pub gone : (x s : ℕ) → s < c.slots → c.held s ≡ true → opened_by i x ≡ true → walk c k i s ≡ within x → ⊥
    pub after : (x : ℕ) → 0 < x → opened_by i x ≡ true → Reached i x
    pub arrived : (x s : ℕ) → 0 < x → s < c.slots → c.held s ≡ true → walk c k i s ≡ within x → Reached i x

  module _ (u : ℕ → ℕ → Bool) (fair : Fair c u) (positive : 0 < k) (many : k ≤ count c.held c.slots) where
    stands_at : (i x s : ℕ) → s < c.slots → c.held s ≡ true → walk c k i s ≡ within x → (x < c.nodes) × (u x s ≡ true)
    stands_at i x s l h e = subst (λ q. Stands c u s q) e ((walked c u k fair positive many i).stands s l h)

    -- an opened node has a sample in it
    opened_stands : (i x : ℕ) → opens c k (walk c k i) x ≡ true → (s : ℕ) × (s < c.slots) × (c.held s ≡ true) × (walk c k i s ≡ within x)
    opened_stands i x e =
        let a = active_stands c k (walk c k i) x (opens_active c k (walk c k i) x e) in
        let b = a.2 in
        (a.0, a.1, grind arith, a.3)

    module _ (i : ℕ) (once : Once i) where
      next_arrived : (x s : ℕ) → 0 < x → s < c.slots → c.held s ≡ true → walk c k (suc i) s ≡ within x → Reached (suc i) x
      next_arrived x s o l h e =
          ⊎_elim (λ a. reached_still i x (once.arrived x s o l h a.0))
          (λ a.
          let y = a.0 in
          record { from = y; sample = s; below = (stands_at i y s l h a.1).0; inner = a.3; before = opened_now i y a.2; leads = a.4 })
          (step_before i s x e)

      next_after : (x : ℕ) → 0 < x → opened_by (suc i) x ≡ true → Reached (suc i) x
      next_after x o e =
          ⊎_elim (λ a. reached_still i x (once.after x o a))
          (λ a. let t = opened_stands i x a in reached_still i x (once.arrived x t.0 o t.1 t.2 t.3))
          (opened_next i x e)

      -- a sample that comes to x from its parent y finds x unopened
      fresh : (x y s : ℕ) → s < c.slots → c.held s ≡ true → walk c k i s ≡ within y → opens c k (walk c k i) y ≡ true → c.leaf y ≡ false → c.child y s ≡ x → opened_by (suc i) x ≡ true → ⊥
      fresh x y s l h e o f g a =
          let b = stands_at i y s l h e in
          let d = fair.down y s b.0 l h f b.1 in
          ⊎_elim
          (λ (z : opened_by i x ≡ true).
          let r = once.after x (omega arith) z in
          let same : r.from ≡ y = fair.parent r.from y r.sample s r.below b.0 r.inner f (r.leads ∙ sym g) in
          once.gone y s l h (rw same at r.before) e)
          (λ (z : opens c k (walk c k i) x ≡ true).
          let t = opened_stands i x z in
          let m = stands_at i x t.0 t.1 t.2 t.3 in
          absurd (omega (arith, opens_one c k (walk c k i) x y m.0 b.0 z o)))
          (opened_next i x a)

      next_gone : (x s : ℕ) → s < c.slots → c.held s ≡ true → opened_by (suc i) x ≡ true → walk c k (suc i) s ≡ within x → ⊥
      next_gone x s l h o e =
          ⊎_elim (λ a.
          let b = a.1 in
          ⊎_elim (λ z. once.gone x s l h z a.0) (λ (z : opens c k (walk c k i) x ≡ true). absurd (grind arith)) (opened_next i x o))
          (λ a. fresh x a.0 s l h a.1 a.2 a.3 a.4 o)
          (step_before i s x e)

    pub opened_once : (i : ℕ) → Once i
    unfolding opened_by
    opened_once zero = record {
      gone = λ x s l h o e. absurd (cc);
      after = λ x l o. absurd (cc);
      arrived = λ x s l m h e. absurd (omega (arith, root_before s x e));
    }
    opened_once (suc i) =
        let before = opened_once i in
        record { gone = next_gone i before; after = next_after i before; arrived = next_arrived i before }

    -- a node that is opened was not opened before
    pub opens_fresh : (i x : ℕ) → opens c k (walk c k i) x ≡ true → opened_by i x ≡ false
    opens_fresh i x e =
        let t = opened_stands i x e in
        ⊎_elim (λ z. absurd ((opened_once i).gone x t.0 t.1 t.2 z t.3)) (λ z. z) (cases_Bool (opened_by i x))

    opened_more : (i : ℕ) → count (opened_by (suc i)) c.nodes ≡ count (opened_by i) c.nodes + count (opens c k (walk c k i)) c.nodes
    unfolding opened_by
    opened_more i = count_split _ _ _ c.nodes (λ x l. let f = opens_fresh i x in grind arith)

    opened_count : (i : ℕ) → ((j : ℕ) → j < i → count (opens c k (walk c k j)) c.nodes ≡ 1) → count (opened_by i) c.nodes ≡ i
    unfolding opened_by
    opened_count zero one = count_none _ c.nodes (λ x l. refl)
    opened_count (suc i) one = omega (arith, opened_more i, one i (omega arith), opened_count i (λ j l. one j (omega arith)))

    opens_holds : (i x : ℕ) → opens c k (walk c k i) x ≡ true → nat_lt 0 (count (λ s. c.held s && u x s) c.slots) ≡ true
    opens_holds i x e =
        let t = opened_stands i x e in
        let a = stands_at i x t.0 t.1 t.2 t.3 in
        let h = t.2 in
        let b = a.1 in
        let n = count_some (λ s. c.held s && u x s) c.slots t.0 t.1 (grind arith) in
        grind (arith, nat_tests)

    opened_holds : (i x : ℕ) → opened_by i x ≡ true → nat_lt 0 (count (λ s. c.held s && u x s) c.slots) ≡ true
    opened_holds zero x e = absurd (cc (opened_none x))
    opened_holds (suc i) x e = ⊎_elim (opened_holds i x) (opens_holds i x) (opened_next i x e)

    -- a step for each node that holds samples, at most
    pub steps_bound : (i : ℕ) → ((j : ℕ) → j < i → count (opens c k (walk c k j)) c.nodes ≡ 1) → i ≤ holders c u
    steps_bound i one =
        let a = count_imp (opened_by i) (λ x. nat_lt 0 (count (λ s. c.held s && u x s) c.slots)) c.nodes (λ x l e. opened_holds i x e) in
        omega (arith, opened_count i one)
