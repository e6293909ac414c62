-- How a walk begins, and that it goes on where it says so. Assumes nothing.
use Rattle.std.proofs.Common.{◌≡◌, ℕ, zero, suc, ◌+◌, ◌<◌, ◌≤◌, Bool, true, false, cond, ◌&&◌, List, [], replicate, get_or, refl, ap, ◌∙◌, ⊎_elim, arith}
use Rattle.std.specs.Prelude.{nat_lt}
use Rattle.std.proofs.lemmas.Bool.{cases_eq}
use Rattle.entries.specs.Shows.{Shows}
use Rattle.entries.specs.declared.entry.Entry.{Entry}
use Rattle.entries.proofs.Replaced.{shows_none}
use Rattle.ranking.specs.Counts.{count}
use Rattle.ranking.proofs.Counted.{count_le}
use Rattle.walks.specs.Scenes.{Scene, Fair}
use Rattle.walks.specs.Views.{pick, is_settled, is_narrow, is_counted, commonest}
use Rattle.walks.specs.Walk.{Place, within, dropped, view, walk, going, end_by, end}
use Rattle.walks.proofs.Sound.{walks_sound}
use Rattle.walk.specs.Places.{entering, Vacant, Placed}
use Rattle.walk.proofs.Shown.{shows_ext}

pub zeros_at : (n s : ℕ) → ◌≡◌ {A = ℕ} (get_or (replicate n 0) s 0) 0
zeros_at zero s = refl
zeros_at (suc n) zero = refl
zeros_at (suc n) (suc s) = zeros_at n s

module _ (c : Scene) (u : ℕ → ℕ → Bool) (fair : Fair c u) where
  pub begun_none : Shows c (λ s. dropped) []
  begun_none = shows_none c (λ s. dropped) (λ s l. grind arith)

  pub begun_vacant : Vacant c u 0 (λ s. dropped)
  begun_vacant = record { below = fair.some; free = λ s l h i. refl; fresh = λ s l h. refl }

  -- all samples are at or below node 0
  pub begun_table : (es : List Entry) → Shows c (entering c u 0 (λ s. dropped)) es → Shows c (λ s. within 0) es
  begun_table es shows =
      shows_ext c (entering c u 0 (λ s. dropped)) (λ s. within 0) es
      (λ s l h. let r = fair.root s l h in let e : (c.held s && u 0 s) ≡ true = grind arith in ap (λ b. cond b (within 0) dropped) e) shows

  pub begun_places : (n : ℕ) → Placed c u (λ s. within 0) (replicate n 0)
  begun_places n = record {
    on_way = λ s l h. ap (λ y. u y s) (zeros_at n s) ∙ fair.root s l h;
    stands = λ x s l h e. let z : 0 ≡ x = cc in zeros_at n s ∙ z;
  }

  module _ (k n d : ℕ) (positive : 0 < k) (many : k ≤ count c.held c.slots) (ratio : d ≤ n) (i : ℕ) (before : (h : ℕ) → h < i → end c k n d (walk c k h) ≡ going) where
    -- there are no more steps than nodes
    pub few_steps : i ≤ c.nodes
    few_steps =
        let e = (walks_sound c u k n d fair positive many ratio).ends i before in
        let m = count_le (λ x. nat_lt 0 (count (λ s. c.held s && u x s) c.slots)) c.nodes in
        omega (arith, e, m)

    pub before_more : end c k n d (walk c k i) ≡ going → (h : ℕ) → h < i + 1 → end c k n d (walk c k h) ≡ going
    before_more now h l =
        ⊎_elim (λ (e : h ≡ i). ap (λ g. end c k n d (walk c k g)) e ∙ now) (λ ne. before h (omega arith)) (cases_eq h i)

-- where no node is active, a walk does not go on
stops : (c : Scene) (k : ℕ) (a b t : Bool) (f l : ℕ) → t ≡ true → end_by c k a b t f l ≡ going → ⊥
stops c k true b t f l e h = absurd (cc)
stops c k false true t f l e h = absurd (cc)
stops c k false false true f l e h = absurd (cc)
stops c k false false false f l e h = absurd (cc)

pub going_active : (c : Scene) (k n d : ℕ) (p : ℕ → Place) → end c k n d p ≡ going → is_counted (view c p) k ≡ true → ⊥
unfolding end
going_active c k n d p h e =
    stops c k (nat_lt 0 (count (is_settled (view c p) k) 8)) (nat_lt d n && is_narrow (view c p) k n d) (is_counted (view c p) k)
    (pick (is_settled (view c p) k) 8) (commonest (view c p) k) e h
