-- How a walk ends is right, at every moment of it; and while it goes on, a node is opened. Assumes nothing.
use Rattle.std.proofs.Common.{◌≡◌, ℕ, ◌*◌, ◌<◌, ◌≤◌, Bool, true, false, ◌&&◌, refl, sym, ◌∙◌, subst, arith}
use Rattle.std.specs.Prelude.{nat_lt}
use Rattle.std.proofs.lemmas.Bool.Decides.{nat_tests}
use Rattle.ranking.specs.Counts.{count}
use Rattle.ranking.specs.Ranks.{nearer, rank}
use Rattle.ranking.proofs.Ranked.{nearer_strict, rank_below}
use Rattle.walks.specs.Scenes.{Scene, Fair, plain}
use Rattle.walks.specs.Views.{pick, kth, low, high, is_settled, is_narrow, is_counted, listed, commonest, nearest, verdict}
use Rattle.walks.specs.Walk.{Place, within, alone, dropped, is_node, view, opens, going, end_by, end}
use Rattle.walks.specs.Laws.{Near, Right}
use Rattle.walks.proofs.Firsts.{first_ranks, first_kth, first_leader}
use Rattle.walks.proofs.Moments.{weight_between, settled_verdict, counted_verdict, listed_many, listed_entered, listed_ratio, some_active}
use Rattle.walks.proofs.Opened.{stands_active, opens_some}
use Rattle.walks.proofs.Same.{pick_finds}
use Rattle.walks.proofs.Walked.{Stands, Walked, bounded}

node_within : (q : Place) → is_node q ≡ true → (x : ℕ) × (q ≡ within x)
node_within (within x) e = (x, refl)
node_within alone e = absurd (grind arith)
node_within dropped e = absurd (grind arith)

going_on : (c : Scene) (k : ℕ) (a b e : Bool) (f l : ℕ) → end_by c k a b e f l ≡ going → e ≡ false
going_on c k true b e f l h = absurd (cc)
going_on c k false true e f l h = absurd (cc)
going_on c k false false true f l h = absurd (cc)
going_on c k false false false f l h = refl

module _ (c : Scene) (u : ℕ → ℕ → Bool) (k : ℕ) (fair : Fair c u) (positive : 0 < k) (p : ℕ → Place) (w : Walked c u k p) where
  pub verdict_held : verdict (view c p) k ≡ verdict (plain c) k
  verdict_held = first_leader (view c p).entered c.held c.weight c.slots k w.same c.fibre 8

  pub between : (low (view c p) k ≤ kth c.held c.weight c.slots k) × (kth c.held c.weight c.slots k ≤ high (view c p) k)
  between =
      let b = weight_between (view c p) k (bounded c u k fair p w) positive w.enough in
      let e = first_kth (view c p).entered c.held c.weight c.slots k w.same in
      (omega (arith, b.0), omega (arith, b.1))

  -- the sample at a place below k is entered, and at that place among those entered
  near_ratio : (n d : ℕ) → d ≤ n → is_narrow (view c p) k n d ≡ true → (s t : ℕ) → s < c.slots → t < c.slots → listed (view c p) k s ≡ true → c.held t ≡ true →
      rank (listed (view c p) k) (nearer c.weight) c.slots s ≡ rank c.held (nearer c.weight) c.slots t → c.weight s * d ≤ c.weight t * n
  near_ratio n d r e s t ls lt a h same =
      let v = view c p in
      let b = bounded c u k fair p w in
      let many = listed_many v k b positive w.enough in
      let below = rank_below (nearer c.weight) (nearer_strict c.weight) (listed v k) c.slots s ls a in
      let first : nearest v k t ≡ true = w.same t lt ∙ grind (arith, nat_tests) in
      let ranks = first_ranks v.entered c.held c.weight c.slots k w.same t lt first in
      listed_ratio v k b positive w.enough n d r e s t ls lt a (grind arith) (same ∙ sym ranks)

  near : (n d : ℕ) → d ≤ n → is_narrow (view c p) k n d ≡ true → Near c k n d p
  near n d r e =
      let b = bounded c u k fair p w in
      record {
        many = listed_many (view c p) k b positive w.enough;
        samples = λ s l a. let f = listed_entered (view c p) k s a in grind arith;
        ratio = near_ratio n d r e;
      }

  pub right : (n d : ℕ) → d ≤ n → Right c k n d p (end c k n d p)
  unfolding end
  right n d r = go (nat_lt 0 (count (is_settled (view c p) k) 8)) refl (nat_lt d n && is_narrow (view c p) k n d) refl (is_counted (view c p) k) refl
    where
      go : (x : Bool) → nat_lt 0 (count (is_settled (view c p) k) 8) ≡ x → (y : Bool) → (nat_lt d n && is_narrow (view c p) k n d) ≡ y → (z : Bool) → is_counted (view c p) k ≡ z →
          Right c k n d p (end_by c k x y z (pick (is_settled (view c p) k) 8) (commonest (view c p) k))
      go true e y f z g =
          let a = pick_finds (is_settled (view c p) k) 8 (grind (arith, nat_tests)) in
          settled_verdict (view c p) k (bounded c u k fair p w) positive w.enough _ a.0 a.1 ∙ verdict_held
      go false e true f z g = (refl, near n d r (grind arith))
      go false e false f true g = counted_verdict (view c p) k (bounded c u k fair p w) positive w.enough g ∙ verdict_held
      go false e false f false g = tt

  -- while a walk goes on, it opens one node
  pub going_opens : (n d : ℕ) → end c k n d p ≡ going → count (opens c k p) c.nodes ≡ 1
  unfolding end
  going_opens n d e =
      let a = some_active (view c p) k (going_on c k _ _ _ _ _ e) in
      let f = node_within (p a.0) a.3 in
      let active = a.2 in
      let s = subst (λ q. Stands c u a.0 q) f.1 (w.stands a.0 a.1 (grind arith)) in
      opens_some c k p f.0 s.0 (stands_active c k p f.0 a.0 a.1 a.2 f.1)
