-- What a view says depends only on its slots that are entered. Assumes nothing.
use Rattle.std.proofs.Common.{◌≡◌, ℕ, ◌*◌, ◌<◌, ◌≤◌, Bool, true, cond, not, ◌&&◌, ◌||◌, eqb, leb, ltb, ap, ◌∙◌, arith}
use Rattle.ranking.specs.Counts.{count}
use Rattle.ranking.specs.Majority.{tally}
use Rattle.ranking.specs.Ranks.{nearer, rank, first}
use Rattle.ranking.proofs.Counted.{count_ext}
use Rattle.ranking.proofs.Leading.{leader_same}
use Rattle.trees.specs.Boxes.{every}
use Rattle.walks.specs.Scenes.{Scene}
use Rattle.walks.specs.Views.{View, kth, low, high, inside, active, left, sure, most, is_settled, is_narrow, is_counted, listed, commonest, place_of, nearest, verdict}
use Rattle.walks.specs.Walk.{Place, view, end}
use Rattle.walks.proofs.Every.{every_ext}
use Rattle.walks.proofs.Kths.{kth_ext}
use Rattle.walks.proofs.Same.{pick_ext}

-- two views that say the same of each slot that is entered
pub record Alike (v w : View) : Type 0 where
  pub slots : v.slots ≡ w.slots
  pub entered : (s : ℕ) → s < v.slots → v.entered s ≡ w.entered s
  pub in_node : (s : ℕ) → s < v.slots → v.entered s ≡ true → v.in_node s ≡ w.in_node s
  pub near : (s : ℕ) → s < v.slots → v.entered s ≡ true → v.near s ≡ w.near s
  pub far : (s : ℕ) → s < v.slots → v.entered s ≡ true → v.far s ≡ w.far s
  pub weight : (s : ℕ) → s < v.slots → v.entered s ≡ true → v.weight s ≡ w.weight s
  pub fibre : (s : ℕ) → s < v.slots → v.entered s ≡ true → v.fibre s ≡ w.fibre s

-- tests that agree, and values that agree where they pass
module _ (p q : ℕ → Bool) (x y : ℕ → ℕ) (n : ℕ) (same : (s : ℕ) → s < n → p s ≡ q s) (equal : (s : ℕ) → s < n → p s ≡ true → x s ≡ y s) where
  nearer_equal : (s t : ℕ) → x s ≡ y s → x t ≡ y t → nearer x s t ≡ nearer y s t
  unfolding nearer
  nearer_equal s t a b = cc

  pub rank_equal : (s : ℕ) → s < n → p s ≡ true → rank p (nearer x) n s ≡ rank q (nearer y) n s
  rank_equal s l h =
      let here = equal s l h in
      count_ext _ _ n (λ t m. let a = same t m in let b = equal t m in let c : p t ≡ true → nearer x t s ≡ nearer y t s = λ d. nearer_equal t s (b d) here in grind arith)

  pub first_equal : (k s : ℕ) → s < n → first p (nearer x) n k s ≡ first q (nearer y) n k s
  first_equal k s l = let a = same s l in let b = rank_equal s l in grind arith

  pub tally_equal : (j : ℕ) → tally p x n j ≡ tally q y n j
  tally_equal j = count_ext _ _ n (λ s l. let a = same s l in let b = equal s l in grind arith)

pub listed_entered : (v : View) (k s : ℕ) → listed v k s ≡ true → v.entered s ≡ true
unfolding listed
listed_entered v k s h = grind arith

module _ (v w : View) (a : Alike v w) (k : ℕ) (o : 0 < k) (e : k ≤ count v.entered v.slots) where
  kth_alike : (x y : ℕ → ℕ) → ((s : ℕ) → s < v.slots → v.entered s ≡ true → x s ≡ y s) → kth v.entered x v.slots k ≡ kth w.entered y w.slots k
  kth_alike x y f = kth_ext v.entered w.entered x y v.slots k o e a.entered f ∙ ap (λ n. kth w.entered y n k) a.slots

  pub low_alike : low v k ≡ low w k
  low_alike = kth_alike v.near w.near a.near

  pub high_alike : high v k ≡ high w k
  high_alike = kth_alike v.far w.far a.far

  pub inside_alike : (s : ℕ) → s < v.slots → inside v k s ≡ inside w k s
  inside_alike s l = let b = a.entered s l in let c = a.far s l in let d = low_alike in grind arith

  pub active_alike : (s : ℕ) → s < v.slots → active v k s ≡ active w k s
  active_alike s l =
      let b = a.entered s l in
      let c = a.near s l in
      let d = a.far s l in
      let f = low_alike in
      let g = high_alike in
      grind arith

  pub left_alike : left v k ≡ left w k
  left_alike = let b = count_ext (inside v k) (inside w k) v.slots inside_alike in let c = ap (count (inside w k)) a.slots in omega arith

  tally_alike : (p q : ℕ → Bool) → ((s : ℕ) → s < v.slots → p s ≡ q s) → ((s : ℕ) → s < v.slots → p s ≡ true → v.entered s ≡ true) → (f : ℕ) → tally p v.fibre v.slots f ≡ tally q w.fibre w.slots f
  tally_alike p q b c f = tally_equal p q v.fibre w.fibre v.slots b (λ s l h. a.fibre s l (c s l h)) f ∙ ap (λ n. tally q w.fibre n f) a.slots

  inside_tally : (f : ℕ) → tally (inside v k) v.fibre v.slots f ≡ tally (inside w k) w.fibre w.slots f
  inside_tally = tally_alike (inside v k) (inside w k) inside_alike (λ s l h. grind arith)

  active_tally : (f : ℕ) → tally (active v k) v.fibre v.slots f ≡ tally (active w k) w.fibre w.slots f
  active_tally = tally_alike (active v k) (active w k) active_alike (λ s l h. grind arith)

  pub sure_alike : (f : ℕ) → sure v k f ≡ sure w k f
  unfolding sure
  sure_alike f =
      let b = count_ext (active v k) (active w k) v.slots active_alike in
      let c = ap (count (active w k)) a.slots in
      let d = inside_tally f in
      let g = active_tally f in
      let h = left_alike in
      cc

  pub most_alike : (f : ℕ) → most v k f ≡ most w k f
  unfolding most
  most_alike f = let b = inside_tally f in let c = active_tally f in let d = left_alike in cc

  pub is_settled_alike : (f : ℕ) → is_settled v k f ≡ is_settled w k f
  unfolding is_settled
  is_settled_alike f =
      every_ext (λ j. eqb j f || cond (ltb j f) (ltb (most v k j) (sure v k f)) (leb (most v k j) (sure v k f)))
      (λ j. eqb j f || cond (ltb j f) (ltb (most w k j) (sure w k f)) (leb (most w k j) (sure w k f))) 8
      (λ j l. let b = most_alike j in let c = sure_alike f in cc)

  pub is_narrow_alike : (n d : ℕ) → is_narrow v k n d ≡ is_narrow w k n d
  unfolding is_narrow
  is_narrow_alike n d =
      every_ext _ _ v.slots (λ s l. let b = active_alike s l in let c = a.entered s l in let f = a.in_node s l in let g = a.near s l in let h = a.far s l in grind arith)
      ∙ ap (every (λ s. not (active w k s && w.in_node s) || leb (w.far s * d) (w.near s * n))) a.slots

  pub is_counted_alike : is_counted v k ≡ is_counted w k
  unfolding is_counted
  is_counted_alike =
      every_ext _ _ v.slots (λ s l. let b = active_alike s l in let c = a.in_node s l in grind arith) ∙ ap (every (λ s. not (active w k s && w.in_node s))) a.slots

  pub listed_alike : (s : ℕ) → s < v.slots → listed v k s ≡ listed w k s
  unfolding listed
  listed_alike s l =
      let b = inside_alike s l in
      let c = first_equal (active v k) (active w k) v.near w.near v.slots active_alike (λ t m h. a.near t m (grind arith)) (left v k) s l in
      let d = ap (λ n. first (active w k) (nearer w.near) n (left v k) s) a.slots in
      let f = ap (λ n. first (active w k) (nearer w.near) w.slots n s) left_alike in
      grind arith

  pub commonest_alike : commonest v k ≡ commonest w k
  commonest_alike = leader_same _ _ 8 (λ j l. tally_alike (listed v k) (listed w k) listed_alike (λ s m h. listed_entered v k s h) j)

  pub place_of_alike : (i s : ℕ) → s < v.slots → place_of v k i s ≡ place_of w k i s
  unfolding place_of
  place_of_alike i s l =
      let b = listed_alike s l in
      let c = rank_equal (listed v k) (listed w k) v.weight w.weight v.slots listed_alike (λ t m h. a.weight t m (listed_entered v k t h)) s l in
      let d = ap (λ n. rank (listed w k) (nearer w.weight) n s) a.slots in
      grind arith

  pub nearest_alike : (s : ℕ) → s < v.slots → nearest v k s ≡ nearest w k s
  nearest_alike s l =
      first_equal v.entered w.entered v.weight w.weight v.slots a.entered a.weight k s l ∙ ap (λ n. first w.entered (nearer w.weight) n k s) a.slots

  pub verdict_alike : verdict v k ≡ verdict w k
  verdict_alike = leader_same _ _ 8 (λ j l. tally_alike (nearest v k) (nearest w k) nearest_alike (λ s m h. grind arith) j)

-- how a walk ends depends only on what is known
pub end_alike : (c f : Scene) (p q : ℕ → Place) → Alike (view c p) (view f q) → (k n d : ℕ) → 0 < k → k ≤ count (view c p).entered c.slots → end c k n d p ≡ end f k n d q
unfolding end
end_alike c f p q a k n d o e =
    let settled = count_ext (is_settled (view c p) k) (is_settled (view f q) k) 8 (λ j l. is_settled_alike (view c p) (view f q) a k o e j) in
    let which = pick_ext (is_settled (view c p) k) (is_settled (view f q) k) 8 (λ j l. is_settled_alike (view c p) (view f q) a k o e j) in
    let narrow = is_narrow_alike (view c p) (view f q) a k o e n d in
    let counted = is_counted_alike (view c p) (view f q) a k o e in
    let common = commonest_alike (view c p) (view f q) a k o e in
    cc
