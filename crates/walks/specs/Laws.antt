-- What is shown of the walk over every fair scene, for every question that has at least k samples. Assumes nothing.
--   Near v k n d   the list has k different samples of those held, the i-th at most n to d times as heavy as the i-th nearest
--   Right          a settled or counted fibre is the exact verdict, and a nearby list is near
--   Sound          each end is right, the k-th nearest weight lies between low and high, and a walk that goes on makes no more
--                  steps than there are nodes that hold samples
use Rattle.std.specs.Prelude.{◌≡◌, ℕ, ◌*◌, ◌<◌, ◌≤◌, Bool, true, ◌&&◌, nat_lt}
use Rattle.ranking.specs.Counts.{count}
use Rattle.ranking.specs.Ranks.{nearer, rank}
use Rattle.walks.specs.Scenes.{Scene, Fair, plain}
use Rattle.walks.specs.Views.{kth, low, high, listed, commonest, verdict}
use Rattle.walks.specs.Walk.{Place, view, walk, End, going, settled, nearby, counted, end}

pub record Near (c : Scene) (k n d : ℕ) (p : ℕ → Place) : Type 0 where
  pub many : count (listed (view c p) k) c.slots ≡ k
  pub samples : (s : ℕ) → s < c.slots → listed (view c p) k s ≡ true → c.held s ≡ true
  pub ratio : (s t : ℕ) → s < c.slots → t < c.slots → listed (view c p) k s ≡ true → c.held t ≡ true →
      rank (listed (view c p) k) (nearer c.weight) c.slots s ≡ rank c.held (nearer c.weight) c.slots t → c.weight s * d ≤ c.weight t * n

abbrev pub Right : Scene → ℕ → ℕ → ℕ → (ℕ → Place) → End → Type 0
Right c k n d p going = Unit {0}
Right c k n d p (settled f) = f ≡ verdict (plain c) k
Right c k n d p (nearby f) = (f ≡ commonest (view c p) k) × Near c k n d p
Right c k n d p (counted f) = f ≡ verdict (plain c) k

-- how many nodes have samples at or below them
abbrev pub holders : Scene → (ℕ → ℕ → Bool) → ℕ
holders c u = count (λ x. nat_lt 0 (count (λ s. c.held s && u x s) c.slots)) c.nodes

module _ (c : Scene) (u : ℕ → ℕ → Bool) (k n d : ℕ) where
  pub record Sound : Type 0 where
    pub right : (i : ℕ) → Right c k n d (walk c k i) (end c k n d (walk c k i))
    pub between : (i : ℕ) → (low (view c (walk c k i)) k ≤ kth c.held c.weight c.slots k) × (kth c.held c.weight c.slots k ≤ high (view c (walk c k i)) k)
    pub ends : (i : ℕ) → ((j : ℕ) → j < i → end c k n d (walk c k j) ≡ going) → i ≤ holders c u

abbrev pub Walks : Type 0
Walks = (c : Scene) (u : ℕ → ℕ → Bool) (k n d : ℕ) → Fair c u → 0 < k → k ≤ count c.held c.slots → d ≤ n → Sound c u k n d
