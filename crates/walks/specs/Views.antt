-- What a walk knows of the samples at one moment, and what it may conclude. Assumes nothing.
--   View              the samples in its entries, by slot, each with the bounds of its entry
--   kth p v n k       the k-th smallest value of the slots below n that pass p, each slot counted
--   low, high         the k-th smallest near and far
--   inside, active    the samples of entries with far below low, and of the others that high does not drop
--   left              how many of the k are not inside
--   sure, most        how many votes a fibre has at least, and at most
--   is_settled v k f  f has more votes than any lower code can get, and at least as many as any higher one
--   is_narrow         no node is active whose far is to its near as more than n to d
--   is_counted        no node is active
--   listed v k s      the inside samples, and the first of the active ones by near and slot: k in all
--   place_of v k i s  the sample in slot s stands at place i of that list, in the order of weight and slot
--   nearest v k s     the k nearest samples
use Rattle.std.specs.Prelude.{ℕ, zero, suc, ◌+◌, ◌-◌, ◌*◌, Bool, cond, not, min, ◌&&◌, ◌||◌, ◌==◌, nat_le, nat_lt}
use Rattle.ranking.specs.Counts.{count}
use Rattle.ranking.specs.Majority.{tally, leader}
use Rattle.ranking.specs.Ranks.{nearer, rank, first}
use Rattle.trees.specs.Boxes.{every}

pub record View : Type 0 where
  pub slots : ℕ
  -- the slot holds a sample that stands in an entry
  pub entered : ℕ → Bool
  -- that entry is a node
  pub in_node : ℕ → Bool
  pub near : ℕ → ℕ
  pub far : ℕ → ℕ
  pub weight : ℕ → ℕ
  pub fibre : ℕ → ℕ

-- the number below n that passes, the largest if there are several, 0 if there is none
unfoldable pub pick : (ℕ → Bool) → ℕ → ℕ
pick p zero = 0
pick p (suc n) = cond (p n) n (pick p n)

unfoldable pub kth : (ℕ → Bool) → (ℕ → ℕ) → ℕ → ℕ → ℕ
kth p v n k = v (pick (λ s. p s && suc (rank p (nearer v) n s) == k) n)

module _ (v : View) (k : ℕ) where
  abbrev pub low : ℕ
  low = kth v.entered v.near v.slots k

  abbrev pub high : ℕ
  high = kth v.entered v.far v.slots k

  abbrev pub inside : ℕ → Bool
  inside s = v.entered s && nat_lt (v.far s) low

  abbrev pub active : ℕ → Bool
  active s = v.entered s && (nat_le low (v.far s) && nat_le (v.near s) high)

  abbrev pub left : ℕ
  left = k - count inside v.slots

  unfoldable pub sure : ℕ → ℕ
  sure f = tally inside v.fibre v.slots f + (left - (count active v.slots - tally active v.fibre v.slots f))

  unfoldable pub most : ℕ → ℕ
  most f = tally inside v.fibre v.slots f + min left (tally active v.fibre v.slots f)

  unfoldable pub is_settled : ℕ → Bool
  is_settled f = every (λ j. (j == f) || cond (nat_lt j f) (nat_lt (most j) (sure f)) (nat_le (most j) (sure f))) 8

  unfoldable pub is_narrow : ℕ → ℕ → Bool
  is_narrow n d = every (λ s. not (active s && v.in_node s) || nat_le (v.far s * d) (v.near s * n)) v.slots

  unfoldable pub is_counted : Bool
  is_counted = every (λ s. not (active s && v.in_node s)) v.slots

  unfoldable pub listed : ℕ → Bool
  listed s = inside s || first active (nearer v.near) v.slots left s

  abbrev pub commonest : ℕ
  commonest = leader (tally listed v.fibre v.slots) 8

  unfoldable pub place_of : ℕ → ℕ → Bool
  place_of i s = listed s && rank listed (nearer v.weight) v.slots s == i

  abbrev pub nearest : ℕ → Bool
  nearest s = first v.entered (nearer v.weight) v.slots k s

  abbrev pub verdict : ℕ
  verdict = leader (tally nearest v.fibre v.slots) 8
