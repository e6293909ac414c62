-- The votes of a table, as those of a view. Assumes nothing.
--   Polled v k b    b has the votes of the view v for the k nearest
--   Settles v k r   r is the fibre that is settled, or there is none
use Rattle.std.specs.Prelude.{◌≡◌, ℕ, ◌<◌, Option, Some, None, slice_index}
use Rattle.ranking.specs.Counts.{count}
use Rattle.ranking.specs.Majority.{tally}
use Rattle.walks.specs.Views.{View, pick, inside, active, left, is_settled}
use Rattle.entries.specs.declared.poll.Poll.{Poll}

pub record Polled (v : View) (k : ℕ) (b : Poll) : Type 0 where
  pub votes_inside : (f : ℕ) → f < 8 → slice_index b.inside f ≡ tally (inside v k) v.fibre v.slots f
  pub votes_active : (f : ℕ) → f < 8 → slice_index b.active f ≡ tally (active v k) v.fibre v.slots f
  pub size_active : b.all_active ≡ count (active v k) v.slots
  pub remains : b.left ≡ left v k

abbrev pub Settles : View → ℕ → Option ℕ → Type 0
Settles v k None = count (is_settled v k) 8 ≡ 0
Settles v k (Some f) = (0 < count (is_settled v k) 8) × (f ≡ pick (is_settled v k) 8)
