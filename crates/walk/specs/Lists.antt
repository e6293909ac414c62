-- The list of a walk that ends nearby. Assumes nothing.
--   Lists v k r         r has the slot of each place of the list of the view v, and the most common fibre in it
--   end_of e            the end that e stands for
--   is_nearby e         the end is a nearby one
--   Concludes v k e r   r is the end e, with the list of the view v where it is a nearby one
use Rattle.std.specs.Prelude.{◌≡◌, ℕ, ◌<◌, Bool, true, false, slice_index}
use Rattle.walks.specs.Views.{View, pick, place_of, commonest}
use Rattle.walks.specs.Walk as walks
use Rattle.entries.specs.Ends.{ending}
use Rattle.entries.specs.declared.end.End.{End as TableEnd}
use Rattle.walk.specs.declared.nearby.Conclusion.{Conclusion}
use Rattle.walk.specs.declared.nearby.List.{List}
use Rattle.walk.specs.declared.walk.End.{End}
use Rattle.walk.specs.declared.walk.End.TheVariants.{Going, Settled, Nearby, Counted}

pub record Lists (v : View) (k : ℕ) (r : List) : Type 0 where
  pub fibre : r.fibre ≡ commonest v k
  pub slots : (i : ℕ) → i < k → slice_index r.slots i ≡ pick (place_of v k i) v.slots

abbrev pub end_of : End → walks.End
end_of Going = walks.going
end_of (Settled f) = walks.settled f
end_of (Nearby f) = walks.nearby f
end_of (Counted f) = walks.counted f

abbrev pub is_nearby : walks.End → Bool
is_nearby walks.going = false
is_nearby (walks.settled f) = false
is_nearby (walks.nearby f) = true
is_nearby (walks.counted f) = false

pub record Concludes (v : View) (k : ℕ) (e : TableEnd) (r : Conclusion) : Type 0 where
  pub end : end_of r.end ≡ ending e (commonest v k)
  pub list : is_nearby (end_of r.end) ≡ true → (i : ℕ) → i < k → slice_index r.list i ≡ pick (place_of v k i) v.slots
