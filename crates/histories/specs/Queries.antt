-- What a query says after so many steps, by the walk over the field that it holds. Assumes nothing.
--   holding f          how many nodes of the tree have samples at or below them
--   stage f a i        where the query of a stands after i steps: going on, at an end, or refused
--   goes_on e          it goes on
--   step_answer f a i  what a step answers: whether the query goes on after it, or 13 where it did not before
--   steps_after f a i  how many steps are then made
--   Until f a i m      from i steps on the query goes on until m are made, where it has ended
--   span f a i         the two bounds of the k-th nearest weight
--   witness f a i p    the slot at place p of the list, where the walk has ended nearby and the list has such a place
--   outcome e i        what closing it answers, where it stands at e after i steps
use Rattle.std.specs.Prelude.{◌≡◌, ℕ, suc, ◌<◌, ◌≤◌, Bool, true, false, cond, ◌&&◌, Ok, Err, Some, None, Option, Result, nat_lt}
use Rattle.ranking.specs.Counts.{count}
use Rattle.samples.specs.Slots.{held}
use Rattle.samples.specs.declared.refusal.Refusal.{Refusal}
use Rattle.samples.specs.declared.refusal.Refusal.TheVariants.{AfterTheEnd}
use Rattle.field.specs.Fields.{holds, node_count}
use Rattle.field.specs.declared.state.Field.{Field}
use Rattle.walks.specs.Views.{low, high}
use Rattle.walks.specs.Walk.{End, going, settled, nearby, counted}
use Rattle.bounding.specs.Fields.{belongs_in}
use Rattle.walk.specs.Lists.{is_nearby}
use Rattle.walk.specs.Questions.{Asked}
use Rattle.walk.specs.Stands.{view_at, end_at, listed_at}
use Rattle.histories.specs.declared.Outcome.{Outcome}
use Rattle.histories.specs.declared.Outcome.TheVariants as outcomes
use Rattle.histories.specs.declared.Progress.{Progress}
use Rattle.histories.specs.declared.Progress.TheVariants.{Going, Ended}

abbrev pub holding : Field → ℕ
holding f = count (λ x. nat_lt 0 (count (λ s. held (holds f) s && belongs_in f x s) 256)) (node_count f)

abbrev pub goes_on : Result End Refusal → Bool
goes_on (Ok going) = true
goes_on (Ok (settled f)) = false
goes_on (Ok (nearby f)) = false
goes_on (Ok (counted f)) = false
goes_on (Err e) = false

abbrev pub outcome : Result End Refusal → ℕ → Outcome
outcome (Ok going) i = outcomes.Abandoned
outcome (Ok (settled f)) i = outcomes.Settled f i
outcome (Ok (nearby f)) i = outcomes.Nearby f i
outcome (Ok (counted f)) i = outcomes.Counted f i
outcome (Err e) i = outcomes.Refused e

module _ (w j : ℕ → ℕ → ℕ) (f : Field) where
  abbrev pub stage : Result Asked Refusal → ℕ → Result End Refusal
  stage (Ok q) i = Ok (end_at w j f q i)
  stage (Err e) i = Err e

  abbrev pub step_answer : Result Asked Refusal → ℕ → Result Progress Refusal
  step_answer a i = cond (goes_on (stage a i)) (Ok (cond (goes_on (stage a (suc i))) Going Ended)) (Err AfterTheEnd)

  abbrev pub steps_after : Result Asked Refusal → ℕ → ℕ
  steps_after a i = cond (goes_on (stage a i)) (suc i) i

  pub record Until (a : Result Asked Refusal) (i m : ℕ) : Type 0 where
    pub later : i ≤ m
    pub going : (h : ℕ) → i ≤ h → h < m → goes_on (stage a h) ≡ true
    pub ended : goes_on (stage a m) ≡ false

  abbrev pub span : Result Asked Refusal → ℕ → Option (ℕ × ℕ)
  span (Ok q) i = Some (low (view_at w j f q i) q.k, high (view_at w j f q i) q.k)
  span (Err e) i = None

  abbrev pub witness : Result Asked Refusal → ℕ → ℕ → Option ℕ
  witness (Ok q) i p = cond (is_nearby (end_at w j f q i) && nat_lt p q.k) (Some (listed_at w j f q i p)) None
  witness (Err e) i p = None
