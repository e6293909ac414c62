use Rattle.std.proofs.Common.{◌≡◌, ℕ, Bool, true, false, cond, nat_lt, Option, Some, None, refl, sym, ◌∙◌, subst, arith, rules, tests}
use Rattle.std.proofs.lemmas.Bool.Decides.{nat_tests}
use Rattle.std.proofs.lemmas.Iterator.{YieldsList-from_range}
use Rattle.std.proofs.lemmas.Iterator.Consumers.{YieldsList-from_filter}
use Rattle.ranking.specs.Counts.{count}
use Rattle.walks.specs.Views.{View, pick, is_settled}
use Rattle.entries.specs.Polls.{Settles}
use Rattle.entries.proofs.Ranges.{last_below, last_from_yields}
use Rattle.entries.proofs.poll.Poll.settled.Goals as goal

settles : (v : View) (k : ℕ) (r : Option ℕ) → r ≡ cond (nat_lt 0 (count (is_settled v k) 8)) (Some (pick (is_settled v k) 8)) None → Settles v k r
settles v k r e = subst (Settles v k) (sym e) (go (nat_lt 0 (count (is_settled v k) 8)) refl)
  where
    go : (b : Bool) → nat_lt 0 (count (is_settled v k) 8) ≡ b → Settles v k (cond b (Some (pick (is_settled v k) 8)) None)
    go true h = (grind (arith, nat_tests), refl)
    go false h = grind (arith, nat_tests)

pub returns : goal.returns
returns c v k polled =
    settles v k c.last.result
    (last_from_yields _ _ c.last.ensures.ran (YieldsList-from_filter _ (is_settled v k) (YieldsList-from_range 0 8 8 c.filter.ensures.source refl) c.filter.ensures.closure (λ x b q called. search (rules, tests)))
    ∙ last_below (is_settled v k) 8)
