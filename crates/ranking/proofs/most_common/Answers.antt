use Rattle.std.proofs.Common.{ℕ, get_or, refl, subst, sym, rules}
use Rattle.std.proofs.lemmas.Iterator.{YieldsList-from_range}
use Rattle.ranking.specs.Majority.{Leads}
use Rattle.ranking.proofs.Keyed.{leader_by_key}
use Rattle.ranking.proofs.Leading.{leader_leads}
use Rattle.ranking.proofs.most_common.Goals as goal

pub returns : goal.returns
returns c =
    let votes : ℕ → ℕ = λ j. get_or c.args.votes.now j 0 in
    let e = leader_by_key _ (λ k. k.0) votes _ (λ x k q h. search rules) 7 c.unwrap.result (rw c.unwrap.ensures at c.min_by_key.ensures.ran) (YieldsList-from_range 0 8 8 refl refl) in
    record { value = e; leads = subst (Leads votes 8) (sym e) (leader_leads votes 7) }
