use Rattle.std.proofs.Common.{ℕ, min, get_or, ◌∙◌, subst}
use Rattle.ranking.specs.Majority.{tally}
use Rattle.ranking.proofs.Leading.{leader_same}
use Rattle.ranking.specs.Counts.{count}
use Rattle.walks.specs.Views.{active, listed}
use Rattle.walks.specs.Walk.{view}
use Rattle.entries.specs.Singles.{Last}
use Rattle.entries.proofs.Commonest.{listed_votes}
use Rattle.entries.proofs.table.Table.counted.Goals as goal

pub returns : goal.returns
returns c s p k whole shows spans few counted =
    let es = c.args.self.now.entries.items in
    let v = view s p in
    let found = c.last_candidate-last.ensures s p k whole shows spans counted in
    let last = subst (λ (n : ℕ). Last v.near (active v k) (min n (count (active v k) 256)) c.last_candidate-last.result) few found in
    c.most_common.ensures.value
    ∙ leader_same (λ f. get_or c.votes_by_fibre.result f 0) (tally (listed v k) s.fibre s.slots) 8 (λ f l. c.votes_by_fibre.ensures f l ∙ listed_votes s p k c.args.span spans counted whole c.last_candidate-last.result last es shows f l)
