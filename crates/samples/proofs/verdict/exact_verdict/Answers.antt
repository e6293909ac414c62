use Rattle.std.proofs.Common.{◌≡◌, ℕ, ◌≤◌, true, leb, Ok, sym, ap, ◌∙◌, subst, arith, rules}
use Rattle.std.proofs.lemmas.Bool.{and_from, le-leb, cond-true}
use Rattle.std.specs.Prelude.{slice_index}
use Rattle.ranking.specs.Majority.{leader, Leads}
use Rattle.ranking.specs.Ranks.{nearer}
use Rattle.ranking.proofs.Leading.{leader_leads, leader_same}
use Rattle.ranking.proofs.Ranked.{count_first, nearer_strict}
use Rattle.samples.specs.Slots.{table, held}
use Rattle.samples.specs.Verdict.{samples, askable, weight_at, votes}
use Rattle.samples.proofs.verdict.exact_verdict.Goals as goal

pub returns : goal.returns
returns g c =
    let t = table c.args.slots.now in
    let r = c.args.reading.now in
    let k = c.args.k in
    let W = g.M.Measure.weighed c.args.measure.now in
    let J = g.M.Measure.joined c.args.measure.now in
    let of : ℕ → ℕ = votes W J t r k in
    let e : c.most_common.result ≡ leader of 8 = c.most_common.ensures.value ∙ leader_same _ of 8 (λ f l. subst (λ vs. slice_index c.nearest_votes.result f ≡ votes W J t vs k f) c.in_ok-reading.ensures.value (c.nearest_votes.ensures f l)) in
    let enough : k ≤ samples t = omega arith in
    let least : 1 ≤ k = search rules in
    let most : k ≤ 32 = search rules in
    let asked : askable r k ≡ true = and_from _ _ (le-leb 1 k least) (and_from _ _ (le-leb k 32 most) (sym c.in_ok-reading.ensures.test)) in
    let first = count_first (nearer (weight_at W J t r)) (nearer_strict (weight_at W J t r)) (held t) 256 k in
    record {
      value = ap Ok e ∙ sym (cond-true (askable r k) _ _ asked ∙ cond-true (leb k (samples t)) _ _ (le-leb k (samples t) enough));
      exact = record { voters = omega arith; leads = subst (Leads of 8) (sym e) (leader_leads of 7) };
    }
