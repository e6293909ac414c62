use Rattle.std.proofs.Common.{◌≡◌, ℕ, ◌+◌, ◌-◌, ◌<◌, ◌≤◌, ◌&&◌, eqb, get_or, set, replicate, is_some, sym, refl, ap, ◌∙◌, subst, ⊎_elim, arith, rules}
use Rattle.std.proofs.lemmas.Simd.{get_or-replicate}
use Rattle.std.proofs.lemmas.Bool.{both_ways, cases_lt}
use Rattle.std.specs.Iterator.Adapters.{take_source, take_count}
use Rattle.heap.specs.Contents.{content}
use Rattle.heap.specs.declared.Heap.{Heap}
use Rattle.ranking.specs.Majority.{tally}
use Rattle.ranking.specs.Ranks.{nearer, first}
use Rattle.ranking.proofs.Counted.{count_le}
use Rattle.samples.specs.Questions.{weights}
use Rattle.samples.specs.Slots.{table, held, point, fibre_at}
use Rattle.samples.specs.declared.candidate.Candidate.{Candidate}
use Rattle.samples.proofs.Picking.{Picked, picked, picking_some}
use Rattle.samples.proofs.Tabled.{fibre_some}
use Rattle.samples.proofs.Voting.{Voting, voting_begins, voting_steps}
use Rattle.samples.proofs.verdict.Question.nearest_votes.Given.{Over}
use Rattle.samples.proofs.verdict.Question.nearest_votes.Goals as goal
use Rattle.samples.proofs.verdict.Question.nearest_votes.Goals.{In-Some}

zeros : (f : ℕ) → f < 8 → ◌≡◌ {A = ℕ} (get_or (replicate 8 0) f 0) 0
zeros f l = get_or-replicate 8 f 0 0 l

pub loop-next-init : goal.loop-next-init
loop-next-init g c =
    let t = table c.args.self.now.slots.now in
    let w = weights g.M.Measure.weighed g.M.Measure.joined c.args.self.now in
    let it = c.into_iter-next-iterator in
    let same = it.ensures.into_iter_gives in
    let source = ap take_source same ∙ c.take-next-items.ensures.source in
    let count : take_count it.result ≡ c.args.k = ap take_count same ∙ c.take-next-items.ensures.count ∙ c.from.ensures in
    let none : 0 ≡ c.args.k - take_count it.result = omega arith in
    let begins = voting_begins w (held t) (fibre_at t) _ (replicate 8 0) c.weigh_all.ensures.holds c.weigh_all.ensures.heaped refl zeros in
    (tt, tt, omega arith, subst (λ (n : ℕ). Voting w (held t) (fibre_at t) n (content (take_source it.result)) (replicate 8 0)) none (subst (λ (h : Heap Candidate). Voting w (held t) (fibre_at t) 0 (content h) (replicate 8 0)) (sym source) begins))

-- the slot of the candidate that was taken out is the next nearest
taken : (g : Over) (c : In-Some g) → Picked (weights g.M.Measure.weighed g.M.Measure.joined c.args.self.now) (held (table c.args.self.now.slots.now)) (c.args.k - take_count c.loop-next.next-iterator) (content (take_source c.next.new.self)) c.in-Some.next.slot
taken g c =
    let steps = c.in-Some.ensures.steps in
    let inv = c.loop-next.invariant in
    picked _ _ (c.args.k - take_count c.loop-next.next-iterator) (omega (arith, steps.1, inv.2)) (content (take_source c.loop-next.next-iterator)) inv.3.holds (content (take_source c.next.new.self)) c.in-Some.next steps.0.0 (steps.0.3 inv.3.heaped)

pub overflow_add-votes : goal.overflow_add-votes
overflow_add-votes g c =
    let t = table c.args.self.now.slots.now in
    let w = weights g.M.Measure.weighed g.M.Measure.joined c.args.self.now in
    let f = c.fibre.result in
    let few = count_le (λ s. first (held t) (nearer w) 256 (c.args.k - take_count c.loop-next.next-iterator) s && eqb (fibre_at t s) f) 256 in
    let is = c.loop-next.invariant.3.tallied f c.fibre.ensures.coded in
    search rules

pub loop-next-preserved-in-Some-get : goal.loop-next-preserved-in-Some-get
loop-next-preserved-in-Some-get g c =
    let t = table c.args.self.now.slots.now in
    let w = weights g.M.Measure.weighed g.M.Measure.joined c.args.self.now in
    let k = c.args.k in
    let s = c.in-Some.next.slot in
    let i = k - take_count c.loop-next.next-iterator in
    let vs = c.loop-next.votes in
    let xs = content (take_source c.loop-next.next-iterator) in
    let ys = content (take_source c.next.new.self) in
    let inv = c.loop-next.invariant in
    let steps = c.in-Some.ensures.steps in
    let f : fibre_at t s ≡ c.from-in-Some-get.result =
    fibre_some t s (point c.in-Some-get.sample.now) c.in-Some-get.ensures ∙ sym c.fibre.ensures.value ∙ sym c.from-in-Some-get.ensures
    in
    let low : fibre_at t s < 8 = omega (arith, c.fibre.ensures.coded) in
    let more = voting_steps w (held t) (fibre_at t) i xs ys vs s inv.3 (taken g (goal.at.loop-next-preserved-in-Some-get g c).In-Some) (steps.0.2 inv.3.heaped) low in
    let next : i + 1 ≡ k - take_count c.next.new.self = omega (arith, steps.1, inv.2) in
    let all = subst (λ (n : ℕ). Voting w (held t) (fibre_at t) (i + 1) ys (set vs n (get_or vs n 0 + 1))) f more in
    let vs' = set vs c.from-in-Some-get.result (get_or vs c.from-in-Some-get.result 0 + 1) in
    (tt, tt, omega (arith, steps.1, inv.2), subst (λ (n : ℕ). Voting w (held t) (fibre_at t) n ys vs') next all)

pub loop-next-preserved : goal.loop-next-preserved
loop-next-preserved g c =
    let t = table c.args.self.now.slots.now in
    let s = c.in-Some.next.slot in
    absurd (both_ways (held t s) (ap is_some (sym c.in_default.ensures)) (taken g (goal.at.loop-next-preserved g c).In-Some).held)

pub returns : goal.returns
returns g c f l =
    let t = table c.args.self.now.slots.now in
    let w = weights g.M.Measure.weighed g.M.Measure.joined c.args.self.now in
    let k = c.args.k in
    let n = take_count c.loop-next.next-iterator in
    let inv = c.loop-next.invariant in
    let left : 0 < n → k - n ≡ k = λ more.
    absurd (picking_some w (held t) (k - n) (omega (arith, inv.2)) (content (take_source c.loop-next.next-iterator)) inv.3.holds (c.in-None.ensures.steps more).0.0)
    in
    let end : k - n ≡ k = ⊎_elim left (λ (none : n ≤ 0). omega arith) (cases_lt 0 n) in
    inv.3.tallied f l ∙ ap (λ n. tally (first (held t) (nearer w) 256 n) (fibre_at t) 256 f) end
