use Rattle.std.proofs.Common.{◌≡◌, ℕ, ◌+◌, List, is_some, sym, refl, ap, ◌∙◌, subst, arith}
use Rattle.heap.specs.Contents.{content, room, Pushed}
use Rattle.measure.specs.Weight.{weight_of}
use Rattle.samples.specs.Candidates.{candidate}
use Rattle.samples.specs.Slots.{table, held, point}
use Rattle.samples.specs.Questions.{weights}
use Rattle.samples.proofs.Gathered.{Gathered, gathered_at, gathered_none, gathered_skip, gathered_push}
use Rattle.samples.proofs.Tabled.{held_some, values_some}
use Rattle.samples.proofs.verdict.Question.weigh_all.Given.{Over}
use Rattle.samples.proofs.verdict.Question.weigh_all.Goals as goal
use Rattle.samples.proofs.verdict.Question.weigh_all.Goals.{Joined-get, in-Some, in_default}

pub loop-slot-init : goal.loop-slot-init
loop-slot-init g c = gathered_none _ _ _ c.requires.empty c.requires.room

-- the heap with the candidate of one slot more
step : (g : Over) (c : Joined-get g) → Gathered c.match-get.heap (weights g.M.Measure.weighed g.M.Measure.joined c.args.self.now) (held (table c.args.self.now.slots.now)) (c.loop-slot.slot + 1)
step g c =
    let t = table c.args.self.now.slots.now in
    let i = c.loop-slot.slot in
    let j = g.M.Measure.joined c.args.self.now.measure.now in
    let r = c.args.self.now.reading.values in
    let w = weights g.M.Measure.weighed g.M.Measure.joined c.args.self.now in
    let of : List ℕ → ℕ = λ vs. weight_of (g.M.Measure.weighed c.args.self.now.measure.now) j vs r in
    let h = c.loop-slot.heap in
    elim c.match-get.branch [
      | in-Some x ↦
          let x₀ = point x.in-Some.sample.now in
          let got = x.in-Some.ensures in
          let against : List ℕ → ℕ = weight_of (g.M.Measure.weighed c.args.self.now.measure.now) j x.values.result.now in
          let weight : x.weight-weight.result ≡ w i = x.weight-weight.ensures.value ∙ ap against x.values-in-Some.ensures ∙ ap of (x.values.ensures ∙ sym (values_some t i x₀ got)) in
          let k = x.push.new.self in
          let pushed : Pushed (content h) (room h) (candidate w i) (content k) x.push.result =
          subst (λ (n : ℕ). Pushed (content h) (room h) (record { weight = n; slot = i }) (content k) x.push.result) weight x.push.ensures.cases
          in
          gathered_at x.heap-is refl
          (gathered_push h w (held t) k x.push.result i (omega arith) c.loop-slot.invariant (held_some t i x₀ got) pushed x.push.ensures.room (x.push.ensures.heaped c.loop-slot.invariant.heaped))
      | in_default x ↦ gathered_at x.heap-is refl (gathered_skip h w (held t) i c.loop-slot.invariant (ap is_some (sym x.in_default.ensures)))
    ]

pub loop-slot-preserved : goal.loop-slot-preserved
loop-slot-preserved g c = step g (goal.at.loop-slot-preserved g c).Joined-get

pub returns-after-get-clause-holds : goal.returns-after-get-clause-holds
returns-after-get-clause-holds g c =
    let end : c.loop-slot.slot + 1 ≡ 256 = omega arith in
    (gathered_at refl end (step g (goal.at.returns-after-get-clause-holds g c).Joined-get)).holds
