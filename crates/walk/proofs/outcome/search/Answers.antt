use Rattle.std.proofs.Common.{◌≤◌, ap, ◌∙◌, arith}
use Rattle.field.specs.Fields.{holds}
use Rattle.samples.specs.Slots.{table}
use Rattle.samples.specs.Verdict.{samples}
use Rattle.samples.specs.declared.slots.Slots.{Slots}
use Rattle.walk.specs.Lists.{end_of}
use Rattle.walk.specs.declared.outcome.Outcome.TheVariants.{Settled, Nearby, Counted}
use Rattle.walk.proofs.Answered.{within_nodes, answered}
use Rattle.walk.proofs.outcome.search.Given.{Over}
use Rattle.walk.proofs.outcome.search.Goals as goal
use Rattle.walk.proofs.outcome.search.Goals.{Else-k-count}

-- there are enough samples
enough : (g : Over) (c : Else-k-count g) → c.args.question.now.k ≤ samples (holds c.args.field.now)
enough g c =
    let all = c.count.ensures ∙ ap (λ (xs : Slots). samples (table xs)) c.slots.ensures in
    let k = c.k.ensures.value in
    omega arith

pub loop-walk-smaller : goal.loop-walk-smaller
loop-walk-smaller g c =
    let m = c.args.measure.now in
    let d = c.args.field.now in
    let laws = g.met.M.Measure in
    let few = within_nodes _ _ (laws.weigh_rises m) (laws.join_rises m) d c.args.question.now (enough g (goal.at.loop-walk-smaller g c).Else-k-count) c.step.new.self c.step.ensures.stands in
    omega (arith, few, d.len_fits, c.step.ensures.steps)

pub returns-in-Settled : goal.returns-in-Settled
returns-in-Settled g c =
    let m = c.args.measure.now in
    let laws = g.met.M.Measure in
    answered _ _ (laws.weigh_rises m) (laws.join_rises m) c.args.field.now c.args.question.now (enough g (goal.at.returns-in-Settled g c).Else-k-count) c.loop-walk.walk c.loop-walk.invariant (Settled c.in-Settled.fibre c.steps-steps.result) c.steps-steps.ensures (ap end_of c.in-Settled.ensures)

pub returns-in-Nearby : goal.returns-in-Nearby
returns-in-Nearby g c =
    let m = c.args.measure.now in
    let laws = g.met.M.Measure in
    answered _ _ (laws.weigh_rises m) (laws.join_rises m) c.args.field.now c.args.question.now (enough g (goal.at.returns-in-Nearby g c).Else-k-count) c.loop-walk.walk c.loop-walk.invariant (Nearby c.in-Nearby.fibre c.steps-steps.result) c.steps-steps.ensures (ap end_of c.in-Nearby.ensures)

pub returns-in-Counted : goal.returns-in-Counted
returns-in-Counted g c =
    let m = c.args.measure.now in
    let laws = g.met.M.Measure in
    answered _ _ (laws.weigh_rises m) (laws.join_rises m) c.args.field.now c.args.question.now (enough g (goal.at.returns-in-Counted g c).Else-k-count) c.loop-walk.walk c.loop-walk.invariant (Counted c.in-Counted.fibre c.steps-steps.result) c.steps-steps.ensures (ap end_of c.in-Counted.ensures)
