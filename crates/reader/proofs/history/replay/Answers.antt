use Rattle.std.proofs.Common.{[], get_or, refl, ◌∙◌, subst, take_all}
use Rattle.histories.specs.Calls.{Does, ended}
use Rattle.histories.specs.declared.Call.{Call}
use Rattle.histories.specs.declared.Call.TheVariants.{Load}
use Rattle.histories.proofs.Lawful.{known_of}
use Rattle.histories.proofs.Promised.{promised}
use Rattle.histories.proofs.Runs.{run_on}
use Rattle.reader.specs.Views.{field_in, state_of}
use Rattle.reader.proofs.history.replay.Goals as goal

pub loop-call-init : goal.loop-call-init
loop-call-init g c = record { run = rw c.in_ok-answers.ensures.items ended; measure = refl }

pub loop-call-preserved : goal.loop-call-preserved
loop-call-preserved g c =
    let inv = c.loop-call.invariant in
    let done = c.in_ok-next.ensures in
    let m = c.in_ok-new.field-0.measure in
    let none : Call = Load (record { ref_ptr = (0, 0); now = [] }) in
    let call = get_or c.args.calls.now c.loop-call.call-index none in
    let does = subst (λ x. Does (g.M.Measure.weighed x) (g.M.Measure.joined x) (state_of c.loop-call.held) call c.in_ok-next.answer (state_of c.in_ok-next.next)) inv.measure done.does in
    record {
      run = run_on (g.M.Measure.weighed m) (g.M.Measure.joined m) c.args.calls.now c.loop-call.call-index none _ (state_of c.loop-call.held) (state_of c.in_ok-next.next) c.loop-call.answers.items c.push.new.self.items c.in_ok-next.answer c.loop-call-test.true inv.run does c.in_ok-push.ensures.items;
      measure = done.measure ∙ inv.measure;
    }

pub returns : goal.returns
returns g c =
    let m = c.args.measure in
    let made = c.in_ok-new.ensures in
    let known = known_of (g.M.Measure.weighed m) (g.M.Measure.joined m) (g.met.M.Measure.weigh_rises m) (g.met.M.Measure.join_rises m) in
    let all = take_all c.loop-call.call-index c.args.calls.now c.loop-call-test.false in
    promised _ _ known (field_in c.in_ok-new.field-0) c.args.calls.now c.loop-call.answers.items (state_of c.loop-call.held) made.samples made.tree
    (rw (all, made.measure) at c.loop-call.invariant.run)
