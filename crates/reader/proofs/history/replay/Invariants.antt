use Rattle.std.proofs.Common.{◌≡◌, take}
use Rattle.histories.specs.Calls.{Run}
use Rattle.reader.specs.Views.{state_of, measure_in}
use Rattle.reader.proofs.history.replay.Given as goal

-- what was carried out so far is a run
abbrev pub invariant-loop-call : goal.invariant-loop-call
invariant-loop-call g l =
    let w = g.M.Measure.weighed (measure_in l.initial.held) in
    let j = g.M.Measure.joined (measure_in l.initial.held) in
    record {
      run : Run w j (state_of l.initial.held) (take l.call-index l.calls) l.answers.items (state_of l.held);
      measure : measure_in l.held ≡ measure_in l.initial.held;
    }
