use Rattle.std.proofs.Common.{refl}
use Rattle.histories.specs.Calls.{steps, finishes, spans, witnesses, closes, misplaced_in_query}
use Rattle.reader.proofs.Placed.{is_of_reader}
use Rattle.reader.proofs.held.in_query.Goals.{in-Step, in-Finish, in-Span, in-Witness, in-Load}
use Rattle.reader.proofs.held.in_query.Goals as goal

pub returns-in-Close : goal.returns-in-Close
returns-in-Close g c =
    let e = c.close-reader.ensures in
    record { does = rw (c.in-Close.is, e.outcome, e.field) closes; measure = e.measure }

pub returns : goal.returns
returns g c =
    elim c.match-call.branch [
      | in-Step w ↦
          let e = w.step.ensures in
          rw (w.in-Step.is, w.answer-is, w.query-is)
          (record { does = rw (e.answer, e.stays.field, e.stays.question, e.steps) steps; measure = e.stays.measure })
      | in-Finish w ↦
          let e = w.finish.ensures in
          rw (w.in-Finish.is, w.answer-is, w.query-is)
          (record { does = rw (e.stays.field, e.stays.question) (finishes e.steps); measure = e.stays.measure })
      | in-Span w ↦
          rw (w.in-Span.is, w.answer-is, w.query-is) (record { does = rw w.span.ensures.value spans; measure = refl })
      | in-Witness w ↦
          rw (w.in-Witness.is, w.answer-is, w.query-is) (record { does = rw w.witness.ensures.value witnesses; measure = refl })
      | in-Load w ↦
          rw (w.answer-is, w.query-is) (record { does = misplaced_in_query (is_of_reader c.args.call w.in-Load.is); measure = refl })
    ]
