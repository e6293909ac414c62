use Rattle.std.proofs.Common.{refl}
use Rattle.histories.specs.Calls.{loads, admits, withdraws, rebuilds, opens, misplaced_at_rest}
use Rattle.reader.proofs.Placed.{is_of_query}
use Rattle.reader.proofs.held.at_rest.Goals.{in-Load, in-Write+in_ok-answer-in-Write, in-Admit, in-Withdraw, in-Rebuild, in-Step}
use Rattle.reader.proofs.held.at_rest.Goals as goal

pub returns-in-Open : goal.returns-in-Open
returns-in-Open g c =
    let e = c.open-query.ensures in
    record { does = rw (c.in-Open.is, e.field, e.question, e.steps) opens; measure = e.measure }

pub returns : goal.returns
returns g c =
    elim c.match-call.branch [
      | in-Load w ↦
          let e = w.load.ensures in
          rw (w.in-Load.is, w.answer-is, w.reader-is) (record { does = loads e.field; measure = e.measure })
      | in-Write+in_ok-answer-in-Write w ↦
          rw (w.in-Write.is, w.answer-is, w.reader-is) (record { does = w.in_ok-answer-in-Write.ensures; measure = refl })
      | in-Admit w ↦
          let e = w.admit.ensures in
          rw (w.in-Admit.is, w.answer-is, w.reader-is) (record { does = admits e.samples e.tree; measure = e.measure })
      | in-Withdraw w ↦
          let e = w.withdraw.ensures in
          rw (w.in-Withdraw.is, w.answer-is, w.reader-is) (record { does = withdraws e.samples e.tree; measure = e.measure })
      | in-Rebuild w ↦
          let e = w.rebuild.ensures in
          rw (w.in-Rebuild.is, w.answer-is, w.reader-is) (record { does = rebuilds e.samples e.tree; measure = e.measure })
      | in-Step w ↦
          rw (w.answer-is, w.reader-is) (record { does = misplaced_at_rest (is_of_query c.args.call w.in-Step.is); measure = refl })
    ]
