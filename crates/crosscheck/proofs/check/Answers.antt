use Rattle.std.proofs.Common.{true, refl}
use Rattle.script.specs.Scripts.{text_left}
use Rattle.crosscheck.specs.declared.Report.{Report}
use Rattle.crosscheck.proofs.Reported.{Empty, checked_lines, checked_refusal}
use Rattle.crosscheck.proofs.check.Goals as goal
use Rattle.crosscheck.proofs.check.Goals.{in-Ok+in_ok-put-in-Ok+in_ok-answer_by-in-Ok, in-Err+in_ok-put-in-Err}

pub returns : goal.returns
returns c =
    let none : Report = record { text = c.new.result; agree = true } in
    let empty : Empty none = (c.new.ensures.bytes, refl) in
    elim c.match-open.branch [
      | in-Ok+in_ok-put-in-Ok+in_ok-answer_by-in-Ok w ↦
          rw w.report-is (checked_lines c.args.text.now (text_left w.in-Ok.script) w.in-Ok.kind none w.put.new.self w.answer_by.new.self w.in-Ok.ensures.value empty w.in_ok-put-in-Ok.ensures w.in_ok-answer_by-in-Ok.ensures)
      | in-Err+in_ok-put-in-Err w ↦ rw w.report-is (checked_refusal c.args.text.now none w.put-in-Err.new.self w.in-Err.ensures empty w.in_ok-put-in-Err.ensures)
    ]
