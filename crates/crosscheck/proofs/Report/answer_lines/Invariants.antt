use Rattle.script.specs.Scripts.{commands, text_left}
use Rattle.crosscheck.proofs.Reported.{Promises}
use Rattle.crosscheck.proofs.Report.answer_lines.Given as goal

abbrev pub invariant-loop-line : goal.invariant-loop-line
invariant-loop-line g l =
    let m = g.M.Measure in
    Promises (m.weighed l.measure) (m.joined l.measure) l.initial.self l.initial.field (commands (text_left l.initial.script)) l.self l.field (commands (text_left l.line-iterator))
