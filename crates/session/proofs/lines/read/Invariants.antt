use Rattle.std.proofs.Common.{◌≡◌, ◌++◌}
use Rattle.script.specs.Scripts.{commands, text_left}
use Rattle.session.proofs.lines.read.Given as goal

abbrev pub invariant-loop-line : goal.invariant-loop-line
invariant-loop-line l = l.lines.items ++ commands (text_left l.line-iterator) ≡ commands (text_left l.initial.script)
