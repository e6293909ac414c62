use Rattle.std.proofs.Common.{◌≡◌, ◌++◌, drop}
use Rattle.session.specs.Sessions.{calls}
use Rattle.session.proofs.lines.calls.Given as goal

abbrev pub invariant-loop-line : goal.invariant-loop-line
invariant-loop-line l = l.calls.items ++ calls (drop l.line-index l.lines) ≡ calls l.lines
