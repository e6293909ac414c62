use Rattle.std.proofs.Common.{◌≡◌, ◌++◌, string_bytes, drop}
use Rattle.std.specs.Slice.Iter.{iter_rest}
use Rattle.session.specs.Sessions.{told}
use Rattle.session.proofs.printing.put_lines.Given as goal

abbrev pub invariant-loop-line : goal.invariant-loop-line
invariant-loop-line l =
    string_bytes l.out ++ told (drop l.line-index l.lines) (iter_rest l.answers)
    ≡ string_bytes l.initial.out ++ told l.lines (iter_rest l.initial.answers)
