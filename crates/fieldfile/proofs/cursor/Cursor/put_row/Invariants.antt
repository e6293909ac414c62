use Rattle.std.proofs.Common.{get_or}
use Rattle.records.specs.Bytes.{pieces, le2}
use Rattle.fieldfile.specs.Cursors.{Adds}
use Rattle.fieldfile.proofs.cursor.Cursor.put_row.Given as goal

abbrev pub invariant-loop-number : goal.invariant-loop-number
invariant-loop-number l = Adds l.initial.self l.self (pieces (λ b. le2 (get_or l.numbers b 0)) l.number-index)
