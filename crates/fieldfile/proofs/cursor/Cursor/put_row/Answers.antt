use Rattle.std.proofs.Common.{get_or, refl, arith}
use Rattle.records.specs.Bytes.{le2}
use Rattle.fieldfile.proofs.Adding.{adds_no_pieces, adds_piece}
use Rattle.records.proofs.Putting.{length_pieces}
use Rattle.fieldfile.proofs.cursor.Cursor.put_row.Goals as goal

pub loop-number-init : goal.loop-number-init
loop-number-init c = adds_no_pieces _ _

pub put_u16-requires : goal.put_u16-requires
put_u16-requires c =
    let n = length_pieces (λ b. le2 (get_or c.args.numbers.now b 0)) 2 (λ _. refl) c.loop-number.number-index in
    omega arith

pub loop-number-preserved : goal.loop-number-preserved
loop-number-preserved c = adds_piece (λ b. le2 (get_or c.args.numbers.now b 0)) c.loop-number.number-index c.loop-number.invariant c.put_u16.ensures
