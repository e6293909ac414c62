use Rattle.std.proofs.Common.{arith}
use Rattle.fieldfile.proofs.Adding.{adds_le2}
use Rattle.fieldfile.proofs.cursor.Cursor.put_u16.Goals as goal

pub returns : goal.returns
returns c = adds_le2 c.args.number (omega arith) c.to_le_bytes.ensures c.put.ensures
