use Rattle.std.proofs.Common.{arith}
use Rattle.records.specs.Format.{trailer_bytes}
use Rattle.fieldfile.proofs.Adding.{adds_le4, adds_then}
use Rattle.fieldfile.proofs.cursor.Cursor.put_trailer.Goals as goal

pub returns : goal.returns
unfolding trailer_bytes
returns c =
    let to_nodes = adds_le4 _ (omega arith) c.to_le_bytes.ensures c.put.ensures in
    let to_samples = adds_le4 _ (omega arith) c.to_le_bytes-2.ensures c.put-2.ensures in
    let all = adds_then c.put_u16.ensures (adds_then c.put_u16-2.ensures (adds_then to_nodes (adds_then to_samples c.put-3.ensures))) in
    rw (c.back_to_nodes.ensures, c.back_to_samples.ensures) at all
