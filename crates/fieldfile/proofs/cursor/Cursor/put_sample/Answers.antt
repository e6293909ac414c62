use Rattle.records.specs.Format.{sample_record}
use Rattle.fieldfile.proofs.Adding.{adds_then}
use Rattle.fieldfile.proofs.cursor.Cursor.put_sample.Goals as goal

pub returns : goal.returns
unfolding sample_record
returns c =
    let all = adds_then c.put.ensures (adds_then c.put_u16.ensures c.put_row.ensures) in
    rw (← c.fibre.ensures.value, ← c.values.ensures) all
