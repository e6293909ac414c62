use Rattle.std.proofs.Common.{◌≡◌, ℕ}
use Rattle.field.specs.Fields.{holds, node_count, tree}
use Rattle.records.specs.Readings.{table_upto}
use Rattle.fieldfile.proofs.body.Body.admit_samples.Given as goal

abbrev pub invariant-loop-i : goal.invariant-loop-i
invariant-loop-i l = record {
  samples : holds l.field ≡ table_upto l.self.file.now l.i;
  size : node_count l.field ≡ node_count l.initial.field;
  shape : (x : ℕ) → tree l.field x ≡ tree l.initial.field x;
}
