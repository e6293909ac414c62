-- The outline of a file: how many records its trailer says there are. Assumes nothing.
--   outline_of bs     what the trailer says
--   outline_rule bs   the same where the file passes the first two checks, or the first that it fails
use Rattle.std.specs.Prelude.{ℕ, cond, List, Ok, Err, Result}
use Rattle.records.specs.Checks.{marked, laid_out}
use Rattle.records.specs.Readings.{sample_total, node_total}
use Rattle.fieldfile.specs.declared.faults.Check.{Check}
use Rattle.fieldfile.specs.declared.faults.Check.TheVariants.{Mark, Layout}
use Rattle.fieldfile.specs.declared.outline.Outline.{Outline}

abbrev pub outline_of : List ℕ → Outline
outline_of bs = record { samples = sample_total bs; nodes = node_total bs }

abbrev pub outline_rule : List ℕ → Result Outline Check
outline_rule bs = cond (marked bs) (cond (laid_out bs) (Ok (outline_of bs)) (Err Layout)) (Err Mark)
