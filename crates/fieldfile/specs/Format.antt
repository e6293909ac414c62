-- The file of a field, and what writing it does. Assumes nothing.
--   file_of f   the bytes of the file
--   Writes bs   bs stands at the front of a buffer after the call, or the buffer was too short
use Rattle.std.specs.Prelude.{◌≡◌, ℕ, ◌<◌, ◌≤◌, List, ◌++◌, length, drop, Ok, Err, Result}
use Rattle.samples.specs.declared.refusal.Refusal.{Refusal}
use Rattle.samples.specs.declared.refusal.Refusal.TheVariants.{BufferTooSmall}
use Rattle.field.specs.Fields.{holds, tree, counts, node_count}
use Rattle.field.specs.declared.state.Field.{Field}
use Rattle.records.specs.Format.{file}

abbrev pub file_of : Field → List ℕ
file_of f = file (holds f) (node_count f) (tree f) (counts f)

-- bs is written at the front of the buffer, the rest of which is kept; or the buffer is too short and kept whole
abbrev pub Writes : List ℕ → List ℕ → List ℕ → Result ℕ Refusal → Type 0
Writes bs before after (Ok n) = (n ≡ length bs) × (length bs ≤ length before) × (after ≡ bs ++ drop (length bs) before)
Writes bs before after (Err e) = (e ≡ BufferTooSmall) × (length before < length bs) × (after ≡ before)
