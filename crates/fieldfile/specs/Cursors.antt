-- A buffer that is written from its front. Assumes nothing.
--   left w                 how many bytes are free behind those that are written
--   Adds before after bs   the bytes bs were written behind those that stood there, in the same buffer
use Rattle.std.specs.Prelude.{◌≡◌, ℕ, ◌+◌, ◌-◌, List, length}
use Rattle.records.specs.Bytes.{put}
use Rattle.fieldfile.specs.declared.cursor.Cursor.{Cursor}

abbrev pub left : Cursor → ℕ
left w = length w.out.now - w.at

pub record Adds (before after : Cursor) (bs : List ℕ) : Type 0 where
  pub buffer : after.out.ghost_name ≡ before.out.ghost_name
  pub bytes : after.out.now ≡ put before.out.now before.at bs
  pub at : after.at ≡ before.at + length bs
  pub left : left after + length bs ≡ left before
