use Rattle.std.proofs.Common.{◌≡◌, ◌+◌, ◌-◌, length, refl, arith}
use Rattle.std.proofs.lemmas.List.{drop-drop}
use Rattle.records.specs.Bytes.{put}
use Rattle.records.proofs.Putting.{length_put}
use Rattle.fieldfile.proofs.cursor.Cursor.put.Goals as goal

pub returns : goal.returns
unfolding put
returns c =
    let xs = c.args.self.now.out.now in
    let at = c.args.self.now.at in
    let bs = c.args.bytes.now in
    let n : at + length bs - at ≡ length bs = omega arith in
    record {
      buffer = refl;
      bytes = rw (n, c.copy_from_slice.ensures.after, drop-drop) refl;
      at = refl;
      left = let same = length_put xs at bs (omega arith) in rw (n, c.copy_from_slice.ensures.after, drop-drop) (omega arith);
    }
