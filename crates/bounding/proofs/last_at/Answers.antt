use Rattle.std.proofs.Common.{arith}
use Rattle.trees.proofs.Boxed.{side_pos}
use Rattle.boxes.proofs.Gridded.{grid_of}
use Rattle.bounding.proofs.last_at.Goals as goal

pub overflow_sub-result : goal.overflow_sub-result
overflow_sub-result c =
    let k = c.args.bounds.now in
    let p = side_pos k.depth c.args.band (grid_of k).0 c.requires.band in
    let s = c.requires.sides c.args.band c.requires.band in
    omega arith

pub overflow_add-result : goal.overflow_add-result
overflow_add-result c =
    let k = c.args.bounds.now in
    let w = (grid_of k).1 c.args.band c.requires.band in
    let s = c.requires.sides c.args.band c.requires.band in
    grind arith
