use Rattle.std.proofs.Common.{◌≡◌, suc, ◌%◌, add-one, arith}
use Rattle.trees.specs.Boxes.{side}
use Rattle.trees.proofs.Boxed.{side_next}
use Rattle.boxes.specs.Views.{box_of}
use Rattle.boxes.proofs.Gridded.{grid_of, on_grid_lower, on_grid_upper}
use Rattle.boxes.proofs.Viewed.{lower_is, upper_is, halved_is}
use Rattle.boxes.proofs.bounds.Bounds.halves.Goals as goal

pub overflow_add-corner : goal.overflow_add-corner
overflow_add-corner c =
    let k = c.args.self.now in
    let within = (grid_of k).1 (k.depth % 8) (omega arith) in
    let next = side_next k.depth (k.depth % 8) (omega arith) (omega arith) in
    let e : c.side_at.result ≡ side (suc k.depth) (k.depth % 8) = rw add-one at c.side_at.ensures in
    omega arith

pub invariant_of-lower : goal.invariant_of-lower
invariant_of-lower c =
    let k = c.args.self.now in
    record { on_grid = on_grid_lower _ _ (box_of k) (lower_is k.depth k.corner) (omega arith) (grid_of k) }

pub invariant_of-upper : goal.invariant_of-upper
invariant_of-upper c =
    let k = c.args.self.now in
    record { on_grid = on_grid_upper _ _ (box_of k) (upper_is k.depth c.side_at.result k.corner (omega arith) c.side_at.ensures) (omega arith) (grid_of k) }

pub returns-clause-value : goal.returns-clause-value
returns-clause-value c =
    let k = c.args.self.now in
    halved_is (box_of k) _ _ (omega arith) (lower_is k.depth k.corner) (upper_is k.depth c.side_at.result k.corner (omega arith) c.side_at.ensures)
