use Rattle.std.proofs.Common.{arith}
use Rattle.boxes.proofs.Gridded.{grid_of}
use Rattle.boxes.proofs.bounds.Bounds.extent.Goals as goal

pub overflow_add-result : goal.overflow_add-result
overflow_add-result c =
    let within = (grid_of c.args.self.now).1 c.args.band c.requires in
    grind arith
