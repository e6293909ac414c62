use Rattle.std.proofs.Common.{arith}
use Rattle.boxes.proofs.Gridded.{on_grid_depth}
use Rattle.boxes.proofs.bounds.Bounds.depth.Goals as goal

pub returns-clause-bound : goal.returns-clause-bound
returns-clause-bound c = let k = c.args.self.now in let few = on_grid_depth k.depth k.corner k.on_grid in omega arith
