use Rattle.std.proofs.Common.{rules, arith}
use Rattle.std.proofs.iter.runs.Sources.{ranges}
use Rattle.trees.specs.Boxes.{on_step, is_on_grid}
use Rattle.boxes.specs.Views.{entries}
use Rattle.boxes.proofs.Viewed.{every_is}
use Rattle.boxes.proofs.bounds.methods.is_on_grid.Goals as goal

pub returns-then-depth-le-MAX_DEPTH : goal.returns-then-depth-le-MAX_DEPTH
unfolding is_on_grid
returns-then-depth-le-MAX_DEPTH c =
    let e = every_is (λ b. on_step c.args.depth b (entries c.args.corner.now b)) 8 c.all.result (search (rules, ranges)) in
    grind arith

pub returns-else-depth-le-MAX_DEPTH : goal.returns-else-depth-le-MAX_DEPTH
unfolding is_on_grid
returns-else-depth-le-MAX_DEPTH c = grind arith
