use Rattle.std.proofs.Common.{eqb, rules, arith}
use Rattle.std.proofs.iter.runs.Sources.{ranges}
use Rattle.trees.specs.Lawful.{alike}
use Rattle.boxes.specs.Views.{entries}
use Rattle.boxes.proofs.Viewed.{every_is}
use Rattle.field.proofs.flaws.is_same.Goals as goal

pub returns-then-depth : goal.returns-then-depth
unfolding alike
returns-then-depth c =
    let e = every_is (λ b. eqb (entries c.args.a.now.corner b) (entries c.args.b.now.corner b)) 8 c.all.result (search (rules, ranges)) in
    grind arith

pub returns-else-depth : goal.returns-else-depth
unfolding alike
returns-else-depth c = grind arith
