use Rattle.std.proofs.Common.{arith}
use Rattle.boxes.specs.Views.{box_of}
use Rattle.field.proofs.Told.{inside_is, leaf_is}
use Rattle.field.proofs.flaws.are_core_and_rim.Goals as goal
use Rattle.field.proofs.flaws.are_core_and_rim.Goals.{then-inside, else-inside}

pub returns-then-is_none : goal.returns-then-is_none
returns-then-is_none c =
    let a = inside_is (box_of c.args.core.now.bounds) (box_of c.args.k.now) c.inside.result c.inside.ensures in
    let b = leaf_is c.args.rim.now.kind in
    elim c.if-inside.branch [ then-inside w ↦ grind arith | else-inside w ↦ grind arith ]

pub returns-else-is_none : goal.returns-else-is_none
returns-else-is_none c =
    let a = inside_is (box_of c.args.core.now.bounds) (box_of c.args.k.now) c.inside.result c.inside.ensures in
    let b = leaf_is c.args.rim.now.kind in
    elim c.if-inside.branch [ then-inside w ↦ grind arith | else-inside w ↦ grind arith ]
