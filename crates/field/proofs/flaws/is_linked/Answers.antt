use Rattle.std.proofs.Common.{arith}
use Rattle.field.proofs.Told.{seen, tied_is}
use Rattle.field.proofs.flaws.is_linked.Goals as goal

pub returns-then-x-eq0 : goal.returns-then-x-eq0
returns-then-x-eq0 c = let n = c.index-nodes-x in let e = tied_is c.args.nodes.now c.args.x n.result (seen _ _ _ c.requires.within n.is) in grind arith

pub returns-else-x-eq0 : goal.returns-else-x-eq0
returns-else-x-eq0 c = let n = c.index-nodes-x in let e = tied_is c.args.nodes.now c.args.x n.result (seen _ _ _ c.requires.within n.is) in grind arith

pub returns-else-children_follow : goal.returns-else-children_follow
returns-else-children_follow c = let n = c.index-nodes-x in let e = tied_is c.args.nodes.now c.args.x n.result (seen _ _ _ c.requires.within n.is) in grind arith
