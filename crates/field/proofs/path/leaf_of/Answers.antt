use Rattle.boxes.specs.Views.{entries, node_at}
use Rattle.std.proofs.Common.{length}
use Rattle.trees.proofs.Pathed.{under_root, next_under, ends_one}
use Rattle.field.proofs.path.leaf_of.Goals as goal

pub loop-next-init : goal.loop-next-init
loop-next-init c = (c.requires.rules.some, under_root (node_at c.args.nodes.now) (entries c.args.values.now))

pub loop-next-preserved : goal.loop-next-preserved
loop-next-preserved c =
    let go = c.in-Some.ensures in
    (go.2, next_under (length c.args.nodes.now) (node_at c.args.nodes.now) c.requires.rules (entries c.args.values.now) c.loop-next.at c.in-Some.next c.loop-next.invariant.0 c.loop-next.invariant.1 go.0)

pub returns : goal.returns
returns c =
    ends_one (length c.args.nodes.now) (node_at c.args.nodes.now) c.requires.rules (entries c.args.values.now) c.loop-next.at c.loop-next.invariant.0 c.in_default.ensures c.loop-next.invariant.1
