use Rattle.boxes.specs.Views.{entries}
use Rattle.field.proofs.Stepped.{to_first, to_second}
use Rattle.field.proofs.path.child_of.Goals as goal

pub returns-then-covers : goal.returns-then-covers
returns-then-covers c = to_first c.args.nodes.now c.requires.rules (entries c.args.values.now) c.args.at c.requires.within c.index-nodes-at.result c.in_ok-first.first c.in_ok-first.second c.in_ok-first.ensures c.index-nodes-first.result c.if-covers.ensures

pub returns-else-covers : goal.returns-else-covers
returns-else-covers c = to_second c.args.nodes.now c.requires.rules (entries c.args.values.now) c.args.at c.requires.within c.index-nodes-at.result c.in_ok-first.first c.in_ok-first.second c.in_ok-first.ensures c.index-nodes-first.result c.if-covers.ensures
