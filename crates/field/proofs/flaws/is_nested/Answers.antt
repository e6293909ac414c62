use Rattle.std.proofs.Common.{sym, ap, ◌∙◌}
use Rattle.boxes.specs.Views.{box_of, children_of}
use Rattle.trees.specs.Trees.{split, shrink}
use Rattle.trees.specs.Lawful.{nested_by}
use Rattle.field.proofs.Told.{seen, children_within, nested_by_kind}
use Rattle.field.proofs.flaws.is_nested.Goals as goal

pub bounds-nodes-lower : goal.bounds-nodes-lower
bounds-nodes-lower c = let n = c.index-nodes-x in (children_within c.args.nodes.now c.args.x n.result (seen _ _ _ c.requires.within n.is) _ _ c.requires.links (ap children_of c.in-Split.is)).0

pub bounds-nodes-upper : goal.bounds-nodes-upper
bounds-nodes-upper c = let n = c.index-nodes-x in (children_within c.args.nodes.now c.args.x n.result (seen _ _ _ c.requires.within n.is) _ _ c.requires.links (ap children_of c.in-Split.is)).1

pub bounds-nodes-core : goal.bounds-nodes-core
bounds-nodes-core c = let n = c.index-nodes-x in (children_within c.args.nodes.now c.args.x n.result (seen _ _ _ c.requires.within n.is) _ _ c.requires.links (ap children_of c.in-Shrink.is)).0

pub bounds-nodes-rim : goal.bounds-nodes-rim
bounds-nodes-rim c = let n = c.index-nodes-x in (children_within c.args.nodes.now c.args.x n.result (seen _ _ _ c.requires.within n.is) _ _ c.requires.links (ap children_of c.in-Shrink.is)).1

pub returns-in-Leaf : goal.returns-in-Leaf
returns-in-Leaf c = let n = c.index-nodes-x in sym (nested_by_kind c.args.nodes.now c.args.x n.result (seen _ _ _ c.requires.within n.is) _ c.in-Leaf.is)

pub returns-in-Split : goal.returns-in-Split
returns-in-Split c =
    let n = c.index-nodes-x in
    let ns = c.args.nodes.now in
    let at = seen ns c.args.x n.result c.requires.within n.is in
    let w = children_within ns c.args.x n.result at _ _ c.requires.links (ap children_of c.in-Split.is) in
    c.are_halves.ensures ∙ sym (nested_by_kind ns c.args.x n.result at _ c.in-Split.is ∙ (λ i. nested_by split (box_of n.result.bounds) (seen ns _ _ w.0 c.index-nodes-lower.is i) (seen ns _ _ w.1 c.index-nodes-upper.is i)))

pub returns-in-Shrink : goal.returns-in-Shrink
returns-in-Shrink c =
    let n = c.index-nodes-x in
    let ns = c.args.nodes.now in
    let at = seen ns c.args.x n.result c.requires.within n.is in
    let w = children_within ns c.args.x n.result at _ _ c.requires.links (ap children_of c.in-Shrink.is) in
    c.are_core_and_rim.ensures ∙ sym (nested_by_kind ns c.args.x n.result at _ c.in-Shrink.is ∙ (λ i. nested_by shrink (box_of n.result.bounds) (seen ns _ _ w.0 c.index-nodes-core.is i) (seen ns _ _ w.1 c.index-nodes-rim.is i)))
