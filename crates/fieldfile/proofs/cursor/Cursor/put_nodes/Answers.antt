use Rattle.std.proofs.Common.{◌≡◌, get_or, ◌∙◌, ap, arith}
use Rattle.std.proofs.lemmas.List.{get_or_default}
use Rattle.boxes.specs.Views.{entries, node_of, blank}
use Rattle.field.specs.Fields.{tree, counts}
use Rattle.records.specs.Format.{node_record, node_bytes}
use Rattle.fieldfile.proofs.Adding.{adds_as, adds_no_pieces, adds_piece}
use Rattle.records.proofs.Lengths.{length_nodes}
use Rattle.fieldfile.proofs.cursor.Cursor.put_nodes.Goals as goal

pub loop-node-init : goal.loop-node-init
loop-node-init c = adds_no_pieces _ _

pub put_node-requires : goal.put_node-requires
put_node-requires c = let f = c.args.field.now in let long = length_nodes (tree f) (counts f) c.loop-node.node-index in omega arith

pub loop-node-preserved : goal.loop-node-preserved
loop-node-preserved c =
    let f = c.args.field.now in
    let x = c.loop-node.node-index in
    let here : c.node-item.result ≡ get_or f.nodes.items x blank =
    c.node-item.is ∙ get_or_default c.nodes-node-items.result.now x c.node-item.result blank c.loop-node-test.true
    ∙ ap (λ ns. get_or ns x blank) c.nodes-node-items.ensures.tree
    in
    adds_piece (node_bytes (tree f) (counts f)) x c.loop-node.invariant (adds_as c.put_node.ensures (λ i. node_record (node_of (here i)) (entries (here i).counts)))
