use Rattle.std.proofs.Common.{◌≡◌, ◌∙◌, unwrap_or, ap, arith}
use Rattle.boxes.specs.Views.{entries, links_of}
use Rattle.records.specs.Format.{node_record}
use Rattle.fieldfile.proofs.Adding.{adds_then}
use Rattle.records.proofs.Putting.{length_row}
use Rattle.fieldfile.proofs.cursor.Cursor.put_node.Goals as goal

pub put_row-requires-2 : goal.put_row-requires-2
put_row-requires-2 c = let long = length_row (entries c.corner.result.now) in omega arith

pub returns : goal.returns
unfolding node_record
returns c =
    let links : c.unwrap_or-first.result ≡ links_of c.args.node.now.kind = c.unwrap_or-first.ensures ∙ ap (λ o. unwrap_or o (0, 0)) c.children.ensures in
    let all = adds_then c.put.ensures (adds_then c.put_u16.ensures (adds_then c.put_u16-2.ensures (adds_then c.put_row.ensures c.put_row-2.ensures))) in
    rw (c.kind_byte.ensures, c.depth.ensures.value, links, c.corner.ensures) at all
