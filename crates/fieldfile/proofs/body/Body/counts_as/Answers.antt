use Rattle.std.proofs.Common.{◌≡◌, ◌<◌, length, get_or, eqb, sym, ap, ◌∙◌, rules, arith}
use Rattle.std.proofs.iter.runs.Sources.{ranges}
use Rattle.boxes.specs.Views.{entries, blank}
use Rattle.records.specs.Parts.{tally_in}
use Rattle.records.specs.Readings.{node_part}
use Rattle.std.proofs.lemmas.List.{get_or_default}
use Rattle.boxes.proofs.Viewed.{every_is}
use Rattle.trees.specs.Boxes.{every}
use Rattle.fieldfile.proofs.body.Body.counts_as.Goals as goal

pub returns : goal.returns
returns c =
    let e = every_is (λ b. eqb (entries c.row_at-said.result b) (entries c.index-nodes-from.result.counts b)) 8 c.all.result (search (rules, ranges)) in
    let n = c.index-nodes-from in
    let l : c.from.result < length c.nodes.result.now = omega (arith, c.from.ensures, c.nodes.ensures.len, c.requires.nodes, c.requires.within) in
    let said : c.row_at-said.result ≡ tally_in (node_part c.args.self.now.file.now c.args.x) = c.row_at-said.ensures ∙ ap tally_in c.node_bytes.ensures.value in
    let read : n.result ≡ get_or c.args.field.now.nodes.items c.args.x blank = n.is ∙ sym (get_or_default c.nodes.result.now c.from.result blank n.result l) ∙ (λ i. get_or (c.nodes.ensures.tree i) (c.from.ensures i) blank) in
    e ∙ (λ i. every (λ b. eqb (entries (said i) b) (entries (read i).counts b)) 8)
