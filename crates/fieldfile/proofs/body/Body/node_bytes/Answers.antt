use Rattle.std.proofs.Common.{◌+◌, length, Some, sym, ap, ◌∙◌, arith}
use Rattle.records.proofs.Chunked.{length_chunk}
use Rattle.records.specs.Readings.{node_part}
use Rattle.fieldfile.specs.Parts.{part_of, part_at}
use Rattle.fieldfile.proofs.Bodied.{node_there}
use Rattle.fieldfile.proofs.body.Body.node_bytes.Goals as goal

pub returns-clause-value : goal.returns-clause-value
returns-clause-value c = let f = c.args.self.now in (node_there f.file.now f.outline f.size c.args.x c.in-Some-Node.bytes.now f.samples c.requires (ap (λ r. Some (part_of r)) (sym c.in-Some-Node.field-0-is) ∙ c.in-Some-Node.ensures ∙ (λ i. part_at f.file.now f.outline (c.from.ensures i + c.from-2.ensures i)))).0

pub returns-clause-len : goal.returns-clause-len
unfolding node_part
returns-clause-len c =
    let f = c.args.self.now in
    let n = node_there f.file.now f.outline f.size c.args.x c.in-Some-Node.bytes.now f.samples c.requires (ap (λ r. Some (part_of r)) (sym c.in-Some-Node.field-0-is) ∙ c.in-Some-Node.ensures ∙ (λ i. part_at f.file.now f.outline (c.from.ensures i + c.from-2.ensures i))) in
    ap length n.0 ∙ length_chunk f.file.now _ 38 (omega (arith, n.1, f.samples))
