use Rattle.std.proofs.Common.{Some, sym, ap, ◌∙◌, slice_index, rules}
use Rattle.records.specs.Bytes.{two, row_in}
use Rattle.fieldfile.specs.Parts.{part_of, part_at}
use Rattle.fieldfile.proofs.Bodied.{sample_there}
use Rattle.fieldfile.proofs.body.Body.entry.Goals as goal

pub returns : goal.returns
returns c =
    let f = c.args.self.now in
    let b = (sample_there f.file.now f.outline f.size c.args.i c.in-Some-Sample.bytes.now f.samples c.requires (ap (λ r. Some (part_of r)) (sym c.in-Some-Sample.field-0-is) ∙ c.in-Some-Sample.ensures ∙ ap (part_at f.file.now f.outline) c.from.ensures)).0 in
    record {
      byte = search rules;
      slot = ap (λ r. slice_index r 0) b;
      fibre = ap (λ r. slice_index r 1) b;
      leaf = c.u16_at.ensures ∙ ap (λ r. two r 2) b;
      values = c.row_at.ensures ∙ ap (λ r. row_in r 4) b;
    }
