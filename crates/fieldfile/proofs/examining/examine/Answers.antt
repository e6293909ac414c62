use Rattle.std.proofs.Common.{ap, ◌∙◌, replicate, take}
use Rattle.samples.specs.Slots.{table}
use Rattle.samples.specs.Verdict.{samples}
use Rattle.fieldfile.proofs.Returned.{samples_told, nodes_told, front_written, same_told}
use Rattle.fieldfile.proofs.examining.examine.Goals as goal

pub returns : goal.returns
returns c =
    let f = c.load.new.field in
    let bs = c.args.file.now in
    let t = c.in_ok-load.ensures in
    record {
      keeps = t.keeps;
      samples = c.count.ensures ∙ ap (λ xs. samples (table xs)) c.slots.ensures ∙ samples_told bs f t.written;
      nodes = c.nodes.ensures.len ∙ nodes_told bs f t.written;
      same = same_told (take c.unwrap-len.result c.write.new.out) bs c.eq.result c.eq.ensures (front_written bs f t.written (replicate 43932 0) c.write.new.out c.write.result c.unwrap-len.result c.write.ensures.bytes c.unwrap-len.ensures);
    }
