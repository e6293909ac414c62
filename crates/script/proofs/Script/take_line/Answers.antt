use Rattle.std.proofs.Common.{length, sym, ap, refl, ◌∙◌, arith}
use Rattle.std.proofs.lemmas.Bool.{eqb-false}
use Rattle.script.proofs.Parted.{behind_first, line_taken}
use Rattle.script.proofs.Script.take_line.Goals as goal

pub returns : goal.returns
returns c =
    let text = c.args.self.now.rest.now in
    let some = eqb-false (length text) 0 (sym c.if-is_empty.ensures) in
    line_taken text _ c.split_at.result.1.now _ c.line_len.result (omega arith) c.line_len.ensures.value c.split_at.ensures.front c.split_at.ensures.back
    (ap (λ r. r.now) c.unwrap_or-self.ensures ∙ behind_first c.split_at.result.1.now c.get.result _ c.get.ensures.lookup refl)
