use Rattle.std.proofs.Common.{string_bytes, ap, ◌∙◌}
use Rattle.std.proofs.lemmas.Result.{on_ok_weaker}
use Rattle.script.specs.Scripts.{commands, text_left}
use Rattle.reader.specs.Views.{state_of}
use Rattle.session.specs.Sessions.{calls}
use Rattle.session.proofs.Joined.{prints}
use Rattle.session.proofs.answer_lines.Goals as goal

pub returns : goal.returns
returns g c =
    let said = commands (text_left c.args.script) in
    on_ok_weaker c.put_lines.result
    (prints (g.M.Measure.weighed c.args.measure) (g.M.Measure.joined c.args.measure) said c.deref-3.result.now c.deref-2.result.now
    c.in_ok-answers.answers.items c.deref-4.result.now (state_of c.in_ok-answers.field-0-1) (string_bytes c.args.out.now) (string_bytes c.put_lines.new.out)
    (c.deref-3.ensures.value ∙ c.in_ok-lines.ensures)
    (c.deref-2.ensures.value ∙ c.in_ok-calls.ensures ∙ ap calls (c.deref.ensures.value ∙ c.in_ok-lines.ensures))
    c.deref-4.ensures.value c.in_ok-answers.ensures)
    c.put_lines.ensures
