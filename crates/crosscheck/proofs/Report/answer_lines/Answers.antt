use Rattle.std.proofs.Common.{ap}
use Rattle.script.specs.Commands.{command_of}
use Rattle.script.specs.Scripts.{commands, text_left}
use Rattle.std.specs.Prelude.{map}
use Rattle.crosscheck.proofs.Reported.{promise_steps, promise_ends}
use Rattle.crosscheck.proofs.Report.answer_lines.Goals as goal

pub loop-line-preserved : goal.loop-line-preserved
loop-line-preserved g c =
    let w = g.M.Measure.weighed c.args.measure.now in
    let j = g.M.Measure.joined c.args.measure.now in
    promise_steps w j c.args.self.now c.loop-line.self c.put.new.self c.new-field.result c.loop-line.field c.reply.new.field c.in-Some.line (commands (text_left c.args.script)) _ _ c.reply.result c.in-Some.ensures.steps.next c.loop-line.invariant c.reply.ensures c.in_ok-put.ensures

pub returns : goal.returns
returns g c =
    let w = g.M.Measure.weighed c.args.measure.now in
    let j = g.M.Measure.joined c.args.measure.now in
    let (answers, run, adds) = promise_ends w j c.args.self.now c.loop-line.self c.new-field.result c.loop-line.field (commands (text_left c.args.script)) _ (ap (map command_of) c.in-None.ensures.steps.over) c.loop-line.invariant in
    (answers, (c.new-field.result, c.new-field.ensures.samples, c.new-field.ensures.tree, run), adds)
