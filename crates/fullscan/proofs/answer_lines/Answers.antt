use Rattle.std.proofs.Common.{List, ◌++◌, string_bytes, Result, sym, ap, ◌∙◌}
use Rattle.samples.specs.Slots.{table}
use Rattle.script.specs.Scripts.{commands, text_left}
use Rattle.script.specs.declared.Command.{Command}
use Rattle.script.specs.declared.Unreadable as unreadable
use Rattle.fullscan.specs.Answers.{print, replies}
use Rattle.fullscan.proofs.Printed.{print_more}
use Rattle.fullscan.proofs.answer_lines.Goals as goal

pub loop-line-preserved : goal.loop-line-preserved
loop-line-preserved g c =
    let w = g.M.Measure.weighed c.args.measure.now in
    let j = g.M.Measure.joined c.args.measure.now in
    let t = table c.loop-line.slots in
    let before = string_bytes c.loop-line.out in
    let rest = commands (text_left c.next.new.self) in
    let next = c.in-Some.ensures.steps.next in
    let all = λ (cs : List (Result Command unreadable.Unreadable)). before ++ print (replies w j t cs) in
    print_more w j before (string_bytes c.put.new.out) t (table c.reply.new.slots) c.reply.result c.in-Some.line rest c.in_ok-put.ensures c.reply.ensures
    ∙ ap all (sym next) ∙ c.loop-line.invariant
