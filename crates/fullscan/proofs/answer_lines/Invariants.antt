use Rattle.std.proofs.Common.{◌≡◌, ◌++◌, replicate, None, string_bytes}
use Rattle.samples.specs.Slots.{table}
use Rattle.script.specs.Scripts.{commands, text_left}
use Rattle.fullscan.specs.Answers.{print, replies}
use Rattle.fullscan.proofs.answer_lines.Given as goal

-- what is printed, and the answers to what is left, are together the answers to all
abbrev pub invariant-loop-line : goal.invariant-loop-line
invariant-loop-line g l =
    let m = g.M.Measure in
    let w = m.weighed l.measure in
    let j = m.joined l.measure in
    string_bytes l.out ++ print (replies w j (table l.slots) (commands (text_left l.line-iterator)))
    ≡ string_bytes l.initial.out ++ print (replies w j (replicate 256 None) (commands (text_left l.initial.script)))
