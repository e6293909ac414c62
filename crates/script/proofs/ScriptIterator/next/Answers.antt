use Rattle.std.proofs.Common.{◌∷◌, map, sym, ap, ◌∙◌}
use Rattle.script.specs.Commands.{command_of}
use Rattle.script.specs.Scripts.{commands, text_left}
use Rattle.script.proofs.ScriptIterator.next.Goals as goal

pub returns-clause-steps : goal.returns-clause-steps
returns-clause-steps c =
    let taken = c.in_ok-line.ensures in
    record {
      next = ap (map command_of) taken.0 ∙ ap (λ r. r ∷ commands (text_left c.take_line.new.self)) (sym c.parse_command.ensures);
      shorter = taken.1;
    }
