use Rattle.std.proofs.Common.{refl, ◌∙◌, arith}
use Rattle.std.proofs.lemmas.Bool.Decides.{nat_tests}
use Rattle.std.proofs.lemmas.Result.{err_from_is_err_and}
use Rattle.script.specs.Commands.{kind_of}
use Rattle.script.proofs.Spoken.{measure_lettered, measure_read}
use Rattle.script.proofs.commands.parse_measure.Goals as goal

pub returns-in_err-number-in-M : goal.returns-in_err-number-in-M
returns-in_err-number-in-M c = (err_from_is_err_and _ c.from_residual-in_err-number-in-M.ensures.1).1 ∙ measure_read _ _ 1 _ c.in_ok-letter.ensures c.in-M.is c.in_err-number-in-M.ensures kind_of (λ all. refl)

pub returns-in_ok-number-in-M : goal.returns-in_ok-number-in-M
returns-in_ok-number-in-M c = c.try_from.ensures ∙ measure_read _ _ 1 _ c.in_ok-letter.ensures c.in-M.is c.in_ok-number-in-M.ensures kind_of (λ all. refl)

pub returns-in_default : goal.returns-in_default
returns-in_default c =
    let parts = c.in_ok-letter.ensures in
    rw (measure_lettered c.args.line.now c.in_ok-letter.letter parts.0 parts.1) (grind (arith, nat_tests))
