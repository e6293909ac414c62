use Rattle.std.proofs.Common.{Ok, refl, ap, ◌∙◌, arith}
use Rattle.std.proofs.lemmas.Bool.Decides.{nat_tests}
use Rattle.std.proofs.lemmas.Result.{err_from_is_err_and}
use Rattle.script.specs.Commands.{admit_of, withdraw_of, rebuild_of, query_of}
use Rattle.script.proofs.Spoken.{command_lettered, command_read}
use Rattle.script.proofs.commands.parse_command.Goals as goal

pub returns-in_err-numbers-in-A : goal.returns-in_err-numbers-in-A
returns-in_err-numbers-in-A c = (err_from_is_err_and _ c.from_residual-in_err-numbers-in-A.ensures.1).1 ∙ command_read _ _ 10 _ c.in_ok-letter.ensures c.in-A.is c.in_err-numbers-in-A.ensures admit_of (λ all. refl)

pub returns-in_ok-numbers-in-A : goal.returns-in_ok-numbers-in-A
returns-in_ok-numbers-in-A c = ap Ok c.admit.ensures ∙ command_read _ _ 10 _ c.in_ok-letter.ensures c.in-A.is c.in_ok-numbers-in-A.ensures admit_of (λ all. refl)

pub returns-in_err-slot-in-W : goal.returns-in_err-slot-in-W
returns-in_err-slot-in-W c = (err_from_is_err_and _ c.from_residual-in_err-slot-in-W.ensures.1).1 ∙ command_read _ _ 1 _ c.in_ok-letter.ensures c.in-W.is c.in_err-slot-in-W.ensures withdraw_of (λ all. refl)

pub returns-in_ok-slot-in-W : goal.returns-in_ok-slot-in-W
returns-in_ok-slot-in-W c = command_read _ _ 1 _ c.in_ok-letter.ensures c.in-W.is c.in_ok-slot-in-W.ensures withdraw_of (λ all. refl)

pub returns-in_err-numbers-in-R : goal.returns-in_err-numbers-in-R
returns-in_err-numbers-in-R c = (err_from_is_err_and _ c.from_residual-in_err-numbers-in-R.ensures.1).1 ∙ command_read _ _ 0 _ c.in_ok-letter.ensures c.in-R.is c.in_err-numbers-in-R.ensures rebuild_of (λ all. refl)

pub returns-in_ok-numbers-in-R : goal.returns-in_ok-numbers-in-R
returns-in_ok-numbers-in-R c = command_read _ _ 0 _ c.in_ok-letter.ensures c.in-R.is c.in_ok-numbers-in-R.ensures rebuild_of (λ all. refl)

pub returns-in_err-numbers-in-Q : goal.returns-in_err-numbers-in-Q
returns-in_err-numbers-in-Q c = (err_from_is_err_and _ c.from_residual-in_err-numbers-in-Q.ensures.1).1 ∙ command_read _ _ 11 _ c.in_ok-letter.ensures c.in-Q.is c.in_err-numbers-in-Q.ensures query_of (λ all. refl)

pub returns-in_ok-numbers-in-Q : goal.returns-in_ok-numbers-in-Q
returns-in_ok-numbers-in-Q c = ap Ok c.query.ensures ∙ command_read _ _ 11 _ c.in_ok-letter.ensures c.in-Q.is c.in_ok-numbers-in-Q.ensures query_of (λ all. refl)

pub returns-in_default : goal.returns-in_default
returns-in_default c =
    let parts = c.in_ok-letter.ensures in
    rw (command_lettered c.args.line.now c.in_ok-letter.letter parts.0 parts.1) (grind (arith, nat_tests))
