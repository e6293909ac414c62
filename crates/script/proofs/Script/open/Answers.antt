use Rattle.std.proofs.Common.{◌≡◌, Some, None, arith}
use Rattle.std.proofs.lemmas.Result.{err_from_is_err_and}
use Rattle.script.proofs.Opened.{opened_long, opened_none, opened_other, opened_first}
use Rattle.script.proofs.Script.open.Goals as goal

pub returns-then-text-gt-MAX_BYTES : goal.returns-then-text-gt-MAX_BYTES
returns-then-text-gt-MAX_BYTES c = opened_long c.args.text.now (omega arith)

pub returns-in_err-line : goal.returns-in_err-line
returns-in_err-line c =
    let refusal = err_from_is_err_and c.from_residual.result c.from_residual.ensures.1 in
    let none : c.take_line.result ≡ None = grind arith in
    rw refusal.1 (opened_none (record { rest = c.args.text }) c.take_line.new.self c.take_line.result (omega arith) c.take_line.ensures none)

pub returns-in_err-measure : goal.returns-in_err-measure
returns-in_err-measure c =
    let refusal = err_from_is_err_and c.from_residual-in_err-measure.result c.from_residual-in_err-measure.ensures.1 in
    let there : c.take_line.result ≡ Some c.in_ok-line.line = grind arith in
    rw refusal.1 (opened_other (record { rest = c.args.text }) c.take_line.new.self c.take_line.result (omega arith) c.take_line.ensures c.in_ok-line.line there c.in_err-measure.ensures)

pub returns : goal.returns
returns c =
    let there : c.take_line.result ≡ Some c.in_ok-line.line = grind arith in
    opened_first (record { rest = c.args.text }) c.take_line.new.self c.take_line.result (omega arith) c.take_line.ensures c.in_ok-line.line c.in_ok-measure.measure there c.in_ok-measure.ensures
