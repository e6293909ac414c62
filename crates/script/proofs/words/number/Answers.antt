use Rattle.std.proofs.Common.{length, sym, arith}
use Rattle.std.proofs.lemmas.Bool.{eqb-false}
use Rattle.std.proofs.lemmas.Bool.Decides.{nat_tests}
use Rattle.std.proofs.lemmas.Result.{err_from_is_err_and}
use Rattle.script.specs.Numbers.{is_number, number_of}
use Rattle.script.proofs.Numbered.{read_stops, read_whole}
use Rattle.script.proofs.words.number.Goals as goal

pub returns-then-is_empty : goal.returns-then-is_empty
unfolding number_of is_number
returns-then-is_empty c = grind (arith, nat_tests, c.then-is_empty.either)

pub returns-in_err-value : goal.returns-in_err-value
returns-in_err-value c =
    let refusal = err_from_is_err_and c.from_residual.result c.from_residual.ensures.1 in
    rw refusal.1 (read_stops c.args.word.now c.loop-byte.byte-index c.loop-byte.value c.loop-byte.invariant.0 (omega arith) c.in_err-value.ensures)

pub returns : goal.returns
returns c = read_whole c.args.word.now c.loop-byte.byte-index c.loop-byte.value c.loop-byte.invariant.0 (omega arith)
    (omega (arith, eqb-false (length c.args.word.now) 0 (sym c.if-is_empty.ensures))) (omega arith) c.loop-byte.invariant.1
