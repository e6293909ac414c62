use Rattle.std.proofs.Common.{◌≡◌, None, Some, arith}
use Rattle.std.proofs.lemmas.List.{length-replicate}
use Rattle.std.proofs.lemmas.Result.{err_from_is_err_and}
use Rattle.script.proofs.Gathered.{gathered_begins, gathered_steps, gathered_short, gathered_refuses, gathered_ends, gathered_long}
use Rattle.script.proofs.words.numbers.Goals as goal

pub loop-value-init : goal.loop-value-init
loop-value-init g c = λ ws gives. gathered_begins g.row.N ws _ _ (length-replicate g.row.N 0) gives

pub returns-in_err-word : goal.returns-in_err-word
returns-in_err-word g c =
    let refusal = err_from_is_err_and c.from_residual.result c.from_residual.ensures.1 in
    let over : c.next.result ≡ None = grind arith in
    λ ws gives.
    rw refusal.1 (gathered_short g.row.N c.loop-value.value-index ws c.loop-value.value-items c.loop-value.words c.next.new.self c.next.result (c.loop-value.invariant ws gives) c.next.ensures.steps (omega arith) over)

pub returns-in_err-value : goal.returns-in_err-value
returns-in_err-value g c =
    let refusal = err_from_is_err_and c.from_residual-in_err-value.result c.from_residual-in_err-value.ensures.1 in
    let there : c.next.result ≡ Some c.in_ok-word.word = grind arith in
    λ ws gives.
    rw refusal.1 (gathered_refuses g.row.N c.loop-value.value-index ws c.loop-value.value-items c.loop-value.words c.next.new.self c.next.result (c.loop-value.invariant ws gives) c.next.ensures.steps c.in_ok-word.word (omega arith) there c.in_err-value.ensures)

pub loop-value-preserved : goal.loop-value-preserved
loop-value-preserved g c =
    let there : c.next.result ≡ Some c.in_ok-word.word = grind arith in
    λ ws gives.
    gathered_steps g.row.N c.loop-value.value-index ws c.loop-value.value-items c.loop-value.words c.next.new.self c.next.result (c.loop-value.invariant ws gives) c.next.ensures.steps c.in_ok-word.word _ (omega arith) there c.in_ok-value.ensures

pub returns-in-None : goal.returns-in-None
returns-in-None g c =
    λ ws gives.
    gathered_ends g.row.N c.loop-value.value-index ws c.loop-value.value-items c.loop-value.words c.next-2.new.self c.next-2.result (c.loop-value.invariant ws gives) c.next-2.ensures.steps (omega arith) c.in-None.is

pub returns-in-Some : goal.returns-in-Some
returns-in-Some g c =
    λ ws gives.
    gathered_long g.row.N c.loop-value.value-index ws c.loop-value.value-items c.loop-value.words c.next-2.new.self c.next-2.result (c.loop-value.invariant ws gives) c.next-2.ensures.steps _ (omega arith) c.in-Some.is
