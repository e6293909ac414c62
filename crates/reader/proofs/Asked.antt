-- A question that is taken, and asked again. Assumes nothing.
use Rattle.std.proofs.Common.{◌≡◌, ◌≤◌, true, nat_le, Ok, Result, refl, sym, ap, ◌∙◌, arith}
use Rattle.std.proofs.lemmas.Bool.Decides.{nat_tests}
use Rattle.samples.specs.Slots.{Table}
use Rattle.samples.specs.Verdict.{samples}
use Rattle.samples.specs.declared.refusal.Refusal.{Refusal}
use Rattle.histories.proofs.Agreed.{answerable}
use Rattle.walk.specs.Asked.{asked_of, asked_by}
use Rattle.walk.specs.Questions.{Asked, ask_rule}
use Rattle.walk.specs.declared.question.Question.{Question}

pub taken : (t : Table) (q : Question) → q.k ≤ samples t → Ok (asked_of q) ≡ ask_rule t (asked_of q)
taken t q h = let e : nat_le q.k (samples t) ≡ true = grind (arith, nat_tests) in rw (q.ranges, e) refl

pub enough_of : (t : Table) (o : Asked) (a : Result Question Refusal) (q : Question) → asked_by a ≡ ask_rule t o → a ≡ Ok q → q.k ≤ samples t
enough_of t o a q e is = (answerable t o (asked_of q) (sym (ap asked_by is) ∙ e)).enough
