-- The program's question, as it was asked. Assumes nothing.
use Rattle.std.specs.Prelude.{Ok, Err, Result}
use Rattle.samples.specs.declared.refusal.Refusal.{Refusal}
use Rattle.walk.specs.Questions.{Asked}
use Rattle.walk.specs.declared.question.Question.{Question}

abbrev pub asked_of : Question → Asked
asked_of q = record { reading = q.reading.values; k = q.k; num = q.num; den = q.den }

abbrev pub asked_by : Result Question Refusal → Result Asked Refusal
asked_by (Ok q) = Ok (asked_of q)
asked_by (Err e) = Err e
