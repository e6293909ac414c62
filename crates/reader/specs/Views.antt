-- What a reader, and the query that holds one, are to the rules of the calls. Assumes nothing.
--   field_in r          the field of a reader
--   question_in q       the question of a query, or why it was refused
--   steps_in q          how many steps it has made
--   for_query word q    what a word of the rules says of it
--   Stays p q           p and q are one query over one field, with other steps made
--   state_of h          the state of a reader at rest, or of the query that holds it
--   measure_in h        the measure that it has
--   Serves h c a k      the call c is answered a and leads from h to k
use Rattle.std.specs.Prelude.{◌≡◌, ℕ, Result}
use Rattle.measure.specs.declared.Measure.{Ghosts}
use Rattle.samples.specs.declared.refusal.Refusal.{Refusal}
use Rattle.field.specs.declared.state.Field.{Field}
use Rattle.histories.specs.Calls.{State, resting, querying, Does}
use Rattle.walk.specs.Questions.{Asked}
use Rattle.histories.specs.declared.Answer.{Answer}
use Rattle.histories.specs.declared.Call.{Call}
use Rattle.walk.specs.Asked.{asked_by}
use Rattle.reader.specs.Walked.{steps_of}
use Rattle.reader.specs.declared.held.Held.{Held}
use Rattle.reader.specs.declared.held.Held.TheVariants.{Resting, Querying}
use Rattle.reader.specs.declared.query.Query.{Query}
use Rattle.reader.specs.declared.reader.Reader.{Reader}

abbrev pub field_in : {M : Type 0} → Reader M → Field
field_in r = r.store.value.field

module _ {M : Type 0} {g : Ghosts M} where
  abbrev pub question_in : Query M g → Result Asked Refusal
  question_in q = asked_by q.question

  abbrev pub steps_in : Query M g → ℕ
  steps_in q = steps_of q.question q.reader.store.value.walk.steps

  abbrev pub for_query {ℓ} : {T : Type ℓ} → ((ℕ → ℕ → ℕ) → (ℕ → ℕ → ℕ) → Field → Result Asked Refusal → ℕ → T) → Query M g → T
  for_query word q =
      word (g.weighed q.reader.measure) (g.joined q.reader.measure) (field_in q.reader) (question_in q) (steps_in q)

  pub record Stays (p q : Query M g) : Type 0 where
    pub question : question_in q ≡ question_in p
    pub field : field_in q.reader ≡ field_in p.reader
    pub measure : q.reader.measure ≡ p.reader.measure

  abbrev pub state_of : Held M g → State
  state_of (Resting r) = resting (field_in r)
  state_of (Querying q) = querying (field_in q.reader) (question_in q) (steps_in q)

  abbrev pub measure_in : Held M g → M
  measure_in (Resting r) = r.measure
  measure_in (Querying q) = q.reader.measure

  pub record Serves (h : Held M g) (c : Call) (a : Answer) (k : Held M g) : Type 0 where
    pub does : Does (g.weighed (measure_in h)) (g.joined (measure_in h)) (state_of h) c a (state_of k)
    pub measure : measure_in k ≡ measure_in h
