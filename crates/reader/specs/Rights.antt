-- What an answer of a query promises by itself, with no history in sight. Assumes nothing.
use Rattle.std.specs.Prelude.{ℕ, Ok, Err, Result}
use Rattle.samples.specs.declared.refusal.Refusal.{Refusal}
use Rattle.field.specs.Fields.{holds}
use Rattle.field.specs.declared.state.Field.{Field}
use Rattle.histories.specs.Promise.{RightInQuery}
use Rattle.walk.specs.Stands.{listed_at}
use Rattle.walk.specs.Questions.{Asked}
use Rattle.histories.specs.declared.Answer.{Answer}
use Rattle.histories.specs.declared.Call.{Call}

-- the answer b to the call c is right of the samples that the query holds, and of its list
abbrev pub Right : (ℕ → ℕ → ℕ) → (ℕ → ℕ → ℕ) → Field → Result Asked Refusal → ℕ → Call → Answer → Type 0
Right w j f (Ok q) i c b = RightInQuery w j (record { table = holds f; asked = q }) (listed_at w j f q i) c b
Right w j f (Err e) i c b = Unit {0}
