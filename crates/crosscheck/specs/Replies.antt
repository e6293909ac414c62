-- What the lines of a script are answered on a field, and how they change it. Assumes nothing.
--   Judged f q a        a question over the field f is answered a
--   Replies f l a g     a line l at the field f is answered a, and leaves g
--   Runs f ls as        the lines ls, one after the other from f on, are answered as
--   Answered, Answers   the answers to the lines behind the first, and to a whole script
--   Checked text s b    s is printed for a whole script, and b says whether walk and full scan agree in all its answers
use Rattle.std.specs.Prelude.{◌≡◌, ℕ, Bool, List, [], ◌∷◌, map, replicate, None, Ok, Err, Result}
use Rattle.boxes.specs.Views.{entries}
use Rattle.samples.specs.Slots.{fibre_at, values_at, admit_rule, withdraw_rule}
use Rattle.samples.specs.Verdict.{verdict_rule}
use Rattle.samples.specs.declared.refusal.Refusal.{Refusal}
use Rattle.samples.specs.declared.refusal.Refusal.TheVariants.{Unreadable}
use Rattle.trees.specs.Samples.{raised, lowered}
use Rattle.field.specs.Fields.{holds, Bare, Drawn, Recounts}
use Rattle.field.specs.declared.state.Field.{Field}
use Rattle.walk.specs.Outcomes as walk
use Rattle.walk.specs.Questions.{Asked, ask_rule}
use Rattle.walk.specs.declared.walk.Walk.{Walk}
use Rattle.script.specs.Commands.{command_of}
use Rattle.script.specs.Scripts.{opened}
use Rattle.script.specs.declared.Command.{Command}
use Rattle.script.specs.declared.Command.TheVariants.{Admit, Withdraw, Rebuild}
use Rattle.script.specs.declared.Command.TheVariants as command
use Rattle.script.specs.declared.MeasureKind.{MeasureKind}
use Rattle.script.specs.declared.Query.{Query}
use Rattle.script.specs.declared.Unreadable as unreadable
use Rattle.fullscan.specs.Runs.{weigh, join}
use Rattle.crosscheck.specs.Answers.{agreed, print}
use Rattle.crosscheck.specs.declared.answer.Answer.{Answer}
use Rattle.crosscheck.specs.declared.answer.Answer.TheVariants.{Measured, Admitted, Withdrawn, Rebuilt}
use Rattle.crosscheck.specs.declared.answer.Answer.TheVariants as answer

-- a call that was carried out is answered by its letter
abbrev pub answered : Answer → Result (Unit {0}) Refusal → Result Answer Refusal
answered a (Ok u) = Ok a
answered a (Err e) = Err e

abbrev pub asked : Query → Asked
asked q = record { reading = q.reading; k = q.k; num = q.num; den = q.den }

module _ (w j : ℕ → ℕ → ℕ) where
  -- the walk of a question that can be asked has ended, and the full scan has its verdict
  abbrev pub Judged : Field → Query → Result Answer Refusal → Type 0
  Judged f q (Ok (answer.Judged o g)) =
      (ask_rule (holds f) (asked q) ≡ Ok (asked q)) × (verdict_rule w j (holds f) q.reading q.k ≡ Ok g)
      × ((x : Walk) × walk.Answers w j f (asked q) o x)
  Judged f q (Ok _) = ⊥
  Judged f q (Err e) = ask_rule (holds f) (asked q) ≡ Err e

  abbrev pub Replies : Field → Result Command unreadable.Unreadable → Result Answer Refusal → Field → Type 0
  Replies f (Ok (Admit s c vs)) a g =
      (r : Result (Unit {0}) Refusal) × (a ≡ answered Admitted r) × ((holds g, r) ≡ admit_rule (holds f) s c vs) × Recounts raised c (entries vs) f g r
  Replies f (Ok (Withdraw s)) a g =
      (r : Result (Unit {0}) Refusal) × (a ≡ answered Withdrawn r) × ((holds g, r) ≡ withdraw_rule (holds f) s)
      × Recounts lowered (fibre_at (holds f) s) (entries (values_at (holds f) s)) f g r
  Replies f (Ok Rebuild) a g = (a ≡ Ok Rebuilt) × (holds g ≡ holds f) × Drawn g
  Replies f (Ok (command.Query q)) a g = Judged f q a × (g ≡ f)
  Replies f (Err e) a g = (a ≡ Err Unreadable) × (g ≡ f)

  pub data Runs : Field → List (Result Command unreadable.Unreadable) → List (Result Answer Refusal) → Type 0 where
    ends : {f : Field} → Runs f [] []
    goes : {f g : Field} {c : Result Command unreadable.Unreadable} {cs : List (Result Command unreadable.Unreadable)} {a : Result Answer Refusal} {rest : List (Result Answer Refusal)} → Replies f c a g → Runs g cs rest → Runs f (c ∷ cs) (a ∷ rest)

  -- the lines of a text, from an empty field on
  abbrev pub Answered : List (Result Command unreadable.Unreadable) → List (Result Answer Refusal) → Type 0
  Answered cs answers = (f : Field) × (holds f ≡ replicate 256 None) × Bare f × Runs f cs answers

-- the measure that the first line names weighs the lines behind it
abbrev pub Answers : Result (MeasureKind × List (List ℕ)) unreadable.Unreadable → List (Result Answer Refusal) → Type 0
Answers (Ok p) answers =
    (rest : List (Result Answer Refusal)) × (answers ≡ Ok Measured ∷ rest) × Answered (weigh p.0) (join p.0) (map command_of p.1) rest
Answers (Err e) answers = answers ≡ Err Unreadable ∷ []

abbrev pub Checked : List ℕ → List ℕ → Bool → Type 0
Checked text out b = (answers : List (Result Answer Refusal)) × Answers (opened text) answers × (out ≡ print answers) × (b ≡ agreed answers)
