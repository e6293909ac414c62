-- The rules of the calls: what each does to a reader, or to the query that holds it, and what it answers. Assumes nothing.
--   State            a reader at rest, by its field; or a query that holds it: the field, the question or why that was refused,
--                    and how many steps were made
--   of_query c       the call is one of a query; the others are those of a reader
--   AtRest f c a t   at rest with the field f the call c is answered a and leads to t
--   InQuery f q i c a t  the same of a query with the question q after i steps
--   Does s c a t     the same of any state
--   Run s cs as t    the calls cs, one after the other, are answered as and lead to t
use Rattle.std.specs.Prelude.{◌≡◌, ℕ, Bool, true, false, List, [], ◌∷◌, replicate, Result}
use Rattle.std.specs.Borrow.{Bor}
use Rattle.std.specs.declared.alloc.Global.{Global}
use Rattle.std.specs.declared.vec.Vec.{Vec}
use Rattle.boxes.specs.Views.{entries}
use Rattle.samples.specs.Slots.{fibre_at, values_at, admit_rule, withdraw_rule}
use Rattle.samples.specs.declared.refusal.Refusal.{Refusal}
use Rattle.trees.specs.Samples.{raised, lowered}
use Rattle.field.specs.Fields.{holds, Drawn, Recounts}
use Rattle.field.specs.declared.state.Field.{Field}
use Rattle.fieldfile.specs.Format.{file_of, Writes}
use Rattle.fieldfile.specs.Loads.{Loads}
use Rattle.histories.specs.Queries.{stage, step_answer, steps_after, Until, span, witness, outcome}
use Rattle.walk.specs.Questions.{Asked, ask_rule}
use Rattle.fieldfile.specs.declared.faults.Fault.{Fault}
use Rattle.histories.specs.declared.Answer.{Answer}
use Rattle.histories.specs.declared.Answer.TheVariants.{Loaded, Written, Admitted, Withdrawn, Rebuilt, Opened, Stepped, Finished, Spanned, Witnessed, Closed, Misplaced}
use Rattle.histories.specs.declared.Call.{Call}
use Rattle.histories.specs.declared.Call.TheVariants.{Load, Write, Admit, Withdraw, Rebuild, Open, Step, Finish, Span, Witness, Close}

pub data State : Type 0 where
  resting : Field → State
  querying : Field → Result Asked Refusal → ℕ → State

abbrev pub field_of : State → Field
field_of (resting f) = f
field_of (querying f q i) = f

abbrev pub of_query : Call → Bool
of_query (Load bs) = false
of_query (Write n) = false
of_query (Admit s f vs) = false
of_query (Withdraw s) = false
of_query Rebuild = false
of_query (Open r k n d) = false
of_query Step = true
of_query Finish = true
of_query Span = true
of_query (Witness p) = true
of_query Close = true

module _ (w j : ℕ → ℕ → ℕ) where
  module _ (f : Field) where
    pub data AtRest : Call → Answer → State → Type 0 where
      loads : {bs : Bor (List ℕ)} {r : Result (Unit {0}) Fault} {g : Field} →
          Loads bs.now f g r → AtRest (Load bs) (Loaded r) (resting g)
      -- into a buffer of n zeros
      writes : {n : ℕ} {r : Result ℕ Refusal} {v : Vec ℕ Global} →
          Writes (file_of f) (replicate n 0) v.items r → AtRest (Write n) (Written r v) (resting f)
      admits : {s c : ℕ} {vs : List ℕ} {r : Result (Unit {0}) Refusal} {g : Field} →
          (holds g, r) ≡ admit_rule (holds f) s c vs → Recounts raised c (entries vs) f g r →
          AtRest (Admit s c vs) (Admitted r) (resting g)
      withdraws : {s : ℕ} {r : Result (Unit {0}) Refusal} {g : Field} →
          (holds g, r) ≡ withdraw_rule (holds f) s →
          Recounts lowered (fibre_at (holds f) s) (entries (values_at (holds f) s)) f g r →
          AtRest (Withdraw s) (Withdrawn r) (resting g)
      rebuilds : {g : Field} → holds g ≡ holds f → Drawn g → AtRest Rebuild Rebuilt (resting g)
      opens : {r : List ℕ} {k n d : ℕ} →
          AtRest (Open r k n d) Opened (querying f (ask_rule (holds f) (record { reading = r; k = k; num = n; den = d })) 0)
      misplaced_at_rest : {c : Call} → of_query c ≡ true → AtRest c Misplaced (resting f)

    module _ (q : Result Asked Refusal) (i : ℕ) where
      pub data InQuery : Call → Answer → State → Type 0 where
        steps : InQuery Step (Stepped (step_answer w j f q i)) (querying f q (steps_after w j f q i))
        -- steps until the walk has ended
        finishes : {m : ℕ} → Until w j f q i m → InQuery Finish Finished (querying f q m)
        spans : InQuery Span (Spanned (span w j f q i)) (querying f q i)
        witnesses : {p : ℕ} → InQuery (Witness p) (Witnessed (witness w j f q i p)) (querying f q i)
        closes : InQuery Close (Closed (outcome (stage w j f q i) i)) (resting f)
        misplaced_in_query : {c : Call} → of_query c ≡ false → InQuery c Misplaced (querying f q i)

  abbrev pub Does : State → Call → Answer → State → Type 0
  Does (resting f) = AtRest f
  Does (querying f q i) = InQuery f q i

  pub data Run : State → List Call → List Answer → State → Type 0 where
    ended : {s : State} → Run s [] [] s
    then : {s t u : State} {c : Call} {cs : List Call} {a : Answer} {rest : List Answer} →
        Does s c a t → Run t cs rest u → Run s (c ∷ cs) (a ∷ rest) u
