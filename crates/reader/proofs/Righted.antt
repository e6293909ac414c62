-- What a query answers is right of the samples that it holds. Assumes nothing.
use Rattle.std.proofs.Common.{◌≡◌, ℕ, Ok, Err, Option, Result, sym, refl, subst}
use Rattle.samples.specs.declared.refusal.Refusal.{Refusal}
use Rattle.field.specs.Fields.{holds}
use Rattle.field.specs.declared.state.Field.{Field}
use Rattle.histories.specs.Calls.{State, resting, querying, InQuery, spans, witnesses, closes}
use Rattle.histories.specs.Queries.{stage, span, witness, outcome}
use Rattle.walk.specs.Stands.{listed_at}
use Rattle.histories.specs.declared.Answer.{Answer}
use Rattle.histories.specs.declared.Answer.TheVariants.{Spanned, Witnessed, Closed}
use Rattle.histories.specs.declared.Call.{Call}
use Rattle.histories.specs.declared.Call.TheVariants.{Span, Witness, Close}
use Rattle.histories.specs.declared.Outcome.{Outcome}
use Rattle.histories.proofs.Agreed.{Known, sound_of}
use Rattle.histories.proofs.Promised.{taken_right}
use Rattle.reader.specs.Rights.{Right}
use Rattle.walk.specs.Asked.{asked_of, asked_by}
use Rattle.reader.proofs.Asked.{taken}
use Rattle.reader.specs.Walked.{Walked}
use Rattle.walk.specs.declared.question.Question.{Question}
use Rattle.walk.specs.declared.walk.Walk.{Walk}

module _ (w j : ℕ → ℕ → ℕ) (known : Known w j) (f : Field) (a : Result Question Refusal) (x : Walk) (walked : Walked w j f a x) (i : ℕ) where
  by_rules : (c : Call) (b : Answer) (u : State) → InQuery w j f (asked_by a) i c b u → Right w j f (asked_by a) i c b
  by_rules c b u d = go a refl d
    where
      go : (y : Result Question Refusal) → a ≡ y → InQuery w j f (asked_by y) i c b u → Right w j f (asked_by y) i c b
      go (Err e) is d = tt
      go (Ok q) is d =
          taken_right w j f (asked_of q) (sound_of w j known f (asked_of q) (asked_of q) (taken (holds f) q (walked.enough q is))) i (listed_at w j f (asked_of q) i) (λ e. refl) c b u d

  pub span_right : (r : Option (ℕ × ℕ)) → r ≡ span w j f (asked_by a) i → Right w j f (asked_by a) i Span (Spanned r)
  span_right r e = subst (λ y. Right w j f (asked_by a) i Span (Spanned y)) (sym e) (by_rules Span _ (querying f (asked_by a) i) spans)

  pub witness_right : (p : ℕ) (r : Option ℕ) → r ≡ witness w j f (asked_by a) i p → Right w j f (asked_by a) i (Witness p) (Witnessed r)
  witness_right p r e = subst (λ y. Right w j f (asked_by a) i (Witness p) (Witnessed y)) (sym e) (by_rules (Witness p) _ (querying f (asked_by a) i) witnesses)

  pub close_right : (r : Outcome) → r ≡ outcome (stage w j f (asked_by a) i) i → Right w j f (asked_by a) i Close (Closed r)
  close_right r e = subst (λ y. Right w j f (asked_by a) i Close (Closed y)) (sym e) (by_rules Close _ (resting f) closes)
