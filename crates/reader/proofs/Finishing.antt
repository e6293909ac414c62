-- A query that goes on has more nodes to open. Assumes nothing.
use Rattle.std.proofs.Common.{◌≡◌, ℕ, suc, ◌-◌, ◌<◌, ◌≤◌, Bool, true, false, Ok, Err, Result, sym, ◌∙◌, ⊎_elim, arith}
use Rattle.std.proofs.lemmas.Bool.{cases_lt}
use Rattle.samples.specs.declared.refusal.Refusal.{Refusal}
use Rattle.field.specs.Fields.{holds}
use Rattle.field.specs.declared.state.Field.{Field}
use Rattle.histories.specs.Queries.{holding, goes_on, stage, step_answer, steps_after}
use Rattle.histories.specs.declared.Progress.{Progress}
use Rattle.histories.specs.declared.Progress.TheVariants.{Going}
use Rattle.histories.proofs.Agreed.{Known, few_steps}
use Rattle.walk.specs.Asked.{asked_of, asked_by}
use Rattle.reader.proofs.Asked.{taken}
use Rattle.reader.specs.Walked.{steps_of, Walked}
use Rattle.walk.specs.declared.question.Question.{Question}
use Rattle.walk.specs.declared.walk.Walk.{Walk}

pub more_steps : (w j : ℕ → ℕ → ℕ) → Known w j → (f : Field) (a : Result Question Refusal) (x : Walk) → Walked w j f a x → goes_on (stage w j f (asked_by a) (steps_of a x.steps)) ≡ true → suc (steps_of a x.steps) ≤ holding f
more_steps w j known f (Err e) x walked on = let no : false ≡ true = on in cc
more_steps w j known f (Ok q) x walked on =
    let s = walked.stands q (λ i. Ok q) in
    few_steps w j known f (asked_of q) (Ok (asked_of q)) (suc x.steps) (taken (holds f) q (walked.enough q (λ i. Ok q)))
    (λ h l. ⊎_elim (λ m. rw (s.before h m) (λ i. true)) (λ m. let e : h ≡ x.steps = omega arith in rw e on) (cases_lt h x.steps))

-- so that with each step fewer nodes are left
pub fewer_left : (w j : ℕ → ℕ → ℕ) → Known w j → (f : Field) (a : Result Question Refusal) (x : Walk) → Walked w j f a x → (r : Result Progress Refusal) (n : ℕ) → r ≡ Ok Going → r ≡ step_answer w j f (asked_by a) (steps_of a x.steps) → n ≡ steps_after w j f (asked_by a) (steps_of a x.steps) → holding f - n < holding f - steps_of a x.steps
fewer_left w j known f a x walked r n is answer steps = go (goes_on (stage w j f (asked_by a) (steps_of a x.steps))) (λ i. goes_on (stage w j f (asked_by a) (steps_of a x.steps)))
  where
    go : (on : Bool) → goes_on (stage w j f (asked_by a) (steps_of a x.steps)) ≡ on → holding f - n < holding f - steps_of a x.steps
    go true on =
        let more = more_steps w j known f a x walked on in
        let e : n ≡ suc (steps_of a x.steps) = rw on at steps in
        omega arith
    go false off = let e = rw off at answer in let no = sym is ∙ e in cc
