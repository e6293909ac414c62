-- One answer more in a report. Assumes nothing.
use Rattle.std.proofs.Common.{◌≡◌, ℕ, List, [], ◌∷◌, ◌++◌, Bool, true, false, ◌&&◌, Ok, Err, Result, string_bytes, refl, sym, ap, ◌∙◌, append_assoc, append-nil}
use Rattle.samples.specs.declared.refusal.Refusal.{Refusal}
use Rattle.samples.specs.declared.refusal.Refusal.TheVariants.{Unreadable}
use Rattle.script.specs.Commands.{refused}
use Rattle.script.specs.Lines.{lines}
use Rattle.script.specs.Scripts.{opened}
use Rattle.script.specs.declared.Command.{Command}
use Rattle.script.specs.declared.MeasureKind.{MeasureKind}
use Rattle.script.specs.declared.Unreadable as unreadable
use Rattle.field.specs.declared.state.Field.{Field}
use Rattle.fullscan.specs.Runs.{weigh, join}
use Rattle.crosscheck.specs.Answers.{agreed, line_of, print}
use Rattle.crosscheck.specs.Replies.{Replies, Runs, Checked}
use Rattle.crosscheck.specs.Reports.{Adds, Behind}
use Rattle.crosscheck.specs.declared.Report.{Report}
use Rattle.crosscheck.specs.declared.answer.Answer.{Answer}
use Rattle.crosscheck.specs.declared.answer.Answer.TheVariants.{Measured}

-- answers that are to come behind a report make it what others make of an earlier one
pub record Continues (before : Report) (all : List (Result Answer Refusal)) (now : Report) (rest : List (Result Answer Refusal)) : Type 0 where
  pub text : string_bytes now.text ++ print rest ≡ string_bytes before.text ++ print all
  pub agreed : (now.agree && agreed rest) ≡ (before.agree && agreed all)

and_assoc : (a b c : Bool) → ((a && (b && true)) && c) ≡ (a && (b && c))
and_assoc true true c = refl
and_assoc true false c = refl
and_assoc false b c = refl

and_true : (b : Bool) → (b && true) ≡ b
and_true true = refl
and_true false = refl

pub one_more : (r q : Report) (a : Result Answer Refusal) (rest : List (Result Answer Refusal)) → Adds r (a ∷ []) q → Continues r (a ∷ rest) q rest
one_more r q a rest adds = record {
  text =
      ap (λ l. l ++ print rest) adds.text ∙ append_assoc (string_bytes r.text) (line_of a ++ (10 ∷ [])) (print rest)
      ∙ ap (λ l. string_bytes r.text ++ l) (append_assoc (line_of a) (10 ∷ []) (print rest));
  agreed = ap (λ b. b && agreed rest) adds.agreed ∙ and_assoc r.agree _ (agreed rest);
}

module _ (w j : ℕ → ℕ → ℕ) where
  -- whatever the lines that are left are answered, all lines from the field f on are answered so that the report comes to the same
  abbrev pub Promises : Report → Field → List (Result Command unreadable.Unreadable) → Report → Field → List (Result Command unreadable.Unreadable) → Type 0
  Promises r f all q g left =
      (rest : List (Result Answer Refusal)) → Runs w j g left rest → (answers : List (Result Answer Refusal)) × Runs w j f all answers × Continues r answers q rest

  pub promise_begins : (r : Report) (f : Field) (all : List (Result Command unreadable.Unreadable)) → Promises r f all r f all
  promise_begins r f all rest run = (rest, run, record { text = refl; agreed = refl })

  pub promise_steps : (r q s : Report) (f g h : Field) (c : Result Command unreadable.Unreadable) (all before left : List (Result Command unreadable.Unreadable)) (a : Result Answer Refusal) → before ≡ c ∷ left → Promises r f all q g before → Replies w j g c a h → Adds q (a ∷ []) s → Promises r f all s h left
  promise_steps r q s f g h c all before left a next promised replied adds rest run =
      let (answers, whole, same) = promised (a ∷ rest) (rw next (Runs.goes replied run)) in
      let more = one_more q s a rest adds in
      (answers, whole, record { text = more.text ∙ same.text; agreed = more.agreed ∙ same.agreed })

  pub promise_ends : (r q : Report) (f g : Field) (all left : List (Result Command unreadable.Unreadable)) → left ≡ [] → Promises r f all q g left → (answers : List (Result Answer Refusal)) × Runs w j f all answers × Adds r answers q
  promise_ends r q f g all left over promised =
      let (answers, whole, same) = promised [] (rw over Runs.ends) in
      (answers, whole, record { text = sym (append-nil _) ∙ same.text; agreed = sym (and_true q.agree) ∙ same.agreed })

-- a report that has nothing yet
abbrev pub Empty : Report → Type 0
Empty r = (string_bytes r.text ≡ []) × (r.agree ≡ true)

pub checked_lines : (text left : List ℕ) (m : MeasureKind) (r q s : Report) → opened text ≡ Ok (m, lines left) → Empty r → Adds r (Ok Measured ∷ []) q → Behind (weigh m) (join m) left q s → Checked text (string_bytes s.text) s.agree
checked_lines text left m r q s says (bytes, none) first (answers, answered, adds) =
    let more = one_more r q (Ok Measured) answers first in
    let all = Ok Measured ∷ answers in
    (all, rw says (answers, refl, answered), adds.text ∙ more.text ∙ ap (λ l. l ++ print all) bytes, adds.agreed ∙ more.agreed ∙ ap (λ b. b && agreed all) none)

pub checked_refusal : (text : List ℕ) (r q : Report) → opened text ≡ refused → Empty r → Adds r (Err Unreadable ∷ []) q → Checked text (string_bytes q.text) q.agree
checked_refusal text r q says (bytes, none) adds =
    let all = Err Unreadable ∷ [] in
    (all, rw says refl, adds.text ∙ ap (λ l. l ++ print all) bytes, adds.agreed ∙ ap (λ b. b && agreed all) none)
