-- What the private steps do to a report. Assumes nothing.
--   Adds r as q        behind what the report r has stand answers: this is q
--   Behind w j t r q   these are the answers to the lines of the text t
use Rattle.std.specs.Prelude.{◌≡◌, ℕ, List, ◌++◌, ◌&&◌, Result, string_bytes}
use Rattle.samples.specs.declared.refusal.Refusal.{Refusal}
use Rattle.script.specs.Scripts.{commands}
use Rattle.crosscheck.specs.Answers.{agreed, print}
use Rattle.crosscheck.specs.Replies.{Answered}
use Rattle.crosscheck.specs.declared.Report.{Report}
use Rattle.crosscheck.specs.declared.answer.Answer.{Answer}

pub record Adds (before : Report) (answers : List (Result Answer Refusal)) (after : Report) : Type 0 where
  pub text : string_bytes after.text ≡ string_bytes before.text ++ print answers
  pub agreed : after.agree ≡ (before.agree && agreed answers)

abbrev pub Behind : (ℕ → ℕ → ℕ) → (ℕ → ℕ → ℕ) → List ℕ → Report → Report → Type 0
Behind w j text before after = (answers : List (Result Answer Refusal)) × Answered w j (commands text) answers × Adds before answers after
