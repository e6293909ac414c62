-- What a whole script is answered. Assumes nothing.
--   weigh m, join m   the measure that the first line of a script names
--   answers text      the answers to a script, line by line
use Rattle.std.specs.Prelude.{◌≡◌, ℕ, ◌*◌, min, max, List, [], ◌∷◌, ◌++◌, map, replicate, None, Ok, Err, Result}
use Rattle.measure.specs.Roots.{root}
use Rattle.measure.specs.Weight.{held_sum}
use Rattle.samples.specs.declared.refusal.Refusal.{Refusal}
use Rattle.samples.specs.declared.refusal.Refusal.TheVariants.{Unreadable}
use Rattle.script.specs.Commands.{command_of}
use Rattle.script.specs.Scripts.{commands, opened}
use Rattle.script.specs.declared.MeasureKind.{MeasureKind}
use Rattle.script.specs.declared.MeasureKind.TheVariants.{Block, Square, Peak, Damped}
use Rattle.script.specs.declared.Unreadable as unreadable
use Rattle.fullscan.specs.Answers.{print, replies}
use Rattle.fullscan.specs.declared.answer.Answer.{Answer}
use Rattle.fullscan.specs.declared.answer.Answer.TheVariants.{Measured}

abbrev pub weigh : MeasureKind → ℕ → ℕ → ℕ
weigh Block b g = g
weigh Square b g = g * g
weigh Peak b g = g
weigh Damped b g = root (1024 * min g 1023)

abbrev pub join : MeasureKind → ℕ → ℕ → ℕ
join Block = held_sum
join Square = held_sum
join Peak = max
join Damped = held_sum

-- the lines behind the first are answered one after the other, from empty slots on
abbrev pub answers_from : Result (MeasureKind × List (List ℕ)) unreadable.Unreadable → List (Result Answer Refusal)
answers_from (Ok p) = Ok Measured ∷ replies (weigh p.0) (join p.0) (replicate 256 None) (map command_of p.1)
answers_from (Err e) = Err Unreadable ∷ []

abbrev pub answers : List ℕ → List (Result Answer Refusal)
answers text = answers_from (opened text)

-- What the private steps do: behind `before` stand the answers to the lines of a text.
abbrev pub Printed : (ℕ → ℕ → ℕ) → (ℕ → ℕ → ℕ) → List ℕ → List ℕ → List ℕ → Type 0
Printed w j text before after = after ≡ before ++ print (replies w j (replicate 256 None) (commands text))
