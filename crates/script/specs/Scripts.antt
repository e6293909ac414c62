-- What a text says line by line, and what its reader answers. Assumes nothing.
use Rattle.std.specs.Prelude.{◌≡◌, ℕ, ◌<◌, ◌≤◌, cond, List, [], ◌∷◌, map, length, Some, None, Ok, Err, Option, Result, nat_le}
use Rattle.script.specs.Lines.{lines}
use Rattle.script.specs.Commands.{refused, command_of, measure_of}
use Rattle.script.specs.declared.Command.{Command}
use Rattle.script.specs.declared.MeasureKind.{MeasureKind}
use Rattle.script.specs.declared.Script.{Script}
use Rattle.script.specs.declared.Unreadable.{Unreadable}

-- What each line of a text says.
abbrev pub commands : List ℕ → List (Result Command Unreadable)
commands text = map command_of (lines text)

-- A measure with the lines behind it.
abbrev pub followed : Result MeasureKind Unreadable → List (List ℕ) → Result (MeasureKind × List (List ℕ)) Unreadable
followed (Ok m) ls = Ok (m, ls)
followed (Err e) ls = Err e

abbrev pub begun : List (List ℕ) → Result (MeasureKind × List (List ℕ)) Unreadable
begun [] = refused
begun (l ∷ ls) = followed (measure_of l) ls

-- The measure that the first line names, and the lines behind it; a text has at most 65535 bytes.
unfoldable pub opened : List ℕ → Result (MeasureKind × List (List ℕ)) Unreadable
opened text = cond (nat_le (length text) 65535) (begun (lines text)) refused

-- The part of the text that has not been read yet.
abbrev pub text_left : Script → List ℕ
text_left s = s.rest.now

pub record OpenedAs (text : List ℕ) (measure : MeasureKind) (after : Script) : Type 0 where
  pub value : opened text ≡ Ok (measure, lines (text_left after))
  pub fits : length text ≤ 65535
  pub shorter : length (text_left after) < length text

-- The answer to a text that is to be opened.
abbrev pub Opens : List ℕ → Result (MeasureKind × Script) Unreadable → Type 0
Opens text (Ok p) = OpenedAs text p.0 p.1
Opens text (Err e) = opened text ≡ refused

pub record NoLine (before after : Script) : Type 0 where
  pub over : lines (text_left before) ≡ []
  pub same : after ≡ before

pub record OneLine (before : Script) (said : Result Command Unreadable) (after : Script) : Type 0 where
  pub next : commands (text_left before) ≡ said ∷ commands (text_left after)
  pub shorter : length (text_left after) < length (text_left before)

-- The answer to what the next line says.
abbrev pub Tells : Script → Option (Result Command Unreadable) → Script → Type 0
Tells before None after = NoLine before after
Tells before (Some said) after = OneLine before said after
