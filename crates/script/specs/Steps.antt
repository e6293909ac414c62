-- What the private steps of the readers do. Assumes nothing.
use Rattle.std.specs.Prelude.{◌≡◌, ℕ, ◌+◌, ◌*◌, ◌-◌, ◌<◌, true, false, List, [], ◌∷◌, length, Some, None, Ok, Err, Option, Result, ◌==◌}
use Rattle.std.specs.Borrow.{Bor}
use Rattle.std.specs.Char.{is_ascii_digit}
use Rattle.script.specs.Commands.{refused, command_of, measure_of}
use Rattle.script.specs.Lines.{lines, words_of}
use Rattle.script.specs.Scripts.{text_left}
use Rattle.script.specs.declared.Script.{Script}
use Rattle.script.specs.declared.Unreadable.{Unreadable}
use Rattle.script.specs.declared.words.Words.{Words}

-- The first line, if there is one, and what is left behind it.
abbrev pub FirstLine : Script → Option (Bor (List ℕ)) → Script → Type 0
FirstLine before None after = (text_left before ≡ []) × (after ≡ before)
FirstLine before (Some line) after =
    (lines (text_left before) ≡ line.now ∷ lines (text_left after)) × (length (text_left after) < length (text_left before))

-- The words of a part of a line; where no part is left, none.
abbrev pub parts_of : Option (Bor (List ℕ)) → List (List ℕ)
parts_of None = []
parts_of (Some rest) = words_of rest.now

-- The words that are still to come.
abbrev pub words_left : Words → List (List ℕ)
words_left words = parts_of words.rest

-- The first of the words that are to come, if there is one, and those behind it.
abbrev pub NextWord : Words → Option (Bor (List ℕ)) → Words → Type 0
NextWord before None after = (words_left before ≡ []) × (after ≡ before)
NextWord before (Some word) after =
    (words_left before ≡ word.now ∷ words_left after) × (length (words_left after) < length (words_left before))

-- What stands behind a letter: the words that are to come, or what makes one word with it.
abbrev pub Behind : List ℕ → Result Words Unreadable → Type 0
Behind bs (Ok words) = (c : ℕ) → (c == 32) ≡ false → words_of (c ∷ bs) ≡ (c ∷ []) ∷ words_left words
Behind bs (Err e) = (c : ℕ) → (c == 32) ≡ false → (w : List ℕ) × (ws : List (List ℕ)) × (words_of (c ∷ bs) ≡ w ∷ ws) × (1 < length w)

-- The words that are still to come are these.
pub record Gives (words : Words) (ws : List (List ℕ)) : Type 0 where
  pub left : words_left words ≡ ws

-- The letter of a line and the words behind it; a line that is refused here says nothing.
abbrev pub Parts : List ℕ → Result (ℕ × Words) Unreadable → Type 0
Parts line (Ok p) = (ws : List (List ℕ)) × (words_of line ≡ (p.0 ∷ []) ∷ ws) × Gives p.1 ws
Parts line (Err e) = (command_of line ≡ refused) × (measure_of line ≡ refused)

-- The number v with the digit b behind it, or none where b is no digit or the number would be out of range.
abbrev pub Lengthens : ℕ → ℕ → Option ℕ → Type 0
Lengthens v b None = is_ascii_digit b ≡ true → 65535 < 10 * v + (b - 48)
Lengthens v b (Some n) = (is_ascii_digit b ≡ true) × (n ≡ 10 * v + (b - 48))
