-- What a line says by its words. Assumes nothing.
use Rattle.std.specs.Prelude.{ℕ, cond, List, [], ◌∷◌, drop, Some, None, Ok, Err, Option, Result, ◌==◌, slice_index}
use Rattle.script.specs.Lines.{words_of}
use Rattle.script.specs.Numbers.{numbers}
use Rattle.script.specs.declared.Command.{Command}
use Rattle.script.specs.declared.Command.TheVariants.{Admit, Withdraw, Rebuild, Query}
use Rattle.script.specs.declared.MeasureKind.{MeasureKind}
use Rattle.script.specs.declared.MeasureKind.TheVariants.{Block, Square, Peak, Damped}
use Rattle.script.specs.declared.Unreadable.{Unreadable}

abbrev pub refused : {X : Type 0} → Result X Unreadable
refused = Err (record {})

-- The letter that a word is; 0 is none.
abbrev pub letter_of : List ℕ → ℕ
letter_of [] = 0
letter_of (c ∷ []) = c
letter_of (c ∷ b ∷ bs) = 0

-- A slot, a fibre and the values of a sample.
abbrev pub admitted : List ℕ → Command
admitted vs = Admit (slice_index vs 0) (slice_index vs 1) (drop 2 vs)

abbrev pub admit_of : Option (List ℕ) → Result Command Unreadable
admit_of None = refused
admit_of (Some vs) = Ok (admitted vs)

abbrev pub withdraw_of : Option (List ℕ) → Result Command Unreadable
withdraw_of None = refused
withdraw_of (Some vs) = Ok (Withdraw (slice_index vs 0))

abbrev pub rebuild_of : Option (List ℕ) → Result Command Unreadable
rebuild_of None = refused
rebuild_of (Some vs) = Ok Rebuild

-- How many are asked, a ratio and the values of a reading.
abbrev pub asked : List ℕ → Command
asked vs = Query (record { k = slice_index vs 0; num = slice_index vs 1; den = slice_index vs 2; reading = drop 3 vs })

abbrev pub query_of : Option (List ℕ) → Result Command Unreadable
query_of None = refused
query_of (Some vs) = Ok (asked vs)

-- The measure with a number.
abbrev pub kind_numbered : ℕ → Result MeasureKind Unreadable
kind_numbered n =
    cond (n == 0) (Ok Block)
    (cond (n == 1) (Ok Square)
    (cond (n == 2) (Ok Peak)
    (cond (n == 3) (Ok Damped) refused)))

abbrev pub kind_of : Option (List ℕ) → Result MeasureKind Unreadable
kind_of None = refused
kind_of (Some vs) = kind_numbered (slice_index vs 0)

-- A, W, R and Q; `its n` is the n numbers of the letter, if it has just so many.
abbrev pub commanded : ℕ → (ℕ → Option (List ℕ)) → Result Command Unreadable
commanded c its =
    cond (c == 65) (admit_of (its 10))
    (cond (c == 87) (withdraw_of (its 1))
    (cond (c == 82) (rebuild_of (its 0))
    (cond (c == 81) (query_of (its 11)) refused)))

-- M, with one number.
abbrev pub measured : ℕ → (ℕ → Option (List ℕ)) → Result MeasureKind Unreadable
measured c its = cond (c == 77) (kind_of (its 1)) refused

-- What the words of a line say: the first is a letter, and the others are its numbers.
abbrev pub said : {X : Type 0} → (ℕ → (ℕ → Option (List ℕ)) → Result X Unreadable) → List (List ℕ) → Result X Unreadable
said meant [] = refused
said meant (w ∷ ws) = meant (letter_of w) (λ n. numbers n ws)

unfoldable pub command_of : List ℕ → Result Command Unreadable
command_of line = said commanded (words_of line)

unfoldable pub measure_of : List ℕ → Result MeasureKind Unreadable
measure_of line = said measured (words_of line)
