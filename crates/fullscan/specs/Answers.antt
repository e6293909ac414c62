-- What a line of a script is answered, and what is printed for it. Assumes nothing.
--   ratio_ok n d         a ratio of n to d can be asked for
--   reply_rule w j t c   the table after a line, and its answer, under the measure of w and j
--   replies w j t cs     the answers to lines that follow one another
--   letters_of a         what is printed for a line that was carried out
--   line_of a            the line that is printed for an answer or a refusal, without its line feed
--   print xs             the lines of answers, each with its line feed
use Rattle.std.specs.Prelude.{ℕ, Bool, cond, ◌&&◌, List, [], ◌∷◌, ◌++◌, Ok, Err, codes, decimal, Result, nat_le}
use Rattle.samples.specs.Refusals.{number_of}
use Rattle.samples.specs.Slots.{Table, admit_rule, withdraw_rule}
use Rattle.samples.specs.Verdict.{verdict_rule}
use Rattle.samples.specs.declared.refusal.Refusal.{Refusal}
use Rattle.samples.specs.declared.refusal.Refusal.TheVariants.{OutOfRange, Unreadable}
use Rattle.script.specs.declared.Command.{Command}
use Rattle.script.specs.declared.Command.TheVariants.{Admit, Withdraw, Rebuild}
use Rattle.script.specs.declared.Command.TheVariants as command
use Rattle.script.specs.declared.Query.{Query}
use Rattle.script.specs.declared.Unreadable as unreadable
use Rattle.fullscan.specs.declared.answer.Answer.{Answer}
use Rattle.fullscan.specs.declared.answer.Answer.TheVariants.{Measured, Admitted, Withdrawn, Rebuilt, Verdict}

-- both at least 1, and n at least d
abbrev pub ratio_ok : ℕ → ℕ → Bool
ratio_ok n d = nat_le 1 d && nat_le d n

-- a call that was carried out is answered by its letter
abbrev pub answered : Answer → Table × Result (Unit {0}) Refusal → Table × Result Answer Refusal
answered a (t, Ok u) = (t, Ok a)
answered a (t, Err e) = (t, Err e)

abbrev pub verdict_of : Result ℕ Refusal → Result Answer Refusal
verdict_of (Ok f) = Ok (Verdict f)
verdict_of (Err e) = Err e

module _ (w j : ℕ → ℕ → ℕ) where
  -- a question is answered by the exact verdict, where its ratio can be asked for
  abbrev pub judged : Table → Query → Result Answer Refusal
  judged t q = cond (ratio_ok q.num q.den) (verdict_of (verdict_rule w j t q.reading q.k)) (Err OutOfRange)

  abbrev pub reply_rule : Table → Result Command unreadable.Unreadable → Table × Result Answer Refusal
  reply_rule t (Ok (Admit s f vs)) = answered Admitted (admit_rule t s f vs)
  reply_rule t (Ok (Withdraw s)) = answered Withdrawn (withdraw_rule t s)
  reply_rule t (Ok Rebuild) = (t, Ok Rebuilt)
  reply_rule t (Ok (command.Query q)) = (t, judged t q)
  reply_rule t (Err e) = (t, Err Unreadable)

  abbrev pub replies : Table → List (Result Command unreadable.Unreadable) → List (Result Answer Refusal)
  replies t [] = []
  replies t (c ∷ cs) = (reply_rule t c).1 ∷ replies (reply_rule t c).0 cs

abbrev pub letters_of : Answer → List ℕ
letters_of Measured = codes "M"
letters_of Admitted = codes "A"
letters_of Withdrawn = codes "W"
letters_of Rebuilt = codes "R"
letters_of (Verdict f) = codes "Q " ++ decimal f

abbrev pub line_of : Result Answer Refusal → List ℕ
line_of (Ok a) = letters_of a
line_of (Err r) = codes "E " ++ decimal (number_of r)

abbrev pub print : List (Result Answer Refusal) → List ℕ
print [] = []
print (a ∷ rest) = line_of a ++ (10 ∷ print rest)
