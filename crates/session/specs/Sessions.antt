-- What the lines of a script call of a reader, and what is printed for the answers. Assumes nothing.
--   calls_of l       the calls of a line: a question is opened, stepped to its end and closed; a line that cannot be read calls nothing
--   calls ls         those of the lines, one after the other
--   line_of a        the line for the answer to the last call of a line, without its line feed
--   last_of c as     the answer to the last call of a line that can be read, and those behind it; a question makes three calls
--   told ls as       the lines that are printed, where the calls of the lines ls are answered as
--   ToldLines ls out  out is printed for the lines: their calls, on a new reader, are answered as any list of calls is promised to be
--   Told text out    out is printed for a whole script, by the measure that its first line names
use Rattle.std.specs.Prelude.{◌≡◌, ℕ, List, [], ◌∷◌, ◌++◌, codes, decimal, map, Some, None, Ok, Err, Option, Result}
use Rattle.std.specs.Borrow.{Bor}
use Rattle.samples.specs.Refusals.{number_of}
use Rattle.samples.specs.declared.refusal.Refusal.{Refusal}
use Rattle.samples.specs.declared.refusal.Refusal.TheVariants.{Unreadable}
use Rattle.script.specs.Commands.{command_of}
use Rattle.script.specs.Scripts.{opened}
use Rattle.script.specs.declared.Command.{Command}
use Rattle.script.specs.declared.Command.TheVariants as command
use Rattle.script.specs.declared.MeasureKind.{MeasureKind}
use Rattle.script.specs.declared.Unreadable as unreadable
use Rattle.fullscan.specs.Runs.{weigh, join}
use Rattle.histories.specs.declared.Answer.{Answer}
use Rattle.histories.specs.declared.Answer.TheVariants.{Admitted, Withdrawn, Rebuilt, Closed}
use Rattle.histories.specs.declared.Call.{Call}
use Rattle.histories.specs.declared.Call.TheVariants.{Admit, Withdraw, Rebuild, Open, Finish, Close}
use Rattle.histories.specs.declared.Outcome.{Outcome}
use Rattle.histories.specs.declared.Outcome.TheVariants.{Settled, Nearby, Counted, Refused, Abandoned}
use Rattle.histories.specs.Calls.{State}
use Rattle.histories.specs.Promise.{Promised}

abbrev pub Line : Type 0
Line = Result Command unreadable.Unreadable

abbrev pub calls_of : Line → List Call
calls_of (Ok (command.Admit s f vs)) = Admit s f vs ∷ []
calls_of (Ok (command.Withdraw s)) = Withdraw s ∷ []
calls_of (Ok command.Rebuild) = Rebuild ∷ []
calls_of (Ok (command.Query q)) = Open q.reading q.k q.num q.den ∷ Finish ∷ Close ∷ []
calls_of (Err e) = []

abbrev pub calls : List Line → List Call
calls [] = []
calls (l ∷ ls) = calls_of l ++ calls ls

abbrev pub refused : Refusal → List ℕ
refused e = codes "E " ++ decimal (number_of e)

-- a call that was carried out is answered by its letter
abbrev pub letter : List ℕ → Result (Unit {0}) Refusal → List ℕ
letter c (Ok u) = c
letter c (Err e) = refused e

-- the fibre, the steps and the end of a walk
abbrev pub ended : ℕ → ℕ → List ℕ → List ℕ
ended f n e = codes "Q " ++ (decimal f ++ (codes " " ++ (decimal n ++ e)))

-- no script leaves a walk before its end
abbrev pub closed : Outcome → List ℕ
closed (Settled f n) = ended f n (codes " S")
closed (Nearby f n) = ended f n (codes " N")
closed (Counted f n) = ended f n (codes " C")
closed (Refused e) = refused e
closed Abandoned = []

-- the other answers end no line of a script
abbrev pub line_of : Answer → List ℕ
line_of (Admitted r) = letter (codes "A") r
line_of (Withdrawn r) = letter (codes "W") r
line_of Rebuilt = codes "R"
line_of (Closed o) = closed o
line_of _ = []

abbrev pub last_of : Command → List Answer → Option (Answer × List Answer)
last_of (command.Query q) (o ∷ f ∷ a ∷ answers) = Some (a, answers)
last_of (command.Query q) _ = None
last_of (command.Admit s f vs) (a ∷ answers) = Some (a, answers)
last_of (command.Withdraw s) (a ∷ answers) = Some (a, answers)
last_of command.Rebuild (a ∷ answers) = Some (a, answers)
last_of _ [] = None

abbrev pub told_by : Option (Answer × List Answer) → (List Answer → List ℕ) → List ℕ
told_by None rest = []
told_by (Some p) rest = line_of p.0 ++ (10 ∷ rest p.1)

abbrev pub told : List Line → List Answer → List ℕ
told [] answers = []
told (Ok c ∷ ls) answers = told_by (last_of c answers) (told ls)
told (Err e ∷ ls) answers = refused Unreadable ++ (10 ∷ told ls answers)

module _ (w j : ℕ → ℕ → ℕ) where
  abbrev pub ToldLines : List Line → List ℕ → Type 0
  ToldLines ls out = (answers : List Answer) × (left : State) × Promised w j (calls ls) answers left × (out ≡ told ls answers)

abbrev pub ToldFrom : Result (MeasureKind × List (List ℕ)) unreadable.Unreadable → List ℕ → Type 0
ToldFrom (Ok p) out = (rest : List ℕ) × (out ≡ codes "M" ++ (10 ∷ rest)) × ToldLines (weigh p.0) (join p.0) (map command_of p.1) rest
ToldFrom (Err e) out = out ≡ refused Unreadable ++ (10 ∷ [])

abbrev pub Told : List ℕ → List ℕ → Type 0
Told text out = ToldFrom (opened text) out

-- What the private steps do: the answer to the last call of a line is taken from those before, or there is none.
abbrev pub Takes : Command → List Answer → Option (Bor Answer) → List Answer → Type 0
Takes c before None after = last_of c before ≡ None
Takes c before (Some a) after = last_of c before ≡ Some (a.now, after)

-- behind `before` stands what P says is printed
abbrev pub Prints : (List ℕ → Type 0) → List ℕ → List ℕ → Type 0
Prints P before after = (out : List ℕ) × P out × (after ≡ before ++ out)
