-- The answers to the calls of the lines, printed. Assumes nothing.
use Rattle.std.proofs.Common.{◌≡◌, ℕ, List, ◌++◌, refl}
use Rattle.histories.specs.Calls.{State}
use Rattle.histories.specs.Promise.{Promised}
use Rattle.histories.specs.declared.Answer.{Answer}
use Rattle.histories.specs.declared.Call.{Call}
use Rattle.session.specs.Sessions.{Line, calls, told, ToldLines, Prints}

-- the lines and the answers that are printed are those that were read and given
pub prints : (w j : ℕ → ℕ → ℕ) (said ls : List Line) (cs : List Call) (answers shown : List Answer) (left : State) (before after : List ℕ) → ls ≡ said → cs ≡ calls said → shown ≡ answers → Promised w j cs answers left → after ≡ before ++ told ls shown → Prints (ToldLines w j said) before after
prints w j said ls cs answers shown left before after read called same promised put =
    (told said answers, (answers, left, rw (← called) promised, refl), rw (← read, ← same) put)
