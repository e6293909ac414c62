-- The samples that a reader must hold, by the calls and their arguments alone. Assumes nothing.
--   Opening          what a query was opened with: the samples held then, and the question
--   Expected         the samples, and the query that is open, if one is
--   keeps bs         the file keeps the rules
--   noted e c        what is expected after the call c
--   expected e cs    what is expected after the calls cs
use Rattle.std.specs.Prelude.{ℕ, Bool, List, [], ◌∷◌, cond, replicate, Some, None, Option, is_none}
use Rattle.samples.specs.Slots.{Table, admit_rule, withdraw_rule}
use Rattle.records.specs.Checks.{first_fault}
use Rattle.records.specs.Readings.{table_in}
use Rattle.walk.specs.Questions.{Asked}
use Rattle.histories.specs.declared.Call.{Call}
use Rattle.histories.specs.declared.Call.TheVariants.{Load, Admit, Withdraw, Open, Close}

pub record Opening : Type 0 where
  pub table : Table
  pub asked : Asked

pub record Expected : Type 0 where
  pub table : Table
  pub query : Option Opening

abbrev pub at_rest : Table → Expected
at_rest t = record { table = t; query = None }

-- as a reader is made
abbrev pub nothing : Expected
nothing = at_rest (replicate 256 None)

abbrev pub keeps : List ℕ → Bool
keeps bs = is_none (first_fault bs)

-- while no query is open, the calls of a reader are done, and while one is, those of a query: of these only closing is noted
abbrev pub noted_by : Option Opening → Table → Call → Expected
noted_by None t (Load bs) = at_rest (cond (keeps bs.now) (table_in bs.now) t)
noted_by None t (Admit s f vs) = at_rest (admit_rule t s f vs).0
noted_by None t (Withdraw s) = at_rest (withdraw_rule t s).0
noted_by None t (Open r k n d) =
    record { table = t; query = Some (record { table = t; asked = record { reading = r; k = k; num = n; den = d } }) }
noted_by None t c = at_rest t
noted_by (Some o) t Close = at_rest t
noted_by (Some o) t c = record { table = t; query = Some o }

abbrev pub noted : Expected → Call → Expected
noted e c = noted_by e.query e.table c

abbrev pub expected : Expected → List Call → Expected
expected e [] = e
expected e (c ∷ cs) = expected (noted e c) cs
