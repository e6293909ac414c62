-- A question, and what can be asked of the samples held. Assumes nothing.
--   Asked          a question as it was asked
--   in_range q     its reading, its k and its ratio of num to den can be asked
--   ask_rule t q   the question, or why it is refused: out of range first, then k above the samples held
use Rattle.std.specs.Prelude.{ℕ, Bool, cond, ◌&&◌, List, Ok, Err, Result, nat_le}
use Rattle.samples.specs.Slots.{Table}
use Rattle.samples.specs.Verdict.{samples, askable}
use Rattle.samples.specs.declared.refusal.Refusal.{Refusal}
use Rattle.samples.specs.declared.refusal.Refusal.TheVariants.{OutOfRange, TooFewSamples}

pub record Asked : Type 0 where
  pub reading : List ℕ
  pub k : ℕ
  pub num : ℕ
  pub den : ℕ

abbrev pub in_range : Asked → Bool
in_range q = askable q.reading q.k && (nat_le 1 q.den && nat_le q.den q.num)

abbrev pub ask_rule : Table → Asked → Result Asked Refusal
ask_rule t q = cond (in_range q) (cond (nat_le q.k (samples t)) (Ok q) (Err TooFewSamples)) (Err OutOfRange)
