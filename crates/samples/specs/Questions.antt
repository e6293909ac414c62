-- A question as the private steps of a verdict see it, by what a measure's gap weighs and how its weights join.
-- Assumes nothing.
--   weights w j q       what the sample in each slot weighs against the reading
--   votes_on w j q k f  how many of the k nearest samples have fibre f
use Rattle.std.specs.Prelude.{ℕ}
use Rattle.samples.specs.Slots.{table}
use Rattle.samples.specs.Verdict.{weight_at, votes}
use Rattle.samples.specs.declared.verdict.Question.{Question}

module _ {M : Type 0} (w j : M → ℕ → ℕ → ℕ) (q : Question M) where
  abbrev pub weights : ℕ → ℕ
  weights = weight_at (w q.measure.now) (j q.measure.now) (table q.slots.now) q.reading.values

  abbrev pub votes_on : ℕ → ℕ → ℕ
  votes_on = votes (w q.measure.now) (j q.measure.now) (table q.slots.now) q.reading.values
