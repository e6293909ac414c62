-- The exact verdict of a reading: the most common fibre among the k nearest samples. Assumes nothing.
--   samples t            how many samples the slots hold
--   weight_at w j t r s  what the sample in slot s weighs against the reading r
--   nearest w j t r k s  it is among the k nearest: fewer than k come before it by weight, then slot
--   votes w j t r k f    how many of the k nearest have fibre f
--   exact w j t r k      the fibre with the most votes, the lowest code where several have as many
--   verdict_rule         the answer to a question: this fibre, or why there is none
--   Exact w j t r k f    what makes f the verdict, in words of its own
use Rattle.std.specs.Prelude.{◌≡◌, ℕ, Bool, cond, ◌&&◌, List, Ok, Err, Result, nat_le}
use Rattle.measure.specs.Weight.{weight_of}
use Rattle.ranking.specs.Counts.{count}
use Rattle.ranking.specs.Majority.{tally, leader, Leads}
use Rattle.ranking.specs.Ranks.{nearer, first}
use Rattle.samples.specs.Ranges.{below}
use Rattle.samples.specs.Slots.{Table, held, fibre_at, values_at}
use Rattle.samples.specs.declared.refusal.Refusal.{Refusal}
use Rattle.samples.specs.declared.refusal.Refusal.TheVariants.{OutOfRange, TooFewSamples}

abbrev pub samples : Table → ℕ
samples t = count (held t) 256

-- the reading is in range, and k from 1 to 32
abbrev pub askable : List ℕ → ℕ → Bool
askable r k = nat_le 1 k && (nat_le k 32 && below 1024 r)

module _ (w j : ℕ → ℕ → ℕ) (t : Table) (r : List ℕ) where
  abbrev pub weight_at : ℕ → ℕ
  weight_at s = weight_of w j (values_at t s) r

  abbrev pub nearest : ℕ → ℕ → Bool
  nearest k s = first (held t) (nearer weight_at) 256 k s

  abbrev pub votes : ℕ → ℕ → ℕ
  votes k f = tally (nearest k) (fibre_at t) 256 f

  abbrev pub exact : ℕ → ℕ
  exact k = leader (votes k) 8

  abbrev pub verdict_rule : ℕ → Result ℕ Refusal
  verdict_rule k =
      cond (askable r k) (cond (nat_le k (samples t)) (Ok (exact k)) (Err TooFewSamples)) (Err OutOfRange)

  -- exactly k samples vote, and f has more votes than every lower code and at least as many as every higher one
  pub record Exact (k f : ℕ) : Type 0 where
    pub voters : count (nearest k) 256 ≡ k
    pub leads : Leads (votes k) 8 f
