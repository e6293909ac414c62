-- The single samples of a table that are active, and the first of them. Assumes nothing.
--   candidate_in z e   the sample of the entry e by its weight and slot, if it is active in the span z
--   reaches r o        there is such a sample o, and a last one r, and o does not come after it
--   Last w p n r       r is the last of the first n of the slots that pass p, by the weights w, and none where n is 0
use Rattle.std.specs.Prelude.{◌≡◌, ℕ, suc, ◌<◌, nat_le, Bool, true, false, ◌&&◌, not, Option, Some, None}
use Rattle.ranking.specs.Ranks.{nearer, rank}
use Rattle.samples.specs.Candidates.{candidate, sooner}
use Rattle.samples.specs.declared.candidate.Candidate.{Candidate}
use Rattle.entries.specs.declared.entry.Entry.{Entry}
use Rattle.entries.specs.declared.entry.Of.{Of}
use Rattle.entries.specs.declared.entry.Of.TheVariants.{Node, Sample}
use Rattle.entries.specs.declared.span.Span.{Span}

abbrev pub sample_in : Of → ℕ → Bool → Option Candidate
sample_in (Node x t) w b = None
sample_in (Sample s) w true = Some (record { weight = w; slot = s })
sample_in (Sample s) w false = None

abbrev pub candidate_in : Span → Entry → Option Candidate
candidate_in z e = sample_in e.of e.near (nat_le z.low e.far && nat_le e.near z.high)

abbrev pub reaches : Option Candidate → Option Candidate → Bool
reaches None o = false
reaches (Some r) None = false
reaches (Some r) (Some x) = not (sooner r x)

abbrev pub Last : (ℕ → ℕ) → (ℕ → Bool) → ℕ → Option Candidate → Type 0
Last w p n None = n ≡ 0
Last w p n (Some x) = (x ≡ candidate w x.slot) × (x.slot < 256) × (p x.slot ≡ true) × (suc (rank p (nearer w) 256 x.slot) ≡ n)
