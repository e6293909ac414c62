-- What the 256 slots hold, and how admit and withdraw change it. Assumes nothing.
--   Point                      a sample as numbers: its fibre code and its eight values
--   Table                      what each slot holds, in the order of slots
--   table xs                   the table of the slots xs
--   at t s                     what slot s holds
--   held t s                   whether it holds a sample
--   fibre_at t s, values_at t s  the fibre code and the values of its sample
--   NextHeld t s r n           r is the first sample from slot s on, with its slot, and n is the slot after it
--   legal s f vs               the slot, the fibre code and the values are in range
--   admit_rule, withdraw_rule  the table after the call, and its answer
use Rattle.std.specs.Prelude.{◌≡◌, ℕ, ◌+◌, ◌<◌, ◌≤◌, Bool, false, cond, ◌&&◌, List, [], map, is_some, Some, None, Ok, Err, Option, Result, nat_lt, slice_index_or, slice_set}
use Rattle.std.specs.Option.{option_map, unwrap_or}
use Rattle.samples.specs.Ranges.{below}
use Rattle.samples.specs.declared.refusal.Refusal.{Refusal}
use Rattle.samples.specs.declared.refusal.Refusal.TheVariants.{OutOfRange, SlotFull, SlotEmpty}
use Rattle.samples.specs.declared.sample.Sample.{Sample}
use Rattle.samples.specs.declared.slots.Slots.{Slots}

pub record Point : Type 0 where
  pub fibre : ℕ
  pub values : List ℕ

abbrev pub Table : Type 0
Table = List (Option Point)

abbrev pub point : Sample → Point
point s = record { fibre = s.fibre; values = s.reading.values }

abbrev pub table : Slots → Table
table xs = map (option_map point) xs.cells

abbrev pub at : Table → ℕ → Option Point
at t s = slice_index_or t s None

abbrev pub held : Table → ℕ → Bool
held t s = is_some (at t s)

abbrev pub fibre_at : Table → ℕ → ℕ
fibre_at t s = unwrap_or (option_map (λ x. x.fibre) (at t s)) 0

abbrev pub values_at : Table → ℕ → List ℕ
values_at t s = unwrap_or (option_map (λ x. x.values) (at t s)) []

abbrev pub NextHeld : Table → ℕ → Option (ℕ × Point) → ℕ → Type 0
NextHeld t s None n = (i : ℕ) → s ≤ i → i < 256 → held t i ≡ false
NextHeld t s (Some (i, x)) n =
    (s ≤ i) × (i < 256) × ((j : ℕ) → s ≤ j → j < i → held t j ≡ false) × (at t i ≡ Some x) × (n ≡ i + 1)

abbrev pub legal : ℕ → ℕ → List ℕ → Bool
legal s f vs = nat_lt s 256 && (nat_lt f 8 && below 1024 vs)

-- an illegal sample is refused first, then a slot that is full
abbrev pub admit_rule : Table → ℕ → ℕ → List ℕ → Table × Result (Unit {0}) Refusal
admit_rule t s f vs =
    cond (legal s f vs) (cond (held t s) (t, Err SlotFull) (slice_set t s (Some (record { fibre = f; values = vs })), Ok tt)) (t, Err OutOfRange)

-- a slot that there is not is refused first, then one that is empty
abbrev pub withdraw_rule : Table → ℕ → Table × Result (Unit {0}) Refusal
withdraw_rule t s = cond (nat_lt s 256) (cond (held t s) (slice_set t s None, Ok tt) (t, Err SlotEmpty)) (t, Err OutOfRange)
