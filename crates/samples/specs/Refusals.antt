-- The number of each refusal. Assumes nothing.
use Rattle.std.specs.Prelude.{ℕ}
use Rattle.samples.specs.declared.refusal.Refusal.{Refusal}
use Rattle.samples.specs.declared.refusal.Refusal.TheVariants.{OutOfRange, SlotFull, SlotEmpty, TooFewSamples, AfterTheEnd, BufferTooSmall, Unreadable}

abbrev pub number_of : Refusal → ℕ
number_of OutOfRange = 9
number_of SlotFull = 10
number_of SlotEmpty = 11
number_of TooFewSamples = 12
number_of AfterTheEnd = 13
number_of BufferTooSmall = 14
number_of Unreadable = 15
