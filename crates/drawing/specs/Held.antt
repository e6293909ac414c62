-- The samples held in the slots, as the tree's samples. Assumes nothing.
--   samples_of t   the samples of a table: fibre and values by slot
--   held_in xs     the samples that the slots hold
use Rattle.boxes.specs.Views.{entries}
use Rattle.samples.specs.Slots.{Table, table, held, fibre_at, values_at}
use Rattle.samples.specs.declared.slots.Slots.{Slots}
use Rattle.trees.specs.Samples.{Samples}

abbrev pub samples_of : Table → Samples
samples_of t = record { slots = 256; held = held t; fibre = fibre_at t; value = λ s. entries (values_at t s) }

abbrev pub held_in : Slots → Samples
held_in xs = samples_of (table xs)
