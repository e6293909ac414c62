-- The records of a file, as parts of its bytes. Assumes nothing.
--   Part               which record it is, and its bytes
--   part_of r          the part that a record borrows
--   bytes_starting_at bs a n  the n bytes from a on, if there are so many
--   part_at bs o i     record i by the outline o: the samples, then the nodes, then the trailer
use Rattle.std.specs.Prelude.{ℕ, ◌+◌, ◌-◌, ◌*◌, cond, List, length, take, drop, Some, None, Option, ◌==◌, nat_le, nat_lt}
use Rattle.std.specs.Option.{option_map}
use Rattle.fieldfile.specs.declared.outline.Outline.{Outline}
use Rattle.fieldfile.specs.declared.parts.Record.{Record}
use Rattle.fieldfile.specs.declared.parts.Record.TheVariants.{Sample, Node, Trailer}

pub data Part : Type 0 where
  sample : List ℕ → Part
  node : List ℕ → Part
  trailer : List ℕ → Part

abbrev pub part_of : Record → Part
part_of (Sample b) = sample b.now
part_of (Node b) = node b.now
part_of (Trailer b) = trailer b.now

abbrev pub bytes_starting_at : List ℕ → ℕ → ℕ → Option (List ℕ)
bytes_starting_at bs at n = cond (nat_le (at + n) (length bs)) (Some (take n (drop at bs))) None

abbrev pub part_at : List ℕ → Outline → ℕ → Option Part
part_at bs o i =
    cond (nat_lt i o.samples) (option_map sample (bytes_starting_at bs (20 * i) 20))
    (cond (nat_lt i (o.samples + o.nodes)) (option_map node (bytes_starting_at bs (20 * o.samples + 38 * (i - o.samples)) 38))
    (cond (i == o.samples + o.nodes) (option_map trailer (bytes_starting_at bs (20 * o.samples + 38 * o.nodes) 14)) None))
