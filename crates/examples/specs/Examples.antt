-- All worked examples: verdicts, the tree over five samples, walks, and how long files are. Assumes nothing.
use Rattle.std.specs.Prelude.{◌≡◌, ℕ, length, replicate, None}
use Rattle.drawing.specs.Held.{samples_of}
use Rattle.samples.specs.Examples.{Verdicts, five}
use Rattle.trees.specs.Drawing.{stop, halve, rebuilt}
use Rattle.records.specs.Format.{file}
use Rattle.examples.specs.Walks.{halves, Walked}

-- values 10, 12, 14 and 600, 610 in band 0 part at its middle: node 0 is a split, nodes 1 and 2 are leaves
abbrev pub Tree : Type 0
Tree = rebuilt (samples_of five) ≡ halve stop stop

-- an empty field is 52 bytes, and that of five samples under three nodes 228
abbrev pub Lengths : Type 0
Lengths = (counts : ℕ → ℕ → ℕ) → (length (file (replicate 256 None) 1 halves counts) ≡ 52) × (length (file five 3 halves counts) ≡ 228)

abbrev pub Examples : Type 0
Examples = Verdicts × Tree × Walked × Lengths
