-- The end of a table as that of a walk. Assumes nothing.
use Rattle.std.specs.Prelude.{ℕ}
use Rattle.walks.specs.Walk as walk
use Rattle.entries.specs.declared.end.End.{End}
use Rattle.entries.specs.declared.end.End.TheVariants.{Going, Settled, Nearby, Counted}

-- the end that e stands for, where a nearby list has most samples of fibre f
abbrev pub ending : End → ℕ → walk.End
ending Going f = walk.going
ending (Settled l) f = walk.settled l
ending Nearby f = walk.nearby f
ending (Counted l) f = walk.counted l
