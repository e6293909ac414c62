use Rattle.std.proofs.Common.{List, ℕ}
use Rattle.script.specs.Steps.{Gives}
use Rattle.script.proofs.Gathered.{Gathered}
use Rattle.script.proofs.words.numbers.Given as goal

abbrev pub invariant-loop-value : goal.invariant-loop-value
invariant-loop-value g l = (ws : List (List ℕ)) → Gives l.initial.words ws → Gathered g.row.N ws l.value-index l.value-items l.words
