use Rattle.std.proofs.Common.{◌≡◌, ℕ, ◌<◌, length, get_or, take}
use Rattle.drawing.specs.Builds.{over}
use Rattle.drawing.specs.Runs.{of_code}
use Rattle.drawing.proofs.build.Builder.tally.Given as goal

abbrev pub invariant-loop-slot : goal.invariant-loop-slot
invariant-loop-slot l =
    (length l.counts ≡ 8) × ((f : ℕ) → f < 8 → get_or l.counts f 0 ≡ of_code (over l.self) (take l.slot-index l.run) f)
