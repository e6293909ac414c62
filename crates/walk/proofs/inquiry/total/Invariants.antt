use Rattle.std.proofs.Common.{◌≡◌, ◌*◌, ◌≤◌, sum, take}
use Rattle.walk.proofs.inquiry.total.Given as goal

abbrev pub invariant-loop-count : goal.invariant-loop-count
invariant-loop-count l = record { so_far : l.all ≡ sum (take l.count-index l.counts); small : l.all ≤ 65535 * l.count-index }
