use Rattle.std.proofs.Common.{ℕ}
use Rattle.heap.specs.Contents.{content}
use Rattle.heap.specs.Order.{ahead, Heaped}
use Rattle.samples.specs.Candidates.{by_weight}
use Rattle.samples.proofs.Gathered.{Gathered}
use Rattle.walk.specs.Moments.{Seen, view_then, weight_by, wants}
use Rattle.walk.proofs.moment.Moment.queue.Given as goal

abbrev pub invariant-loop-slot : goal.invariant-loop-slot
invariant-loop-slot g l = record {
  heaped : Heaped (ahead by_weight) (content l.heap);
  gathered : (i : ℕ) → Seen g.M.Measure.weighed g.M.Measure.joined l.self i → Gathered l.heap (weight_by l.wanted (view_then g.M.Measure.weighed g.M.Measure.joined l.self i)) (wants l.wanted (view_then g.M.Measure.weighed g.M.Measure.joined l.self i) l.self.question.now.k) l.slot;
}
