use Rattle.std.proofs.Common.{◌-◌, ◌≤◌}
use Rattle.std.specs.Iterator.Adapters.{take_source, take_count}
use Rattle.heap.specs.Contents.{content}
use Rattle.samples.specs.Questions.{weights}
use Rattle.samples.specs.Slots.{table, held, fibre_at}
use Rattle.samples.proofs.Voting.{Voting}
use Rattle.samples.proofs.verdict.Question.nearest_votes.Given as goal

abbrev pub invariant-loop-next : goal.invariant-loop-next
invariant-loop-next g l =
    let t = table l.self.slots.now in
    (goal.iterator-loop-next g).can_next l.next-iterator
    × (goal.iterator-loop-next g).is_finite l.next-iterator
    × (take_count l.next-iterator ≤ l.k)
    × Voting (weights g.M.Measure.weighed g.M.Measure.joined l.self) (held t) (fibre_at t) (l.k - take_count l.next-iterator) (content (take_source l.next-iterator)) l.votes
