use Rattle.heap.specs.Contents.{content}
use Rattle.walk.proofs.Filling.{Filling}
use Rattle.walk.proofs.moment.Moment.fill.Given as goal

abbrev pub invariant-loop-place : goal.invariant-loop-place
invariant-loop-place g l = Filling l.self.field.now l.self.question.now.k (content l.initial.heap) l.place (content l.heap) l.slots l.votes
