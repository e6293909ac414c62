use Rattle.std.proofs.Common.{ℕ, min, sym, subst}
use Rattle.heap.specs.Contents.{content}
use Rattle.heap.specs.Order.{ahead, Heaped}
use Rattle.heap.specs.declared.Heap.{Heap}
use Rattle.ranking.specs.Counts.{count}
use Rattle.samples.specs.Candidates.{Holds, by_weight}
use Rattle.samples.specs.declared.candidate.Candidate.{Candidate}
use Rattle.entries.specs.Singles.{Last}
use Rattle.entries.proofs.Lasts.{last_is}
use Rattle.walks.specs.Views.{active}
use Rattle.walks.specs.Walk.{walk}
use Rattle.walk.specs.Moments.{scene_then, view_then}
use Rattle.walk.proofs.moment.Moment.last_active.Goals as goal

pub returns : goal.returns
returns g c i now =
    let z = c.args.self.now in
    let k = z.question.now.k in
    let e = scene_then g.M.Measure.weighed g.M.Measure.joined z in
    let v = view_then g.M.Measure.weighed g.M.Measure.joined z i in
    let source = c.take.ensures.source in
    let some = c.left-left.ensures e (walk e k i) now.shows now.spans in
    let last = last_is v.near (active v k) c.take.result c.last.result c.left-left.result c.take.ensures.count
    (subst (λ (h : Heap Candidate). Heaped (ahead by_weight) (content h)) (sym source) c.queue.ensures.heaped)
    (subst (λ (h : Heap Candidate). Holds (content h) v.near (active v k) 256) (sym source) (c.queue.ensures.holds i now))
    c.last.ensures.ran in
    subst (λ (n : ℕ). Last v.near (active v k) (min n (count (active v k) 256)) c.last.result) some last
