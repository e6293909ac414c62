use Rattle.std.proofs.Common.{◌≡◌, ℕ, ◌+◌, false, sym, refl, subst, arith}
use Rattle.heap.specs.Contents.{content, room, Pushed}
use Rattle.heap.specs.Order.{ahead, Heaped}
use Rattle.heap.specs.declared.Heap.{Heap}
use Rattle.samples.specs.Candidates.{by_weight}
use Rattle.samples.specs.declared.candidate.Candidate.{Candidate}
use Rattle.samples.proofs.Gathered.{Gathered, gathered_at, gathered_none, gathered_skip, gathered_push}
use Rattle.walk.specs.Moments.{Seen, view_then, weight_by, wants}
use Rattle.walk.proofs.moment.Moment.queue.Given.{Over}
use Rattle.walk.proofs.moment.Moment.queue.Goals as goal
use Rattle.walk.proofs.moment.Moment.queue.Goals.{Joined-candidate, in-Some, in_default}

pub loop-slot-init : goal.loop-slot-init
loop-slot-init g c = record {
  heaped = (gathered_none c.args.heap.now (λ s. 0) (λ s. false) c.requires.empty c.requires.room).heaped;
  gathered = λ i now. gathered_none _ _ _ c.requires.empty c.requires.room;
}

still_heaped : (g : Over) (c : Joined-candidate g) → Heaped (ahead by_weight) (content c.match-candidate.heap)
still_heaped g c =
    elim c.match-candidate.branch [
      | in-Some x ↦ subst (λ (h : Heap Candidate). Heaped (ahead by_weight) (content h)) (sym x.heap-is) (x.push.ensures.heaped c.loop-slot.invariant.heaped)
      | in_default x ↦ subst (λ (h : Heap Candidate). Heaped (ahead by_weight) (content h)) (sym x.heap-is) c.loop-slot.invariant.heaped
    ]

-- the heap with the candidate of one slot more
step : (g : Over) (c : Joined-candidate g) (i : ℕ) → Seen g.M.Measure.weighed g.M.Measure.joined c.args.self.now i → Gathered c.match-candidate.heap (weight_by c.args.wanted (view_then g.M.Measure.weighed g.M.Measure.joined c.args.self.now i)) (wants c.args.wanted (view_then g.M.Measure.weighed g.M.Measure.joined c.args.self.now i) c.args.self.now.question.now.k) (c.loop-slot.slot + 1)
step g c i now =
    let v = view_then g.M.Measure.weighed g.M.Measure.joined c.args.self.now i in
    let w = weight_by c.args.wanted v in
    let p = wants c.args.wanted v c.args.self.now.question.now.k in
    let h = c.loop-slot.heap in
    let inv = c.loop-slot.invariant in
    elim c.match-candidate.branch [
      | in-Some x ↦
          let f = x.in-Some.ensures i now in
          let pushed = subst (λ (y : Candidate). Pushed (content h) (room h) y (content x.push.new.self) x.push.result) f.1 x.push.ensures.cases in
          gathered_at x.heap-is refl (gathered_push h w p x.push.new.self x.push.result c.loop-slot.slot (omega arith) (inv.gathered i now) f.0 pushed x.push.ensures.room (x.push.ensures.heaped inv.heaped))
      | in_default x ↦ gathered_at x.heap-is refl (gathered_skip h w p c.loop-slot.slot (inv.gathered i now) (x.in_default.ensures i now))
    ]

pub loop-slot-preserved : goal.loop-slot-preserved
loop-slot-preserved g c =
    let after = (goal.at.loop-slot-preserved g c).Joined-candidate in
    record { heaped = still_heaped g after; gathered = λ i now. step g after i now }

pub returns-after-candidate-clause-holds : goal.returns-after-candidate-clause-holds
returns-after-candidate-clause-holds g c i now =
    let end : c.loop-slot.slot + 1 ≡ 256 = omega arith in
    (gathered_at refl end (step g (goal.at.returns-after-candidate-clause-holds g c).Joined-candidate i now)).holds
