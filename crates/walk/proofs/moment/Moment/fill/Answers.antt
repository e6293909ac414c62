use Rattle.std.proofs.Common.{◌≡◌, ◌+◌, ◌<◌, false, set, replicate, is_some, Some, sym, refl, ap, ◌∙◌, subst, arith}
use Rattle.field.specs.Fields.{holds}
use Rattle.heap.specs.Contents.{content}
use Rattle.ranking.specs.Majority.{tally}
use Rattle.ranking.specs.Ranks.{nearer, first}
use Rattle.ranking.proofs.Leading.{leader_same}
use Rattle.samples.specs.Slots.{at, held, fibre_at, point, table}
use Rattle.samples.specs.declared.slots.Slots.{Slots}
use Rattle.samples.proofs.Tabled.{fibre_some}
use Rattle.walk.proofs.Filling.{Filling, filling_begins, filling_some, filling_held, filling_none}
use Rattle.walk.proofs.Settling.{asked_most}
use Rattle.walk.proofs.moment.Moment.fill.Goals as goal
use Rattle.walk.proofs.moment.Moment.fill.Goals.{in-Some+in-Some-get, in-Some+in_default-get, in_default}

pub loop-place-init : goal.loop-place-init
loop-place-init g c = filling_begins c.args.self.now.field.now c.args.self.now.question.now.k (content c.args.heap.now) c.requires (replicate 32 0) refl

pub loop-place-preserved : goal.loop-place-preserved
loop-place-preserved g c =
    let d = c.args.self.now.field.now in
    let k = c.args.self.now.question.now.k in
    let i = c.loop-place.place in
    let inv = c.loop-place.invariant in
    let xs = content c.loop-place.heap in
    let ys = content c.pop.new.self in
    let ss = c.loop-place.slots in
    let vs = c.loop-place.votes in
    let start = content c.args.heap.now in
    let enough = c.from-place-end.ensures in
    let below : i < k = omega arith in
    let most = asked_most c.args.self.now.question.now in
    let heaped = c.pop.ensures.heaped inv.heaped in
    elim c.match-pop.branch [
      | in-Some+in-Some-get x ↦
          let z = point x.in-Some-get.sample.now in
          let s = x.in-Some.next.slot in
          let got = subst (λ (cells : Slots). Some z ≡ at (table cells) s) x.slots.ensures x.in-Some-get.ensures in
          let code : fibre_at (holds d) s ≡ x.from.result = fibre_some (holds d) s z got ∙ sym x.fibre.ensures.value ∙ sym x.from.ensures in
          let new = filling_some d k start i xs ys ss vs inv below most heaped x.in-Some.next x.in-Some.ensures.cases (x.in-Some.ensures.first inv.heaped) x.from.result (λ h. code) (omega (arith, x.fibre.ensures.coded, x.from.ensures)) in
          subst (λ l. Filling d k start (i + 1) ys l c.match-pop.votes) (sym x.slots-is) (subst (λ l. Filling d k start (i + 1) ys (set ss i s) l) (sym x.votes-is) new)
      | in-Some+in_default-get x ↦
          let s = x.in-Some.next.slot in
          let none : held (holds d) s ≡ false = ap (λ (cells : Slots). held (table cells) s) (sym x.slots.ensures) ∙ ap is_some (sym x.in_default-get.ensures) in
          let new = filling_held d k start i xs ys ss vs inv below most heaped x.in-Some.next x.in-Some.ensures.cases (x.in-Some.ensures.first inv.heaped) none in
          subst (λ l. Filling d k start (i + 1) ys l c.match-pop.votes) (sym x.slots-is) (subst (λ l. Filling d k start (i + 1) ys (set ss i s) l) (sym x.votes-is) new)
      | in_default x ↦
          let new = filling_none d k start i xs ys ss vs inv below most heaped x.in_default.ensures.cases.0 in
          subst (λ l. Filling d k start (i + 1) ys l c.match-pop.votes) (sym x.slots-is) (subst (λ l. Filling d k start (i + 1) ys ss l) (sym x.votes-is) new)
    ]

pub returns : goal.returns
returns g c w p has enough known =
    let inv = c.loop-place.invariant in
    let end : c.loop-place.place ≡ c.args.self.now.question.now.k = let e = c.from-place-end.ensures in omega arith in
    let f = inv.filled w p has enough known in
    record {
      fibre = c.most_common.ensures.value ∙ leader_same _ _ 8 (λ j l. f.0.tallied j l ∙ ap (λ n. tally (first p (nearer w) 256 n) (fibre_at (holds c.args.self.now.field.now)) 256 j) end);
      slots = λ j l. f.1 j (omega arith);
    }
