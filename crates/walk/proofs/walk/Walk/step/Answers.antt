use Rattle.std.proofs.Common.{◌≡◌, suc, sym, ◌∙◌, subst, add-one, arith}
use Rattle.bounding.specs.Fields.{belongs_in}
use Rattle.bounding.proofs.Seen.{fair_field}
use Rattle.walks.specs.Walk.{walk}
use Rattle.walk.specs.Asked.{asked_of}
use Rattle.walk.specs.Stands.{scene_at, At, Opening}
use Rattle.walk.proofs.Begun.{few_steps, before_more, going_active}
use Rattle.walk.proofs.Opening.{opens_below}
use Rattle.walk.proofs.Settling.{asked_some, asked_ratio}
use Rattle.walk.proofs.Stepping.{walked_at, whole_at}
use Rattle.walk.proofs.walk.Walk.step.Goals as goal

pub open_node-requires-clause-number : goal.open_node-requires-clause-number
open_node-requires-clause-number g c =
    let m = c.args.measure.now in
    let d = c.args.field.now in
    let k = c.args.question.now.k in
    let r = c.args.question.now.reading.values in
    let q = asked_of c.args.question.now in
    let laws = g.met.M.Measure in
    let some = asked_some c.args.question.now in
    let z = scene_at (g.M.Measure.weighed m) (g.M.Measure.joined m) d q in
    let at = c.requires.stands.at in
    let i = c.args.self.now.steps in
    let opens = c.in-Some.ensures z (walk z k i) k at.shows at.spans in
    opens_below z (belongs_in d) k (walk z k i) (walked_at _ _ (laws.weigh_rises m) (laws.join_rises m) d r k some c.requires.enough i) (whole_at _ _ (laws.weigh_rises m) (laws.join_rises m) d r k some c.requires.enough i) c.in-Some.number opens.2

pub overflow_add-self : goal.overflow_add-self
overflow_add-self g c =
    let m = c.args.measure.now in
    let d = c.args.field.now in
    let q = asked_of c.args.question.now in
    let laws = g.met.M.Measure in
    let z = scene_at (g.M.Measure.weighed m) (g.M.Measure.joined m) d q in
    let fair = fair_field _ _ (laws.weigh_rises m) (laws.join_rises m) d q.reading in
    let few = few_steps z (belongs_in d) fair q.k q.num q.den (asked_some c.args.question.now) c.requires.enough (asked_ratio c.args.question.now) c.args.self.now.steps c.requires.stands.before in
    omega (arith, few, d.len_fits)

pub returns-in-Some-clause-stands : goal.returns-in-Some-clause-stands
returns-in-Some-clause-stands g c =
    let m = c.args.measure.now in
    let d = c.args.field.now in
    let q = asked_of c.args.question.now in
    let laws = g.met.M.Measure in
    let z = scene_at (g.M.Measure.weighed m) (g.M.Measure.joined m) d q in
    let u = belongs_in d in
    let fair = fair_field _ _ (laws.weigh_rises m) (laws.join_rises m) d q.reading in
    let at = c.requires.stands.at in
    let i = c.args.self.now.steps in
    let opens = c.in-Some.ensures z (walk z q.k i) q.k at.shows at.spans in
    let ready : Opening z u q.k i c.in-Some.at c.in-Some.number c.args.self.now.table.entries.items c.args.self.now.places = record { shows = at.shows; placed = at.placed; stands = opens.1; opens = opens.2 } in
    let next = c.settle.ensures.stands (suc i) (c.open_node.ensures.shows i ready) (c.open_node.ensures.placed i ready) in
    let steps = c.settle.ensures.steps in
    let now : suc i ≡ c.settle.new.self.steps = sym (add-one i) ∙ sym steps in
    record {
      before = λ h l. before_more z u fair q.k q.num q.den (asked_some c.args.question.now) c.requires.enough (asked_ratio c.args.question.now) i c.requires.stands.before (sym at.ends ∙ c.requires.going) h (omega arith);
      at = subst (λ n. At z u q (walk z q.k n) c.settle.new.self) now next;
    }

pub returns-in_default-clause-steps : goal.returns-in_default-clause-steps
returns-in_default-clause-steps g c =
    let m = c.args.measure.now in
    let d = c.args.field.now in
    let q = asked_of c.args.question.now in
    let z = scene_at (g.M.Measure.weighed m) (g.M.Measure.joined m) d q in
    let at = c.requires.stands.at in
    let i = c.args.self.now.steps in
    absurd (going_active z q.k q.num q.den (walk z q.k i) (sym at.ends ∙ c.requires.going) (c.in_default.ensures z (walk z q.k i) q.k at.shows at.spans))
