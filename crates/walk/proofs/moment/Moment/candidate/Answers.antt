use Rattle.std.proofs.Common.{◌≡◌, ℕ, true, sym, ap, ◌∙◌, subst, arith}
use Rattle.bounding.specs.Fields.{belongs_in}
use Rattle.field.specs.Fields.{holds}
use Rattle.samples.specs.Candidates.{candidate}
use Rattle.samples.specs.Slots.{held}
use Rattle.samples.specs.declared.candidate.Candidate.{Candidate}
use Rattle.walks.proofs.Dropped.{walked_active}
use Rattle.walk.specs.Moments.{Seen, Found, scene_then, view_then, weight_by, wants}
use Rattle.walk.specs.declared.moment.Wanted.{Wanted}
use Rattle.walk.proofs.Settling.{asked_some}
use Rattle.walk.proofs.Spotting.{wanted_is}
use Rattle.walk.proofs.Stepping.{fair}
use Rattle.walk.proofs.moment.Moment.candidate.Given.{Over}
use Rattle.walk.proofs.moment.Moment.candidate.Goals as goal
use Rattle.walk.proofs.moment.Moment.candidate.Goals.{Else-not-is_wanted}

-- the sample is wanted
wanted : (g : Over) (c : Else-not-is_wanted g) (i : ℕ) → Seen g.M.Measure.weighed g.M.Measure.joined c.args.self.now i → wants c.args.wanted (view_then g.M.Measure.weighed g.M.Measure.joined c.args.self.now i) c.args.self.now.question.now.k c.args.slot ≡ true
wanted g c i now =
    let z = c.args.self.now in
    let m = z.measure.now in
    let q = z.question.now in
    let d = z.field.now in
    let laws = g.met.M.Measure in
    let e = scene_then g.M.Measure.weighed g.M.Measure.joined z in
    let v = view_then g.M.Measure.weighed g.M.Measure.joined z i in
    let active = walked_active e q.k (belongs_in d) (fair _ _ (laws.weigh_rises m) (laws.join_rises m) d q.reading.values) (asked_some q) c.requires i c.args.slot (omega arith) in
    let is = wanted_is c.args.wanted v q.k c.args.slot z.span c.in-Some.entry now.spans.0 active (c.in-Some.ensures i now) in
    let test = c.is_wanted.ensures in
    let yes = c.if-not-is_wanted.false in
    grind arith

pub returns-in-Active : goal.returns-in-Active
returns-in-Active g c i now =
    let v = view_then g.M.Measure.weighed g.M.Measure.joined c.args.self.now i in
    let s = c.args.slot in
    let f = c.in-Some.ensures i now in
    let of : ℕ → Candidate = λ n. record { weight = n; slot = s } in
    (wanted g (goal.at.returns-in-Active g c).Else-not-is_wanted i now, ap of (sym f.1) ∙ ap (λ (x : Wanted). candidate (weight_by x v) s) (sym c.in-Active.is))

pub returns-in-Listed : goal.returns-in-Listed
returns-in-Listed g c i now =
    let z = c.args.self.now in
    let v = view_then g.M.Measure.weighed g.M.Measure.joined z i in
    let s = c.args.slot in
    let f = c.in-Some.ensures i now in
    let in_view = f.0 in
    let h : held (holds z.field.now) s ≡ true = grind arith in
    let is = c.weighed.ensures h in
    subst (λ r. Found (weight_by c.args.wanted v) (wants c.args.wanted v z.question.now.k) s r) (sym is)
    (wanted g (goal.at.returns-in-Listed g c).Else-not-is_wanted i now, ap (λ (x : Wanted). candidate (weight_by x v) s) (sym c.in-Listed.is))
