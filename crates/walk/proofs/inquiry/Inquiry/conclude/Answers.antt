use Rattle.std.proofs.Common.{sym, ap, ◌∙◌}
use Rattle.entries.specs.Ends.{ending}
use Rattle.walks.specs.Views.{commonest}
use Rattle.walks.specs.Walk.{nearby, view, walk}
use Rattle.walk.specs.Inquiries.{scene_in}
use Rattle.walk.proofs.inquiry.Inquiry.conclude.Goals as goal

pub returns-in-Nearby : goal.returns-in-Nearby
returns-in-Nearby g c i shows placed spans =
    let z = scene_in g.M.Measure.weighed g.M.Measure.joined c.args.self.now in
    let k = c.args.self.now.question.now.k in
    let l = c.list-fibre.ensures i shows placed spans in
    record {
      end = ap nearby l.fibre ∙ ap (λ e. ending e (commonest (view z (walk z k i)) k)) (sym c.in-Nearby.is);
      list = λ h n m. l.slots n m;
    }
