use Rattle.std.proofs.Common.{rules, refl, ◌∙◌, arith}
use Rattle.std.proofs.lemmas.Iterator.{YieldsList-from_range, YieldsList-from_slice, YieldsList-from_zip}
use Rattle.std.proofs.lemmas.Iterator.Consumers.{fold_from_yields_List}
use Rattle.measure.proofs.Joins.{join_all}
use Rattle.measure.proofs.join_gaps.Goals as goal

pub returns : goal.returns
returns g c =
    let w = g.M.Measure.weighed c.args.m.now in
    let j = g.M.Measure.joined c.args.m.now in
    let bands = YieldsList-from_range 1 8 7 c.zip.ensures.first refl in
    let rest = YieldsList-from_slice _ c.zip.ensures.second.0 in
    fold_from_yields_List _ (λ u p. j u (w p.0 p.1)) _ _ c.fold.ensures.ran (YieldsList-from_zip bands rest) (λ a x b q k. search rules)
    ∙ join_all w j c.args.gaps.now _ (omega arith) c.weigh.ensures
