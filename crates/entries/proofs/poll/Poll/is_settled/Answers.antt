use Rattle.std.proofs.Common.{◌≡◌, ℕ, ◌&&◌, ◌||◌, cond, eqb, leb, ltb, refl, ◌∙◌, arith, rules, tests}
use Rattle.std.proofs.lemmas.Bool.Decides.{nat_tests}
use Rattle.std.proofs.lemmas.Iterator.{YieldsList-from_range}
use Rattle.std.proofs.lemmas.Iterator.Search.{all_from_yields_List}
use Rattle.walks.specs.Views.{most, sure, is_settled}
use Rattle.walks.proofs.Every.{every_ext}
use Rattle.entries.proofs.Ranges.{all_below}
use Rattle.entries.proofs.poll.Poll.is_settled.Goals as goal

-- another code j with m votes at most, against s votes of f at least
same_test : (j f m s : ℕ) → (eqb j f || (ltb m s || ltb f j && eqb m s)) ≡ (eqb j f || cond (ltb j f) (ltb m s) (leb m s))
same_test j f m s = grind (arith, nat_tests)

pub returns : goal.returns
unfolding is_settled
returns c v k polled =
    let f = c.args.fibre in
    let s = c.sure-sure.ensures v k polled in
    let test = λ (j : ℕ). eqb j f || (ltb (most v k j) (sure v k f) || ltb f j && eqb (most v k j) (sure v k f)) in
    all_from_yields_List test _ _ c.all.result c.all.ensures.ran (YieldsList-from_range 0 8 8 refl refl) (λ x b q called. search (rules, tests))
    ∙ all_below test 8
    ∙ every_ext test _ 8 (λ j l. same_test j f (most v k j) (sure v k f))
