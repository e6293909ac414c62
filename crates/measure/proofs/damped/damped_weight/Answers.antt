use Rattle.std.proofs.Common.{◌≡◌, ◌*◌, min, sym, refl, ap, ◌∙◌, subst, arith}
use Rattle.measure.specs.Roots.{root, Largest}
use Rattle.measure.specs.Rooted.{root_largest}
use Rattle.measure.proofs.Tables.{roots_from_test}
use Rattle.measure.proofs.damped.damped_weight.Goals as goal

pub entry-requires : goal.entry-requires
entry-requires c = record { within = omega arith; roots = roots_from_test _ refl refl }

pub returns : goal.returns
returns c =
    let n = 1024 * min c.args.gap 1023 in
    let e : c.entry.result ≡ root n = c.entry.ensures ∙ ap (λ g. root (1024 * g)) c.min.ensures in
    record { value = e; largest = subst (Largest n) (sym e) (root_largest n) }
