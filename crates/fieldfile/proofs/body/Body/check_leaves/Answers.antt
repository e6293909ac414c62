use Rattle.std.proofs.Common.{refl, ap, ◌∙◌, not, rules}
use Rattle.ranking.proofs.Found.{lowest_from_find}
use Rattle.fieldfile.specs.Bodies.{named_leaf}
use Rattle.fieldfile.specs.Faults.{blame}
use Rattle.fieldfile.specs.declared.faults.Check.TheVariants.{Leaf}
use Rattle.fieldfile.proofs.body.Body.check_leaves.Goals as goal

pub returns : goal.returns
returns c = c.passes_unless.ensures ∙ ap (blame Leaf) (lowest_from_find (λ i. not (named_leaf c.args.self.now.file.now c.args.field.now i)) _ _ _ c.find-lowest.result refl c.find-lowest.ensures.ran (λ x b q k. search rules))
