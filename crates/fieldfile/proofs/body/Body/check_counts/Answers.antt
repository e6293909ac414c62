use Rattle.std.proofs.Common.{refl, ap, ◌∙◌, not, rules}
use Rattle.ranking.proofs.Found.{lowest_from_find}
use Rattle.fieldfile.specs.Bodies.{same_counts}
use Rattle.fieldfile.specs.Faults.{blame}
use Rattle.fieldfile.specs.declared.faults.Check.TheVariants.{Counts}
use Rattle.fieldfile.proofs.body.Body.check_counts.Goals as goal

pub returns : goal.returns
returns c = c.passes_unless.ensures ∙ ap (blame Counts) (lowest_from_find (λ x. not (same_counts c.args.self.now.file.now c.args.field.now x)) _ _ _ c.find-lowest.result refl c.find-lowest.ensures.ran (λ x b q k. search rules))
