use Rattle.std.proofs.Common.{refl, ap, ◌∙◌, rules}
use Rattle.ranking.proofs.Found.{lowest_from_find}
use Rattle.records.specs.Checks.{bad_sample}
use Rattle.fieldfile.specs.Faults.{blame}
use Rattle.fieldfile.specs.declared.faults.Check.TheVariants.{Sample}
use Rattle.fieldfile.proofs.body.Body.check_samples.Goals as goal

pub returns : goal.returns
returns c = c.passes_unless.ensures ∙ ap (blame Sample) (lowest_from_find (bad_sample c.args.self.now.file.now) _ _ _ c.find-lowest.result refl c.find-lowest.ensures.ran (λ x b q k. search rules))
