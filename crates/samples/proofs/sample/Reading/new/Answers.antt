use Rattle.std.proofs.Common.{rules, false}
use Rattle.std.proofs.lemmas.Bool.Decides.{same_from_decides}
use Rattle.samples.proofs.Ranged.{below_decides}
use Rattle.samples.proofs.sample.Reading.new.Goals as goal

pub invariant_of-result : goal.invariant_of-result
invariant_of-result c = record { within = (below_decides 1024 c.args.values.now).1 (search rules) }

pub returns-else-all-clause-test : goal.returns-else-all-clause-test
returns-else-all-clause-test c =
    same_from_decides false _ (search rules) (below_decides 1024 c.args.values.now)
