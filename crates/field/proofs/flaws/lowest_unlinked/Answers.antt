use Rattle.std.proofs.Common.{refl, not, length, rules}
use Rattle.boxes.specs.Views.{node_at}
use Rattle.field.specs.Flaws.{tied}
use Rattle.ranking.proofs.Found.{lowest_from_find}
use Rattle.field.proofs.flaws.lowest_unlinked.Goals as goal

pub returns : goal.returns
returns c = lowest_from_find (λ x. not (tied (length c.args.nodes.now) (node_at c.args.nodes.now) x)) _ _ _ c.find.result refl c.find.ensures.ran (λ x b q k. search rules)
