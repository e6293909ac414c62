use Rattle.std.proofs.Common.{refl, not, rules}
use Rattle.boxes.specs.Views.{node_at}
use Rattle.trees.specs.Lawful.{nested}
use Rattle.ranking.proofs.Found.{lowest_from_find}
use Rattle.field.proofs.flaws.lowest_unnested.Goals as goal

pub returns : goal.returns
returns c = lowest_from_find (λ x. not (nested (node_at c.args.nodes.now) x)) _ _ _ c.find.result refl c.find.ensures.ran (λ x b q k. search rules)
