use Rattle.std.proofs.Common.{rules}
use Rattle.std.proofs.iter.runs.Sources.{ranges}
use Rattle.trees.specs.Boxes.{spans, covers}
use Rattle.boxes.specs.Views.{box_of, entries}
use Rattle.boxes.proofs.Viewed.{every_is}
use Rattle.boxes.proofs.bounds.Bounds.covers.Goals as goal

pub returns : goal.returns
unfolding covers spans
returns c = every_is (λ b. spans (box_of c.args.self.now) b (entries c.args.values.now b)) 8 c.all.result (search (rules, ranges))
