use Rattle.std.proofs.Common.{◌∙◌, rules}
use Rattle.boxes.proofs.Gridded.{deepest_side}
use Rattle.boxes.proofs.bounds.Bounds.sides.Goals as goal

pub returns-clause-deepest : goal.returns-clause-deepest
returns-clause-deepest c e b l = search rules ∙ deepest_side c.args.self.now.depth b e l
