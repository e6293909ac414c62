use Rattle.std.proofs.Common.{rules}
use Rattle.boxes.specs.Views.{box_of}
use Rattle.samples.specs.Slots.{table}
use Rattle.drawing.proofs.Sound.{lodged_by}
use Rattle.drawing.proofs.build.Builder.is_lodged.Goals as goal

pub returns : goal.returns
returns c = lodged_by (table c.args.self.now.slots.now) c.args.slot (box_of c.args.k.now) c.get.result c.is_some_and.result _ c.get.ensures c.is_some_and.ensures (λ x h. search rules)
