use Rattle.std.proofs.Common.{refl, ◌∙◌}
use Rattle.measure.specs.Roots.{root}
use Rattle.measure.specs.Weight.{join_to}
use Rattle.ranking.specs.Counts.{count}
use Rattle.ranking.specs.Majority.{leader}
use Rattle.ranking.specs.Ranks.{nearer}
use Rattle.samples.specs.Examples.{five}
use Rattle.trees.specs.Boxes.{halved, side, spans, covers, lower, upper}
use Rattle.trees.specs.Drawing.{lodged, both, deepest, core, few, draw}
use Rattle.records.proofs.Lengths.{length_file}
use Rattle.examples.specs.Walks.{halves}
use Rattle.examples.proofs.Drawn.{blend_drawn, five_drawn}
use Rattle.examples.proofs.Lasted.{wide_0, wide_1, wide_2, narrow_0, narrow_1, narrow_2, narrow_3, clear_0, clear_1, clear_2, listing}
use Rattle.examples.proofs.examples_hold.Goals as goal

pub returns : goal.returns
unfolding root join_to count leader nearer halved side spans covers lower upper lodged both deepest core few draw
returns c = (
  (refl, refl, refl, refl, refl, refl, refl, refl, refl, refl, refl, refl, refl, refl, refl, refl),
  refl,
  record {
    drawn = (blend_drawn, five_drawn);
    wide = (wide_0, wide_1, wide_2);
    list = listing;
    narrow = (narrow_0, narrow_1, narrow_2, narrow_3);
    clear = (clear_0, clear_1, clear_2);
  },
  λ counts. (length_file _ 1 halves counts ∙ refl, length_file five 3 halves counts ∙ refl),
)
