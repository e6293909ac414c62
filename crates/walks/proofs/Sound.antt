-- Every walk over a fair scene is sound. Assumes nothing.
use Rattle.walks.specs.Laws.{Walks}
use Rattle.walks.specs.Walk.{walk}
use Rattle.walks.proofs.Ended.{right, between, going_opens}
use Rattle.walks.proofs.Steps.{steps_bound}
use Rattle.walks.proofs.Walked.{walked}

pub walks_sound : Walks
walks_sound c u k n d fair positive many ratio = record {
  right = λ i. right c u k fair positive (walk c k i) (walked c u k fair positive many i) n d ratio;
  between = λ i. between c u k fair positive (walk c k i) (walked c u k fair positive many i);
  ends = λ i on. steps_bound c k u fair positive many i (λ j l. going_opens c u k fair positive (walk c k j) (walked c u k fair positive many j) n d (on j l));
}
