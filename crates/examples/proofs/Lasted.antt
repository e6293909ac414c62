-- How the walks of the examples end. Assumes nothing.
use Rattle.std.proofs.Common.{◌≡◌, ℕ, ◌<◌, true, refl, ◌∙◌, arith}
use Rattle.ranking.specs.Counts.{count}
use Rattle.ranking.specs.Majority.{leader}
use Rattle.ranking.specs.Ranks.{nearer}
use Rattle.samples.specs.Examples.{five}
use Rattle.bounding.specs.Fields.{belongs}
use Rattle.walks.specs.Views.{kth, pick, sure, most, is_settled, is_narrow, is_counted, listed, place_of}
use Rattle.walks.specs.Walk.{Place, within, alone, dropped, End, going, settled, nearby, end, view, walk}
use Rattle.examples.specs.Walks.{blend, halves, seen, ends, Listed}
use Rattle.examples.proofs.Agreed.{blend_plain, five_plain, blend_agrees, five_agrees}
use Rattle.examples.proofs.Blended.{BlendAt, FiveAt, blend_many, five_many, together, apart, lower_alone, blend_0, blend_1, blend_2, blend_3, five_0, five_1, five_2}
use Rattle.examples.proofs.Drawn.{blend_fair, five_fair}
use Rattle.examples.proofs.Reached.{ends_so, places_so}

blend_ends : (i : ℕ) (q : ℕ → Place) → BlendAt i q → (n : ℕ) → ends blend 4 n 1 i ≡ end blend_plain 4 n 1 q
blend_ends i q at n = ends_so (seen blend) blend_plain blend_agrees (belongs halves blend) 4 blend_fair (omega arith) blend_many i q at n 1

five_ends : (i : ℕ) (q : ℕ → Place) → FiveAt i q → ends five 3 1 1 i ≡ end five_plain 3 1 1 q
five_ends i q at = ends_so (seen five) five_plain five_agrees (belongs halves five) 3 five_fair (omega arith) five_many i q at 1 1

pub wide_0 : ends blend 4 17 1 0 ≡ going
unfolding end kth pick count leader nearer sure most is_settled is_narrow is_counted listed
wide_0 = blend_ends 0 together blend_0 17 ∙ refl

pub wide_1 : ends blend 4 17 1 1 ≡ going
unfolding end kth pick count leader nearer sure most is_settled is_narrow is_counted listed
wide_1 = blend_ends 1 apart blend_1 17 ∙ refl

pub wide_2 : ends blend 4 17 1 2 ≡ nearby 1
unfolding end kth pick count leader nearer sure most is_settled is_narrow is_counted listed
wide_2 = blend_ends 2 (lower_alone (within 2) (within 2)) blend_2 17 ∙ refl

pub narrow_0 : ends blend 4 16 1 0 ≡ going
unfolding end kth pick count leader nearer sure most is_settled is_narrow is_counted listed
narrow_0 = blend_ends 0 together blend_0 16 ∙ refl

pub narrow_1 : ends blend 4 16 1 1 ≡ going
unfolding end kth pick count leader nearer sure most is_settled is_narrow is_counted listed
narrow_1 = blend_ends 1 apart blend_1 16 ∙ refl

pub narrow_2 : ends blend 4 16 1 2 ≡ going
unfolding end kth pick count leader nearer sure most is_settled is_narrow is_counted listed
narrow_2 = blend_ends 2 (lower_alone (within 2) (within 2)) blend_2 16 ∙ refl

pub narrow_3 : ends blend 4 16 1 3 ≡ settled 2
unfolding end kth pick count leader nearer sure most is_settled is_narrow is_counted listed
narrow_3 = blend_ends 3 (lower_alone dropped alone) blend_3 16 ∙ refl

pub clear_0 : ends five 3 1 1 0 ≡ going
unfolding end kth pick count leader nearer sure most is_settled is_narrow is_counted listed
clear_0 = five_ends 0 together five_0 ∙ refl

pub clear_1 : ends five 3 1 1 1 ≡ going
unfolding end kth pick count leader nearer sure most is_settled is_narrow is_counted listed
clear_1 = five_ends 1 apart five_1 ∙ refl

pub clear_2 : ends five 3 1 1 2 ≡ settled 1
unfolding end kth pick count leader nearer sure most is_settled is_narrow is_counted listed
clear_2 = five_ends 2 (lower_alone dropped dropped) five_2 ∙ refl

blend_places : (p s : ℕ) → s < 256 → place_of (view (seen blend) (walk (seen blend) 4 2)) 4 p s ≡ place_of (view blend_plain (lower_alone (within 2) (within 2))) 4 p s
blend_places = places_so (seen blend) blend_plain blend_agrees (belongs halves blend) 4 blend_fair (omega arith) blend_many 2 (lower_alone (within 2) (within 2)) blend_2

pub listing : Listed 0 0 × Listed 1 1 × Listed 2 4 × Listed 3 2
unfolding kth pick count nearer listed place_of
listing =
    (blend_places 0 0 (omega arith) ∙ refl, blend_places 1 1 (omega arith) ∙ refl, blend_places 2 4 (omega arith) ∙ refl, blend_places 3 2 (omega arith) ∙ refl)
