-- What is printed for the answer to a line. Assumes nothing.
--   differs a      the walk settled or counted a fibre that is not the full scan's
--   agreed xs      in no answer do the two differ
--   letters_of a   what is printed for a line that was carried out
--   line_of a      the line that is printed for an answer or a refusal, without its line feed
--   print xs       the lines of answers, each with its line feed
use Rattle.std.specs.Prelude.{ℕ, Bool, true, false, not, ◌&&◌, cond, List, [], ◌∷◌, ◌++◌, codes, decimal, Ok, Err, Result, ◌==◌}
use Rattle.samples.specs.Refusals.{number_of}
use Rattle.samples.specs.declared.refusal.Refusal.{Refusal}
use Rattle.walk.specs.declared.outcome.Outcome.{Outcome}
use Rattle.walk.specs.declared.outcome.Outcome.TheVariants.{Settled, Nearby, Counted}
use Rattle.crosscheck.specs.declared.answer.Answer.{Answer}
use Rattle.crosscheck.specs.declared.answer.Answer.TheVariants.{Measured, Admitted, Withdrawn, Rebuilt, Judged}

abbrev pub differs_by : Outcome → ℕ → Bool
differs_by (Settled f n) g = not (f == g)
differs_by (Nearby f n) g = false
differs_by (Counted f n) g = not (f == g)

abbrev pub differs : Answer → Bool
differs (Judged o g) = differs_by o g
differs _ = false

abbrev pub differs_of : Result Answer Refusal → Bool
differs_of (Ok a) = differs a
differs_of (Err e) = false

-- the two agree in all answers
abbrev pub agreed : List (Result Answer Refusal) → Bool
agreed [] = true
agreed (a ∷ rest) = not (differs_of a) && agreed rest

-- the fibre, the steps and the end of a walk, and the full scan's fibre beside them
abbrev pub beside : ℕ → ℕ → List ℕ → ℕ → List ℕ
beside f n e g = codes "Q " ++ (decimal f ++ (codes " " ++ (decimal n ++ (e ++ decimal g))))

abbrev pub letters_of : Answer → List ℕ
letters_of Measured = codes "M"
letters_of Admitted = codes "A"
letters_of Withdrawn = codes "W"
letters_of Rebuilt = codes "R"
letters_of (Judged (Settled f n) g) = beside f n (codes " S, full scan ") g
letters_of (Judged (Nearby f n) g) = beside f n (codes " N, full scan ") g
letters_of (Judged (Counted f n) g) = beside f n (codes " C, full scan ") g

abbrev pub line_of : Result Answer Refusal → List ℕ
line_of (Ok a) = letters_of a ++ cond (differs a) (codes ", differs") []
line_of (Err r) = codes "E " ++ decimal (number_of r)

abbrev pub print : List (Result Answer Refusal) → List ℕ
print [] = []
print (a ∷ rest) = line_of a ++ (10 ∷ print rest)
