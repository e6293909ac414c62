-- The test of a list's range, and what it decides. Assumes nothing.
use Rattle.std.proofs.Common.{ℕ, ◌<◌, ltb, List, refl}
use Rattle.std.specs.Bool.{Decides}
use Rattle.std.specs.List.{All}
use Rattle.std.proofs.lemmas.Bool.Decides.{Decides-by_and, Decides-ltb}
use Rattle.samples.specs.Ranges.{below}

pub below_decides : (n : ℕ) (vs : List ℕ) → Decides (below n vs) (All (λ v. v < n) vs)
below_decides n = Decides-by_and (λ v. ltb v n) (λ v. v < n) (below n) (λ v. Decides-ltb v n) refl (λ _ _. refl)
