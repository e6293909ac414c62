-- A run with one call more. Assumes nothing.
use Rattle.std.proofs.Common.{◌≡◌, ℕ, ◌+◌, ◌<◌, List, [], ◌∷◌, ◌++◌, length, get_or, take}
use Rattle.std.proofs.lemmas.List.{take_more}
use Rattle.histories.specs.Calls.{State, Does, Run, ended, then}
use Rattle.histories.specs.declared.Answer.{Answer}
use Rattle.histories.specs.declared.Call.{Call}

module _ (w j : ℕ → ℕ → ℕ) where
  run_more : (s t u : State) (cs : List Call) (bs : List Answer) (c : Call) (b : Answer) → Run w j s cs bs t → Does w j t c b u → Run w j s (cs ++ c ∷ []) (bs ++ b ∷ []) u
  run_more s t u cs bs c b ended d = then d ended
  run_more s t u cs bs c b (then {t = m} {cs = ds} {rest = es} e r) d = then e (run_more m t u ds es c b r d)

  -- the first i calls of a list were carried out, and now the next
  pub run_on : (cs : List Call) (i : ℕ) (x : Call) (s t u : State) (bs more : List Answer) (b : Answer) → i < length cs → Run w j s (take i cs) bs t → Does w j t (get_or cs i x) b u → more ≡ bs ++ b ∷ [] → Run w j s (take (i + 1) cs) more u
  run_on cs i x s t u bs more b l r d e =
      rw (take_more cs i x l, e) (run_more s t u (take i cs) bs (get_or cs i x) b r d)
