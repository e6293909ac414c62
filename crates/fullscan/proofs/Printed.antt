-- One answer more is printed. Assumes nothing.
use Rattle.std.proofs.Common.{◌≡◌, ℕ, List, [], ◌∷◌, ◌++◌, Result, ap, ◌∙◌, append_assoc}
use Rattle.samples.specs.Slots.{Table}
use Rattle.samples.specs.declared.refusal.Refusal.{Refusal}
use Rattle.script.specs.declared.Command.{Command}
use Rattle.script.specs.declared.Unreadable as unreadable
use Rattle.fullscan.specs.Answers.{line_of, print, replies, reply_rule}
use Rattle.fullscan.specs.declared.answer.Answer.{Answer}

module _ (w j : ℕ → ℕ → ℕ) where
  -- after a line c was answered a on the table t, which left u
  pub print_more : (before after : List ℕ) (t u : Table) (a : Result Answer Refusal) (c : Result Command unreadable.Unreadable) (cs : List (Result Command unreadable.Unreadable)) → after ≡ before ++ (line_of a ++ 10 ∷ []) → (u, a) ≡ reply_rule w j t c → after ++ print (replies w j u cs) ≡ before ++ print (replies w j t (c ∷ cs))
  print_more before after t u a c cs out did =
      let rest = print (replies w j u cs) in
      let step : after ++ rest ≡ before ++ (line_of a ++ (10 ∷ rest)) =
      ap (λ l. l ++ rest) out ∙ append_assoc before (line_of a ++ 10 ∷ []) rest ∙ ap (λ l. before ++ l) (append_assoc (line_of a) (10 ∷ []) rest)
      in
      step ∙ ap (λ (p : Table × Result Answer Refusal). before ++ (line_of p.1 ++ (10 ∷ print (replies w j p.0 cs)))) did
