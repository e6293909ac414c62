-- How a text opens, by its length and its first line. Assumes nothing.
use Rattle.std.proofs.Common.{◌≡◌, ℕ, ◌<◌, ◌≤◌, leb, List, length, Some, None, Ok, Option, sym, ap, ◌∙◌, subst}
use Rattle.std.proofs.lemmas.Bool.{cond-true, cond-false, le-leb, lt-leb}
use Rattle.std.specs.Borrow.{Bor}
use Rattle.script.specs.Lines.{lines}
use Rattle.script.specs.Commands.{refused, measure_of}
use Rattle.script.specs.Scripts.{followed, begun, opened, text_left, OpenedAs}
use Rattle.script.specs.Steps.{FirstLine}
use Rattle.script.specs.declared.MeasureKind.{MeasureKind}
use Rattle.script.specs.declared.Script.{Script}

pub opened_long : (text : List ℕ) → 65535 < length text → opened text ≡ refused
unfolding opened
opened_long text h = cond-false (leb (length text) 65535) _ _ (lt-leb (length text) 65535 h)

opened_short : (text : List ℕ) → length text ≤ 65535 → opened text ≡ begun (lines text)
unfolding opened
opened_short text h = cond-true (leb (length text) 65535) _ _ (le-leb (length text) 65535 h)

module _ (before after : Script) (o : Option (Bor (List ℕ))) (h : length (text_left before) ≤ 65535) (first : FirstLine before o after) where
  pub opened_none : o ≡ None → opened (text_left before) ≡ refused
  opened_none e = let none = subst (λ o. FirstLine before o after) e first in opened_short (text_left before) h ∙ ap (λ t. begun (lines t)) none.0

  pub opened_other : (line : Bor (List ℕ)) → o ≡ Some line → refused ≡ measure_of line.now → opened (text_left before) ≡ refused
  opened_other line e m =
      let one = subst (λ o. FirstLine before o after) e first in
      opened_short (text_left before) h ∙ ap begun one.0 ∙ ap (λ r. followed r (lines (text_left after))) (sym m)

  pub opened_first : (line : Bor (List ℕ)) (kind : MeasureKind) → o ≡ Some line → Ok kind ≡ measure_of line.now → OpenedAs (text_left before) kind after
  opened_first line kind e m =
      let one = subst (λ o. FirstLine before o after) e first in
      record { value = opened_short (text_left before) h ∙ ap begun one.0 ∙ ap (λ r. followed r (lines (text_left after))) (sym m); fits = h; shorter = one.1 }
