-- Words that come one after another, and lines that say nothing. Assumes nothing.
use Rattle.std.proofs.Common.{◌≡◌, ℕ, List, [], ◌∷◌, length, Some, None, Ok, Option, Result, sym, refl, ap, ◌∙◌, subst, arith}
use Rattle.std.specs.Borrow.{Bor}
use Rattle.script.specs.Commands.{refused, commanded, measured, said, command_of, measure_of}
use Rattle.script.specs.Lines.{words_of}
use Rattle.script.specs.Numbers.{numbers}
use Rattle.script.specs.Steps.{words_left, NextWord, Gives, Parts}
use Rattle.script.specs.declared.Command.{Command}
use Rattle.script.specs.declared.MeasureKind.{MeasureKind}
use Rattle.script.specs.declared.Unreadable.{Unreadable}
use Rattle.script.specs.declared.words.Words.{Words}

-- One word more.
pub word_next : (before after : Words) (r : Option (Bor (List ℕ))) (word : Bor (List ℕ)) (ws : List (List ℕ)) → Gives before ws → NextWord before r after → r ≡ Some word → (vs : List (List ℕ)) × (ws ≡ word.now ∷ vs) × Gives after vs
word_next before after r word ws g turn e = let next = subst (λ o. NextWord before o after) e turn in (words_left after, sym g.left ∙ next.0, record { left = refl })

-- No word more.
pub word_none : (before after : Words) (r : Option (Bor (List ℕ))) (ws : List (List ℕ)) → Gives before ws → NextWord before r after → r ≡ None → ws ≡ []
word_none before after r ws g turn e = let none = subst (λ o. NextWord before o after) e turn in sym g.left ∙ none.0

module _ {X : Type 0} (meant : ℕ → (ℕ → Option (List ℕ)) → Result X Unreadable) (no_letter : (its : ℕ → Option (List ℕ)) → meant 0 its ≡ refused) where
  said_long : (w : List ℕ) (ws : List (List ℕ)) → (length w ≡ 1 → ⊥) → said meant (w ∷ ws) ≡ refused
  said_long [] ws h = no_letter _
  said_long (c ∷ []) ws h = absurd (h refl)
  said_long (c ∷ b ∷ bs) ws h = no_letter _

-- A line whose first word is no letter says nothing.
pub unlettered_line : (line w : List ℕ) (ws : List (List ℕ)) → words_of line ≡ w ∷ ws → (length w ≡ 1 → ⊥) → (command_of line ≡ refused) × (measure_of line ≡ refused)
unfolding command_of measure_of
unlettered_line line w ws e h = (ap (said commanded) e ∙ said_long commanded (λ its. refl) w ws h, ap (said measured) e ∙ said_long measured (λ its. refl) w ws h)

pub empty_line : (line : List ℕ) → length line ≡ 0 → (command_of line ≡ refused) × (measure_of line ≡ refused)
empty_line [] h = unlettered_line [] [] [] refl (λ e. omega arith)
empty_line (b ∷ bs) h = absurd (omega arith)

pub command_lettered : (line : List ℕ) (c : ℕ) (ws : List (List ℕ)) → words_of line ≡ (c ∷ []) ∷ ws → command_of line ≡ commanded c (λ n. numbers n ws)
unfolding command_of
command_lettered line c ws e = ap (said commanded) e

pub measure_lettered : (line : List ℕ) (c : ℕ) (ws : List (List ℕ)) → words_of line ≡ (c ∷ []) ∷ ws → measure_of line ≡ measured c (λ n. numbers n ws)
unfolding measure_of
measure_lettered line c ws e = ap (said measured) e

-- A letter whose case reads n numbers: what it means by those that were read, the line says.
module _ (line : List ℕ) (c n : ℕ) (words : Words) {k : ℕ} {its : Option (List ℕ)} (parts : Parts line (Ok (c, words))) (is : c ≡ k) (read : (ws : List (List ℕ)) → Gives words ws → its ≡ numbers n ws) where
  numbers_read : {X : Type 0} (meant : ℕ → (ℕ → Option (List ℕ)) → Result X Unreadable) (meaning : Option (List ℕ) → Result X Unreadable) → ((all : ℕ → Option (List ℕ)) → meant k all ≡ meaning (all n)) → meaning its ≡ meant c (λ m. numbers m parts.0)
  numbers_read meant meaning case = sym (ap (λ l. meant l (λ m. numbers m parts.0)) is ∙ case _ ∙ ap meaning (sym (read parts.0 parts.2)))

  pub command_read : (meaning : Option (List ℕ) → Result Command Unreadable) → ((all : ℕ → Option (List ℕ)) → commanded k all ≡ meaning (all n)) → meaning its ≡ command_of line
  command_read meaning case = numbers_read commanded meaning case ∙ sym (command_lettered line c parts.0 parts.1)

  pub measure_read : (meaning : Option (List ℕ) → Result MeasureKind Unreadable) → ((all : ℕ → Option (List ℕ)) → measured k all ≡ meaning (all n)) → meaning its ≡ measure_of line
  measure_read meaning case = numbers_read measured meaning case ∙ sym (measure_lettered line c parts.0 parts.1)
