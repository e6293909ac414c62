use Rattle.std.proofs.Common.{◌≡◌, [], ◌∷◌, false, eqb, length, refl, sym, ap, ◌∙◌, arith}
use Rattle.std.proofs.lemmas.Bool.Decides.{nat_tests}
use Rattle.std.proofs.lemmas.Result.{err_from_is_err_and}
use Rattle.script.specs.Lines.{words_of}
use Rattle.script.specs.Steps.{words_left}
use Rattle.script.proofs.Parted.{spaced}
use Rattle.script.proofs.Spoken.{empty_line, unlettered_line}
use Rattle.script.proofs.words.letter_and_words.Goals as goal

pub returns-in_err-letter : goal.returns-in_err-letter
returns-in_err-letter c =
    let refusal = err_from_is_err_and c.from_residual.result c.from_residual.ensures.1 in
    let empty : length c.args.line.now ≡ 0 = grind arith in
    rw refusal.1 (empty_line c.args.line.now empty)

pub returns-then-letter-eq-SPACE : goal.returns-then-letter-eq-SPACE
returns-then-letter-eq-SPACE c =
    let line : c.args.line.now ≡ c.in_ok-letter.letter.now ∷ c.in_ok-letter.behind.now = grind arith in
    unlettered_line c.args.line.now _ _ (spaced _ _ c.args.line.now line c.if-letter-eq-SPACE.true) (λ e. omega arith)

pub returns-in_err-words : goal.returns-in_err-words
returns-in_err-words c =
    let refusal = err_from_is_err_and c.from_residual-in_err-words.result c.from_residual-in_err-words.ensures.1 in
    let line : c.args.line.now ≡ c.in_ok-letter.letter.now ∷ c.in_ok-letter.behind.now = grind arith in
    let letter : eqb c.in_ok-letter.letter.now 32 ≡ false = grind (arith, nat_tests) in
    let long = c.in_err-words.ensures c.in_ok-letter.letter.now letter in
    rw refusal.1 (unlettered_line c.args.line.now long.0 long.1 (ap words_of line ∙ long.2) (λ e. omega (arith, long.3)))

pub returns : goal.returns
returns c =
    let line : c.args.line.now ≡ c.in_ok-letter.letter.now ∷ c.in_ok-letter.behind.now = grind arith in
    let letter : eqb c.in_ok-letter.letter.now 32 ≡ false = grind (arith, nat_tests) in
    let same : c.from.result ≡ c.in_ok-letter.letter.now = c.from.ensures in
    (words_left c.in_ok-words.words, ap words_of line ∙ c.in_ok-words.ensures c.in_ok-letter.letter.now letter ∙ ap (λ k. (k ∷ []) ∷ words_left c.in_ok-words.words) (sym same), record { left = refl })
