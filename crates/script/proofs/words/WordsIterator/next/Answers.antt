use Rattle.std.proofs.Common.{◌≡◌, length, Some, ap, ◌∙◌, arith}
use Rattle.script.specs.Steps.{parts_of}
use Rattle.script.proofs.Parted.{word_taken}
use Rattle.script.proofs.words.WordsIterator.next.Goals as goal

pub returns-clause-steps : goal.returns-clause-steps
returns-clause-steps c =
    let there : c.args.self.now.rest ≡ Some c.in_ok-rest.rest = grind arith in
    let taken =
    ap parts_of there
    ∙ word_taken c.in_ok-rest.rest.now c.split_at.result.0.now c.split_at.result.1.now c.get-self.result c.word_len.result c.word_len.ensures.value c.split_at.ensures.front c.split_at.ensures.back c.get-self.ensures.lookup in
    (taken, omega (arith, ap length taken))

pub returns-clause-goes : goal.returns-clause-goes
returns-clause-goes c = let shorter = (returns-clause-steps c).1 in record { on = λ f. (record {}, record {}, shorter); keeps = record {}; rests = λ f. record {} }
