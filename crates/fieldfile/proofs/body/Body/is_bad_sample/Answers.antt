use Rattle.std.proofs.Common.{◌≡◌, ◌&&◌, ltb, is_ok, sym, ◌∙◌, arith}
use Rattle.std.proofs.lemmas.Bool.Decides.{nat_tests}
use Rattle.samples.specs.Ranges.{below}
use Rattle.records.specs.Checks.{bad_sample, in_range}
use Rattle.records.specs.Readings.{sample_part}
use Rattle.fieldfile.proofs.body.Body.is_bad_sample.Goals as goal
use Rattle.fieldfile.proofs.body.Body.is_bad_sample.Goals.{After-is_err}

-- the record is in range where a sample can be made of it
ranged : (c : After-is_err) → in_range (sample_part c.args.self.now.file.now c.args.i) ≡ is_ok c.new.result
unfolding in_range
ranged c = let s = c.entry-entry.ensures in sym (c.new.ensures.test ∙ (λ j. ltb ((c.from.ensures ∙ s.fibre) j) 8 && below 1024 (s.values j)))

pub returns-then-is_err : goal.returns-then-is_err
unfolding bad_sample
returns-then-is_err c = let r = ranged (goal.at.returns-then-is_err c).After-is_err in grind (arith, nat_tests)

pub returns-then-i-gt0 : goal.returns-then-i-gt0
unfolding bad_sample
returns-then-i-gt0 c = let r = ranged (goal.at.returns-then-i-gt0 c).After-is_err in grind (arith, nat_tests)

pub returns-else-i-gt0 : goal.returns-else-i-gt0
unfolding bad_sample
returns-else-i-gt0 c = let r = ranged (goal.at.returns-else-i-gt0 c).After-is_err in grind (arith, nat_tests)
