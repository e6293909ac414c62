use Rattle.std.proofs.Common.{◌+◌, ◌*◌, rules}
use Rattle.std.proofs.lemmas.List.FromFn.{fill_by_all}
use Rattle.records.specs.Bytes.{two, row_in}
use Rattle.fieldfile.proofs.numbers.row_at.Goals as goal

pub returns : goal.returns
unfolding row_in
returns c = fill_by_all (λ b. two c.args.bytes.now (c.args.at + 2 * b)) c.from_fn.result 8 0 (search rules) (λ b l. search rules)
