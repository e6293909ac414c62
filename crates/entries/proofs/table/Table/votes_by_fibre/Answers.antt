use Rattle.std.proofs.Common.{rules, tests}
use Rattle.entries.specs.Sums.{passes, votes}
use Rattle.entries.proofs.Made.{made_at}
use Rattle.entries.proofs.table.Table.votes_by_fibre.Goals as goal

pub returns : goal.returns
returns c f l = made_at _ (λ j. votes (passes c.args.part) j c.args.self.now.entries.items) _ c.from_fn.result 8 (λ x r q low called. search (rules, tests)) c.from_fn.ensures.items f l
