use Rattle.std.proofs.Common.{◌∙◌, arith}
use Rattle.entries.proofs.Voted.{inside_size, inside_votes, active_size, active_votes}
use Rattle.entries.proofs.table.Table.poll.Goals as goal

pub returns : goal.returns
returns c s p shows spans =
    let es = c.args.self.now.entries.items in
    let k = c.args.k in
    let z = c.args.span in
    let inside = inside_size s p k z spans es shows in
    record {
      votes_inside = λ f l. c.votes_by_fibre.ensures f l ∙ inside_votes s p k z spans es shows f l;
      votes_active = λ f l. c.votes_by_fibre-2.ensures f l ∙ active_votes s p k z spans es shows f l;
      size_active = c.size.ensures ∙ active_size s p k z spans es shows;
      remains = omega arith;
    }
