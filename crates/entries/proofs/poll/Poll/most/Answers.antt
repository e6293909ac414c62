use Rattle.std.proofs.Common.{rules}
use Rattle.walks.specs.Views.{most}
use Rattle.entries.proofs.poll.Poll.most.Goals as goal

pub returns : goal.returns
unfolding most
returns c v k polled =
    let a = polled.votes_inside c.args.fibre c.requires in
    let b = polled.votes_active c.args.fibre c.requires in
    let e = polled.remains in
    search rules
