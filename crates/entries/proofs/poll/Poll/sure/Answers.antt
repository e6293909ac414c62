use Rattle.std.proofs.Common.{rules}
use Rattle.walks.specs.Views.{sure}
use Rattle.entries.proofs.poll.Poll.sure.Goals as goal

pub returns : goal.returns
unfolding sure
returns c v k polled =
    let a = polled.votes_inside c.args.fibre c.requires in
    let b = polled.votes_active c.args.fibre c.requires in
    let d = polled.size_active in
    let e = polled.remains in
    search rules
