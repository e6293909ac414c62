use Rattle.std.proofs.Common.{ℕ, sym, subst}
use Rattle.heap.specs.Contents.{content}
use Rattle.heap.specs.Order.{ahead, Heaped}
use Rattle.heap.specs.declared.Heap.{Heap}
use Rattle.samples.specs.Candidates.{Holds, by_weight}
use Rattle.samples.specs.declared.candidate.Candidate.{Candidate}
use Rattle.walks.specs.Views.{active}
use Rattle.walks.specs.Walk.{view}
use Rattle.entries.proofs.Lasts.{last_is}
use Rattle.entries.proofs.Lone.{holds_active}
use Rattle.entries.proofs.table.Table.last_candidate.Goals as goal

pub returns : goal.returns
returns c s p k whole shows spans counted =
    let es = c.args.self.now.entries.items in
    let v = view s p in
    let h = c.queue_samples.new.heap in
    let holds = subst (λ (n : ℕ). Holds (content h) v.near (active v k) n) whole (holds_active s p k c.args.span spans counted es shows (content h) c.queue_samples.ensures.queued) in
    let source = c.take.ensures.source in
    last_is v.near (active v k) c.take.result c.last.result c.args.some c.take.ensures.count
    (subst (λ (g : Heap Candidate). Heaped (ahead by_weight) (content g)) (sym source) c.queue_samples.ensures.heaped)
    (subst (λ (g : Heap Candidate). Holds (content g) v.near (active v k) 256) (sym source) holds)
    c.last.ensures.ran
