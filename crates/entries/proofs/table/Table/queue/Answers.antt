use Rattle.std.proofs.Common.{◌≡◌, ◌<◌, ◌+◌, List, length, get_or, sym, ap, ◌∙◌, subst, arith}
use Rattle.heap.specs.declared.Heap.{Heap}
use Rattle.entries.specs.OpenNodes.{open_node, by_depth}
use Rattle.entries.specs.declared.entry.Entry.{Entry}
use Rattle.entries.specs.declared.open.OpenNode.{OpenNode}
use Rattle.entries.proofs.Queueing.{blank, Queueing, queue_skip, queue_push}
use Rattle.entries.proofs.table.Table.queue.Goals as goal
use Rattle.entries.proofs.table.Table.queue.Goals.{in-Some, in_default}

pub loop-entry-preserved : goal.loop-entry-preserved
loop-entry-preserved c =
    let es = c.args.self.now.entries.items in
    let h = c.loop-entry.heap in
    let z = c.args.span in
    let i = c.loop-entry.entry-index in
    let inv = c.loop-entry.invariant in
    let shown = c.deref-entry-items.ensures in
    let within : i < length es = omega (arith, ap length shown.0) in
    let few = shown.1 in
    let here : open_node z (get_or es i blank) ≡ open_node z (get_or c.deref-entry-items.result.now i blank) = ap (λ (xs : List Entry). open_node z (get_or xs i blank)) (sym shown.0) in
    elim c.match-open_node.branch [
      | in-Some w ↦
          subst (λ (g : Heap OpenNode). Queueing by_depth (open_node z) es g (i + 1)) (sym w.heap-is)
          (queue_push by_depth (open_node z) es h i blank within inv w.push.new.self w.in-Some.node w.push.result (omega arith) (here ∙ sym w.in-Some.ensures) w.push.ensures.cases w.push.ensures.room (w.push.ensures.heaped inv.3))
      | in_default w ↦ subst (λ (g : Heap OpenNode). Queueing by_depth (open_node z) es g (i + 1)) (sym w.heap-is) (queue_skip by_depth (open_node z) es h i blank within inv (here ∙ sym w.in_default.ensures))
    ]
