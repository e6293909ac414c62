use Rattle.std.proofs.Common.{ℕ, ◌+◌, length, Some, None, sym, ap, ◌∙◌, subst, arith}
use Rattle.samples.specs.Slots.{table, point}
use Rattle.samples.proofs.Tabled.{held_some}
use Rattle.trees.specs.Boxes.{everything}
use Rattle.trees.specs.Drawing.{lodged}
use Rattle.drawing.specs.Held.{held_in}
use Rattle.drawing.specs.Runs.{Holds}
use Rattle.drawing.proofs.Running.{holds_none}
use Rattle.drawing.proofs.Walking.{walk_begins, step_finds}
use Rattle.drawing.proofs.Sound.{gathered_skips, gathered_push}
use Rattle.drawing.proofs.runs.gather.Goals as goal

pub loop-slot-init : goal.loop-slot-init
loop-slot-init c =
    let it = c.into_iter-slot-iterator in
    let begin = walk_begins it.result _ c.args.slots.now it.ensures.into_iter_gives c.iter-slot-items.ensures.from c.iter-slot-items.ensures.slots in
    let e = c.new-run.ensures in
    let p = lodged (held_in c.args.slots.now) everything in
    (tt, tt, begin.1, omega (arith, begin.0), omega (arith, begin.0, ap length e), subst (λ (n : ℕ). Holds p n c.new-run.result.items) (sym begin.0) (subst (Holds p 0) (sym e) (holds_none p)))

-- the slots that were passed over hold nothing, and the next is gathered
pub loop-slot-preserved : goal.loop-slot-preserved
loop-slot-preserved c =
    let xs = c.args.slots.now in
    let inv = c.loop-slot.invariant in
    let s = c.loop-slot.slot-iterator.from in
    let i = c.in-Some.slot in
    let n = c.next.new.self.from in
    let r = c.loop-slot.run.items in
    let p = lodged (held_in xs) everything in
    let x = point c.in-Some.field-0-1.now in
    let next = step_finds xs _ s (Some (i, x)) n inv.2 c.in-Some.ensures.steps.0 in
    let upto = gathered_skips xs s i r next.0 (omega (arith, next.1)) next.2 inv.5 in
    let all = gathered_push xs i r next.1 (held_some (table xs) i x (sym next.3)) upto in
    let pushed = subst (Holds p (i + 1)) (sym c.push.ensures.items) all in
    (tt, tt, ap (λ b. b.now) c.in-Some.ensures.steps.1 ∙ inv.2, omega (arith, next.1, next.4), omega (arith, next.0, next.4, inv.4, c.push.ensures.len), subst (λ (m : ℕ). Holds p m c.push.new.self.items) (sym next.4) pushed)

pub returns : goal.returns
returns c =
    let xs = c.args.slots.now in
    let inv = c.loop-slot.invariant in
    let s = c.loop-slot.slot-iterator.from in
    let none = step_finds xs _ s None 256 inv.2 c.in-None.ensures.steps.0 in
    gathered_skips xs s 256 c.loop-slot.run.items inv.3 (omega arith) none inv.5
