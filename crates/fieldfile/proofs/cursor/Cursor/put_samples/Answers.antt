use Rattle.std.proofs.Common.{◌≡◌, ◌-◌, cond, [], Some, None, sym, ap, ◌∙◌, arith}
use Rattle.samples.specs.Slots.{point, held}
use Rattle.samples.proofs.Tabled.{held_some, fibre_some, values_some}
use Rattle.drawing.proofs.Walking.{walk_begins, step_finds}
use Rattle.boxes.specs.Views.{entries}
use Rattle.trees.specs.Trees.{reached}
use Rattle.trees.proofs.Pathed.{reached_le}
use Rattle.field.specs.Fields.{holds, tree, node_count}
use Rattle.records.specs.Format.{leaf_number, sample_record, sample_bytes, samples_bytes}
use Rattle.records.proofs.Lengths.{count_before, length_samples, nothing_between}
use Rattle.fieldfile.proofs.Adding.{adds_as, adds_no_pieces, adds_piece}
use Rattle.fieldfile.proofs.cursor.Cursor.put_samples.Goals as goal

pub loop-slot-init : goal.loop-slot-init
loop-slot-init c =
    let f = c.args.field.now in
    let it = c.into_iter-slot-iterator in
    let begin = walk_begins it.result _ _ it.ensures.into_iter_gives c.iter-slot-items.ensures.from (c.iter-slot-items.ensures.slots ∙ c.slots.ensures) in
    (tt, tt, begin.1, omega (arith, begin.0), adds_as (adds_no_pieces _ _) (ap (samples_bytes (holds f) (node_count f) (tree f)) (sym begin.0)))

pub overflow_cast-leaf : goal.overflow_cast-leaf
overflow_cast-leaf c =
    let f = c.args.field.now in
    let below = reached_le (tree f) (entries c.values.result.now) (node_count f - 1) in
    omega (arith, f.len_fits, c.leaf_of-leaf.ensures)

pub put_sample-requires : goal.put_sample-requires
put_sample-requires c =
    let f = c.args.field.now in
    let t = holds f in
    let inv = c.loop-slot.invariant in
    let s = c.loop-slot.slot-iterator.from in
    let i = c.in-Some.slot in
    let x = point c.in-Some.sample.now in
    let next = step_finds _ _ s (Some (i, x)) c.next.new.self.from inv.2 c.in-Some.ensures.steps.0 in
    let few = count_before (held t) i 256 next.1 (held_some t i x (sym next.3)) in
    let upto = adds_as inv.4 (nothing_between t (node_count f) (tree f) s i next.0 next.2) in
    let long = length_samples t (node_count f) (tree f) i in
    omega (arith, upto.left)

-- the slots that were passed over add nothing, and the next its record
pub loop-slot-preserved : goal.loop-slot-preserved
loop-slot-preserved c =
    let f = c.args.field.now in
    let t = holds f in
    let inv = c.loop-slot.invariant in
    let s = c.loop-slot.slot-iterator.from in
    let i = c.in-Some.slot in
    let n = c.next.new.self.from in
    let x = point c.in-Some.sample.now in
    let next = step_finds _ _ s (Some (i, x)) n inv.2 c.in-Some.ensures.steps.0 in
    let found = sym next.3 in
    let full = held_some t i x found in
    let fibre = fibre_some t i x found in
    let values = values_some t i x found in
    let leaf : c.leaf_of-leaf.result ≡ leaf_number t (node_count f) (tree f) i =
    c.leaf_of-leaf.ensures ∙ ap (λ v. reached (tree f) (entries v) (node_count f - 1)) (c.values.ensures ∙ sym values)
    in
    let same : sample_record i x.fibre c.leaf_of-leaf.result (entries x.values) ≡ sample_bytes t (node_count f) (tree f) i = λ j. sample_record i (sym fibre j) (leaf j) (entries (sym values j)) in
    let upto = adds_as inv.4 (nothing_between t (node_count f) (tree f) s i next.0 next.2) in
    let all = adds_piece (λ k. cond (held t k) (sample_bytes t (node_count f) (tree f) k) []) i upto (adds_as c.put_sample.ensures (same ∙ λ j. cond (sym full j) (sample_bytes t (node_count f) (tree f) i) [])) in
    (tt, tt, ap (λ b. b.now) c.in-Some.ensures.steps.1 ∙ inv.2, omega (arith, next.1, next.4), adds_as all (ap (samples_bytes t (node_count f) (tree f)) (sym next.4)))

pub returns : goal.returns
returns c =
    let f = c.args.field.now in
    let t = holds f in
    let inv = c.loop-slot.invariant in
    let s = c.loop-slot.slot-iterator.from in
    let none = step_finds _ _ s None 256 inv.2 c.in-None.ensures.steps.0 in
    adds_as inv.4 (nothing_between t (node_count f) (tree f) s 256 inv.3 none)
