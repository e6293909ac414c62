use Rattle.std.proofs.Common.{◌≡◌, true, length, ◌<◌, arith, sym, refl, ap, ◌∙◌, subst}
use Rattle.boxes.specs.Views.{entries, node_at}
use Rattle.trees.specs.Trees.{Rules, next}
use Rattle.trees.proofs.Pathed.{under_root, next_under}
use Rattle.field.proofs.Marked.{mark_begins, mark_steps, mark_ends}
use Rattle.field.proofs.path.recount.Goals as goal

pub loop-next-init : goal.loop-next-init
loop-next-init g c =
    let os = c.args.nodes.now in
    record {
      within = c.requires.rules.some;
      on_path = under_root (node_at os) (entries c.args.sample.now.reading.values);
      shape = refl;
      marks = mark_begins _ c.args.sample.now.fibre (entries c.args.sample.now.reading.values) os c.requires.rules;
    }

pub child_of-requires-clause-rules : goal.child_of-requires-clause-rules
child_of-requires-clause-rules g c =
    let same : node_at c.args.nodes.now ≡ node_at c.touch.new.nodes = sym ((λ i y. c.touch.ensures.shape y i) ∙ c.loop-next.invariant.shape) in
    let long : length c.args.nodes.now ≡ length c.touch.new.nodes = omega arith in
    subst (λ m. Rules m (node_at c.touch.new.nodes)) long (subst (Rules (length c.args.nodes.now)) same c.requires.rules)

pub loop-next-preserved : goal.loop-next-preserved
loop-next-preserved g c =
    let os = c.args.nodes.now in
    let v = entries c.args.sample.now.reading.values in
    let at = c.loop-next.at in
    let z = c.in-Some.next in
    let inv = c.loop-next.invariant in
    let same : node_at c.touch.new.nodes ≡ node_at os = (λ i y. c.touch.ensures.shape y i) ∙ inv.shape in
    let goes = rw c.values.ensures at c.in-Some.ensures in
    let n : next (node_at os) v at z ≡ true = ap (λ t. next t v at z) (sym same) ∙ goes.0 in
    let l : at < length os = omega arith in
    record {
      within = goes.2;
      on_path = next_under (length os) (node_at os) c.requires.rules v at z l inv.on_path n;
      shape = same;
      marks = mark_steps _ c.args.sample.now.fibre v os c.requires.rules c.loop-next.nodes c.touch.new.nodes at l inv.on_path inv.marks (rw c.fibre.ensures.value at c.touch.ensures.changed) (rw c.fibre.ensures.value at c.touch.ensures.kept) z n goes.1;
    }

pub returns-in_default : goal.returns-in_default
returns-in_default g c =
    let os = c.args.nodes.now in
    let at = c.loop-next.at in
    let inv = c.loop-next.invariant in
    let same : node_at c.touch.new.nodes ≡ node_at os = (λ i y. c.touch.ensures.shape y i) ∙ inv.shape in
    let m = mark_ends _ c.args.sample.now.fibre (entries c.args.sample.now.reading.values) os c.requires.rules c.loop-next.nodes c.touch.new.nodes at (omega arith) inv.on_path inv.marks (rw c.fibre.ensures.value at c.touch.ensures.changed) (rw c.fibre.ensures.value at c.touch.ensures.kept) (ap (λ t. (t at).kind) (sym same) ∙ c.in_default.ensures) in
    record { shape = λ x. ap (λ t. t x) same; changed = m.changed; kept = λ x f. m.kept x f }
