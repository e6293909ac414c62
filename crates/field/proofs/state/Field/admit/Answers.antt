use Rattle.std.proofs.Common.{◌≡◌, ℕ, ◌+◌, true, subst, arith, rules}
use Rattle.arrayvec.specs.ArrayVec.{with_items}
use Rattle.samples.specs.Slots.{table}
use Rattle.samples.proofs.Tabled.{admitted_says, length_table}
use Rattle.trees.specs.Samples.{raised}
use Rattle.trees.specs.Trees.{under}
use Rattle.boxes.specs.Views.{entries, node_at, counts_at}
use Rattle.field.proofs.Upheld.{raised_from, Recounted, rules_seen, few_seen, written, rules_upheld, admit_upheld}
use Rattle.field.proofs.state.Field.admit.Goals as goal
use Rattle.field.proofs.state.Field.admit.Goals.{After-recount}

pub recount-requires-clause-rules : goal.recount-requires-clause-rules
recount-requires-clause-rules c = let f = c.args.self.now in rules_seen f.nodes _ c.as_mut_slice-nodes.ensures.value f.rules_hold

pub recount-requires-clause-changes : goal.recount-requires-clause-changes
recount-requires-clause-changes c =
    let f = c.args.self.now in
    let t = table f.slots in
    let few = few_seen f.nodes c.as_mut_slice-nodes.result.now c.as_mut_slice-nodes.ensures.value t f.counts_hold c.in_ok-sample.sample.fibre c.in_ok-sample.sample.coded in
    search rules

-- one more on the path
raises : (c : After-recount) → Recounted raised c.args.fibre (entries c.args.values.now) c.args.self.now.nodes (with_items c.args.self.now.nodes c.recount.new.nodes)
raises c =
    let f = c.args.self.now in
    let z = c.in_ok-sample.sample in
    let made = c.in_ok-sample.ensures.value in
    let v = entries z.reading.values in
    let os = c.as_mut_slice-nodes.result.now in
    let ns = c.recount.new.nodes in
    let up : (x : ℕ) → under (node_at os) v x ≡ true → counts_at ns x z.fibre ≡ counts_at os x z.fibre + 1 = λ x u. let h = c.recount.ensures.changed x u in search rules in
    let h = written f.nodes os c.as_mut_slice-nodes.ensures.value raised z.fibre v ns c.recount.auto.nodes c.recount.ensures.shape (raised_from os ns z.fibre v c.recount.ensures.kept up) in
    subst (λ g. Recounted raised g (entries c.args.values.now) f.nodes (with_items f.nodes ns)) made.0
    (subst (λ vs. Recounted raised z.fibre (entries vs) f.nodes (with_items f.nodes ns)) made.1 h)

pub invariant_of-self-2 : goal.invariant_of-self-2
invariant_of-self-2 c =
    let f = c.args.self.now in
    let t = table f.slots in
    let did = admitted_says t _ c.args.slot c.args.fibre c.args.values.now c.in_ok-admit.ensures in
    let h = raises (goal.at.invariant_of-self-2 c).After-recount in
    record {
      len_fits = omega (arith, h.size, f.len_fits);
      rules_hold = rules_upheld raised _ _ f.nodes _ h f.rules_hold;
      counts_hold = admit_upheld f.nodes _ t _ c.args.slot f.counts_hold did.0 (length_table f.slots) c.args.fibre c.args.values.now did.2 did.3 h;
    }

pub returns-clause-tree : goal.returns-clause-tree
returns-clause-tree c = let h = raises (goal.at.returns-clause-tree c).After-recount in record { size = h.size; shape = h.shape; counts = λ x f l. h.counts x f }
