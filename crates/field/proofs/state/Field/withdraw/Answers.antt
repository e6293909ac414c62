use Rattle.std.proofs.Common.{◌≡◌, ℕ, ◌-◌, true, sym, subst, arith, rules}
use Rattle.arrayvec.specs.ArrayVec.{with_items}
use Rattle.samples.specs.Slots.{table, point, fibre_at, values_at}
use Rattle.samples.proofs.Tabled.{withdrawn_says, length_table, fibre_some, values_some}
use Rattle.trees.specs.Samples.{lowered}
use Rattle.trees.specs.Trees.{under}
use Rattle.boxes.specs.Views.{entries, node_at, counts_at}
use Rattle.field.proofs.Upheld.{lowered_from, Recounted, rules_seen, written, rules_upheld, withdraw_upheld}
use Rattle.field.proofs.state.Field.withdraw.Goals as goal
use Rattle.field.proofs.state.Field.withdraw.Goals.{After-recount}

pub recount-requires-clause-rules : goal.recount-requires-clause-rules
recount-requires-clause-rules c = let f = c.args.self.now in rules_seen f.nodes _ c.as_mut_slice-nodes.ensures.value f.rules_hold

-- one less on the path
lowers : (c : After-recount) → Recounted lowered (fibre_at (table c.args.self.now.slots) c.args.slot) (entries (values_at (table c.args.self.now.slots) c.args.slot)) c.args.self.now.nodes (with_items c.args.self.now.nodes c.recount.new.nodes)
lowers c =
    let f = c.args.self.now in
    let t = table f.slots in
    let z = c.args.slot in
    let p = point c.in-Some.sample in
    let got = c.in-Some.ensures in
    let fibre : p.fibre ≡ fibre_at t z = sym (fibre_some t z p got) in
    let values : p.values ≡ values_at t z = sym (values_some t z p got) in
    let os = c.as_mut_slice-nodes.result.now in
    let ns = c.recount.new.nodes in
    let v = entries p.values in
    let down : (x : ℕ) → under (node_at os) v x ≡ true → counts_at ns x p.fibre ≡ counts_at os x p.fibre - 1 = λ x u. let h = c.recount.ensures.changed x u in search rules in
    let h = written f.nodes os c.as_mut_slice-nodes.ensures.value lowered p.fibre v ns c.recount.auto.nodes c.recount.ensures.shape (lowered_from os ns p.fibre v c.recount.ensures.kept down) in
    subst (λ g. Recounted lowered g (entries (values_at t z)) f.nodes (with_items f.nodes ns)) fibre
    (subst (λ vs. Recounted lowered p.fibre (entries vs) f.nodes (with_items f.nodes ns)) values h)

pub invariant_of-self-in-Some : goal.invariant_of-self-in-Some
invariant_of-self-in-Some c =
    let f = c.args.self.now in
    let t = table f.slots in
    let did = withdrawn_says t _ c.args.slot c.in_ok-withdraw.ensures in
    let h = lowers (goal.at.invariant_of-self-in-Some c).After-recount in
    record {
      len_fits = omega (arith, h.size, f.len_fits);
      rules_hold = rules_upheld lowered _ _ f.nodes _ h f.rules_hold;
      counts_hold = withdraw_upheld f.nodes _ t _ c.args.slot f.counts_hold did.0 (length_table f.slots) did.1 did.2 h;
    }

pub returns-in-Some-clause-tree : goal.returns-in-Some-clause-tree
returns-in-Some-clause-tree c = let h = lowers (goal.at.returns-in-Some-clause-tree c).After-recount in record { size = h.size; shape = h.shape; counts = λ x f l. h.counts x f }
