use Rattle.std.proofs.Common.{◌≡◌, true, length, sym, ap, ◌∙◌, arith}
use Rattle.arrayvec.specs.ArrayVec.{array_vec_len}
use Rattle.boxes.specs.Views.{node_at}
use Rattle.samples.specs.Slots.{table}
use Rattle.trees.specs.Lawful.{lawful}
use Rattle.field.proofs.Cleared.{cleared_size, cleared_lawful, cleared_right}
use Rattle.field.proofs.Flawed.{listed_lawful, flawed}
use Rattle.field.proofs.state.Field.with_tree.Goals as goal

pub returns-in-Some-clause-test : goal.returns-in-Some-clause-test
returns-in-Some-clause-test c =
    sym (ap (λ l. lawful (length l) (node_at l)) (sym c.as_slice.ensures.value) ∙ flawed c.as_slice.result.now c.in-Some.flaw (sym c.in-Some.ensures))

pub invariant_of-result : goal.invariant_of-result
invariant_of-result c =
    let w = c.args.nodes in
    let os = c.as_mut_slice.result.now in
    let ns = c.clear.new.nodes in
    let is = c.as_mut_slice.ensures.value in
    let f = c.clear.ensures in
    let law : lawful (array_vec_len w) (node_at w.items) ≡ true = ap (λ l. lawful (length l) (node_at l)) (sym c.as_slice.ensures.value) ∙ listed_lawful c.as_slice.result.now (sym c.flaw_of.ensures ∙ c.in_default.is) in
    record {
      len_fits = omega (arith, cleared_size w os ns is c.clear.auto.nodes f.shape f.counts, ap length c.as_slice.ensures.value, c.as_slice.ensures.fits);
      rules_hold = cleared_lawful w os ns is c.clear.auto.nodes f.shape f.counts law;
      counts_hold = cleared_right w os ns is c.clear.auto.nodes f.shape f.counts (table c.new.result) c.new.ensures;
    }
