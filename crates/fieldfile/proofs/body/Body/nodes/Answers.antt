use Rattle.std.proofs.Common.{◌≡◌, true, Some, ap, arith}
use Rattle.ranking.proofs.Found.{is_lowest, none_lowest}
use Rattle.records.specs.Checks.{bad_node}
use Rattle.records.specs.Readings.{node_total}
use Rattle.fieldfile.specs.Faults.{blame}
use Rattle.fieldfile.specs.declared.faults.Check.TheVariants.{Node}
use Rattle.fieldfile.proofs.body.Body.nodes.Goals as goal

pub returns-in_default : goal.returns-in_default
returns-in_default c =
    let f = c.args.self.now in
    let bs = f.file.now in
    let x = c.loop-record.record in
    let bad : bad_node bs x ≡ true = let t = c.in_default.ensures.test in grind arith in
    ap (blame Node) (is_lowest (bad_node bs) (node_total bs) (Some x) (omega (arith, f.nodes), bad, c.loop-record.invariant.good))

pub returns : goal.returns
returns c =
    let f = c.args.self.now in
    let k = c.loop-record in
    record {
      good = none_lowest (bad_node f.file.now) (node_total f.file.now) (λ x l. k.invariant.good x (omega (arith, f.nodes)));
      size = omega (arith, f.nodes, k.invariant.size);
      nodes = λ x l. k.invariant.nodes x (omega (arith, f.nodes));
    }
