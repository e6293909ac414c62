use Rattle.std.proofs.Common.{sym, ap, arith}
use Rattle.fieldfile.proofs.Bodied.{laid_few, outlined}
use Rattle.fieldfile.proofs.body.Body.of.Goals as goal

pub invariant_of-result : goal.invariant_of-result
invariant_of-result c =
    let bs = c.args.file.now in
    let o = outlined bs c.in_ok-outline.outline (sym c.in_ok-outline.ensures) in
    let l = laid_few bs o.1 in
    record {
      marked = o.0;
      laid_out = o.1;
      samples = ap (λ p. p.samples) o.2;
      nodes = ap (λ p. p.nodes) o.2;
      few_samples = omega (arith, ap (λ p. p.samples) o.2, l.0);
      some_nodes = omega (arith, ap (λ p. p.nodes) o.2, l.1);
      few_nodes = omega (arith, ap (λ p. p.nodes) o.2, l.2);
      size = omega (arith, ap (λ p. p.samples) o.2, ap (λ p. p.nodes) o.2, l.3);
    }
