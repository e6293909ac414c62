use Rattle.std.proofs.Common.{None, Some, length, get_or, false, eqb, sym, refl, ap, ◌∙◌, arith}
use Rattle.field.proofs.Told.{seen, named_more, named_few, zero_at, none_named}
use Rattle.field.proofs.flaws.namings_of.Goals as goal
use Rattle.field.proofs.flaws.namings_of.Goals.{in-Some, in_default}

pub loop-node-init : goal.loop-node-init
loop-node-init c = (refl, λ y l. zero_at 1021 y ∙ none_named c.args.nodes.now y)

pub name-requires : goal.name-requires
name-requires c = λ l. omega (arith, c.loop-node.invariant.1 c.in-Some.first l, named_few c.args.nodes.now c.loop-node.node-index c.in-Some.first false (omega arith))

pub name-requires-in-Some : goal.name-requires-in-Some
name-requires-in-Some c = λ l. omega (arith, c.name.ensures c.in-Some.second l, c.loop-node.invariant.1 c.in-Some.second l, named_few c.args.nodes.now c.loop-node.node-index c.in-Some.second (eqb c.in-Some.first c.in-Some.second) (omega arith))

pub loop-node-preserved : goal.loop-node-preserved
loop-node-preserved c =
    let ns = c.args.nodes.now in
    let i = c.loop-node.node-index in
    let n = c.node-item.result in
    let at = seen ns i n (omega arith) c.node-item.is in
    let was = c.loop-node.invariant.1 in
    elim c.match-children.branch [
      | in-Some w ↦
          (ap length w.times-is ∙ w.name-in-Some.array_long, λ y l. let e = named_more ns i n at y (Some (w.in-Some.first, w.in-Some.second)) (sym w.in-Some.ensures) in ap (λ p. get_or p y 0) w.times-is ∙ omega (arith, w.name-in-Some.ensures y l, w.name.ensures y l, was y l))
      | in_default w ↦ (ap length w.times-is ∙ c.loop-node.invariant.0, λ y l. let e = named_more ns i n at y None (sym w.in_default.ensures) in ap (λ p. get_or p y 0) w.times-is ∙ omega (arith, was y l))
    ]
