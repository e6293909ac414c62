use Rattle.std.proofs.Common.{sym, subst, arith}
use Rattle.bounding.specs.Fields.{belongs_in}
use Rattle.bounding.proofs.Seen.{fair_field}
use Rattle.entries.specs.Shows.{Shows}
use Rattle.field.specs.Fields.{node_count, tree}
use Rattle.trees.proofs.Lawfully.{rules_from_lawful}
use Rattle.walks.specs.Walk.{dropped, walk}
use Rattle.walk.specs.Asked.{asked_of}
use Rattle.walk.specs.Stands.{scene_at, At}
use Rattle.walk.proofs.Begun.{begun_none, begun_vacant, begun_table, begun_places}
use Rattle.walk.proofs.walk.Walk.open.Goals as goal

pub enter_node-requires : goal.enter_node-requires
enter_node-requires g c = let d = c.args.field.now in (rules_from_lawful (node_count d) (tree d) d.rules_hold).some

pub returns-clause-stands : goal.returns-clause-stands
returns-clause-stands g c =
    let m = c.args.measure.now in
    let d = c.args.field.now in
    let q = asked_of c.args.question.now in
    let laws = g.met.M.Measure in
    let z = scene_at (g.M.Measure.weighed m) (g.M.Measure.joined m) d q in
    let u = belongs_in d in
    let fair = fair_field _ _ (laws.weigh_rises m) (laws.join_rises m) d q.reading in
    let empty = subst (Shows z (λ s. dropped)) (sym c.clear.ensures) (begun_none z u fair) in
    let table = begun_table z u fair c.enter_node.new.table.entries.items (c.enter_node.ensures (λ s. dropped) empty (begun_vacant z u fair)) in
    let at = c.settle.ensures.stands 0 table (begun_places z u fair 256) in
    let none = c.settle.ensures.steps in
    record { before = λ h l. absurd (omega arith); at = subst (λ n. At z u q (walk z q.k n) c.settle.new.self) (sym none) at }
