use Rattle.std.proofs.Common.{◌<◌, ◌&&◌, length, sym, ap, ◌∙◌, arith}
use Rattle.std.proofs.lemmas.Bool.{lt-ltb}
use Rattle.std.proofs.lemmas.Bool.Decides.{nat_tests}
use Rattle.boxes.specs.Views.{node_at}
use Rattle.trees.specs.Lawful.{alike, whole}
use Rattle.field.proofs.Stepped.{read}
use Rattle.field.proofs.flaws.is_rooted.Goals as goal

pub returns-then-not-is_empty : goal.returns-then-not-is_empty
unfolding alike
returns-then-not-is_empty c =
    let ns = c.args.nodes.now in
    let l : 0 < length ns = grind (arith, nat_tests) in
    c.is_same.ensures ∙ (λ i. alike (sym (read ns 0 c.index-nodes-0.result l) i).box (c.everything.ensures i))
    ∙ sym (ap (λ b. b && whole (node_at ns 0).box) (lt-ltb 0 (length ns) l))
