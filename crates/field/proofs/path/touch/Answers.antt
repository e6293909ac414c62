use Rattle.std.proofs.Common.{◌≡◌, ℕ, ◌<◌, List, length, get_or, set, sym, refl, ap, ◌∙◌, subst, get_or-set_same, arith}
use Rattle.std.proofs.lemmas.List.{get_or_default}
use Rattle.boxes.specs.Views.{blank, counts_at}
use Rattle.boxes.specs.declared.node.Node.{Node}
use Rattle.field.proofs.path.touch.Goals as goal

-- node x was read, r came of one of its counts, and node x with that count is n
touched : (R : ℕ → ℕ → Type 0) (ns : List Node) (x f r : ℕ) (m n : Node) → x < length ns → f < length (get_or ns x m).counts → n.counts ≡ set (get_or ns x m).counts f r → R (get_or (get_or ns x m).counts f 0) r → R (counts_at ns x f) (counts_at (set ns x n) x f)
touched R ns x f r m n l k e h =
    let before : get_or (get_or ns x m).counts f 0 ≡ counts_at ns x f = ap (λ (a : Node). get_or a.counts f 0) (sym (get_or_default ns x blank m l)) in
    let after : r ≡ counts_at (set ns x n) x f =
    sym (get_or-set_same (get_or ns x m).counts f r 0 k) ∙ ap (λ (l : List ℕ). get_or l f 0) (sym e) ∙ ap (λ (a : Node). get_or a.counts f 0) (sym (get_or-set_same ns x n blank l)) in
    subst (λ a. R a (counts_at (set ns x n) x f)) before (subst (R (get_or (get_or ns x m).counts f 0)) after h)

pub returns-clause-changed : goal.returns-clause-changed
returns-clause-changed g c = touched (goal.F-post g c.args.change.now) c.args.nodes.now c.args.at c.args.fibre c.change.result c.index-nodes-at.result _ c.requires.within (omega arith) refl c.change.ensures
