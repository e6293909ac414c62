use Rattle.std.proofs.Common.{◌≡◌, nat_le, rules, sym, subst, ap, ◌∙◌}
use Rattle.std.specs.List.{filter}
use Rattle.arrayvec.proofs.ArrayVecLemmas.{filter-from_retain}
use Rattle.walks.specs.Walk.{dropping}
use Rattle.entries.specs.Shows.{Shows}
use Rattle.entries.proofs.Lessened.{lessened}
use Rattle.entries.proofs.table.Table.drop_above.Goals as goal

pub returns : goal.returns
returns c s p k shows high =
    let es = c.args.self.now.entries.items in
    let kept : c.retain.new.self.items ≡ filter (λ e. nat_le e.near c.args.span.high) es =
    filter-from_retain _ _ _ (λ x b f' y called. search rules) _ _ c.retain.ensures.filtered
    in
    subst (Shows s (dropping s k p)) (sym (kept ∙ ap (λ n. filter (λ e. nat_le e.near n) es) high)) (lessened s k p es shows)
