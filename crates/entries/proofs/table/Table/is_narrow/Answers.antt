use Rattle.std.proofs.Common.{ℕ, ◌*◌, ◌&&◌, ◌||◌, not, nat_le, get_or, is_some, ◌∙◌, arith, rules, tests}
use Rattle.std.proofs.lemmas.Iterator.{YieldsList-from_slice}
use Rattle.std.proofs.lemmas.Iterator.Search.{all_from_yields_List}
use Rattle.walks.specs.Views.{active, is_narrow}
use Rattle.walks.specs.Walk.{view}
use Rattle.walks.proofs.Every.{every_ext}
use Rattle.entries.specs.OpenNodes.{open_node}
use Rattle.entries.specs.declared.entry.Entry.{Entry}
use Rattle.entries.proofs.Everywhere.{everywhere}
use Rattle.entries.proofs.Opened.{opened_at}
use Rattle.entries.proofs.Shown.{seen}
use Rattle.entries.proofs.table.Table.is_narrow.Goals as goal

pub returns : goal.returns
unfolding is_narrow
returns c s p k shows spans =
    let es = c.args.self.now.entries.items in
    let z = c.args.span in
    let v = view s p in
    let n = c.args.n in
    let d = c.args.d in
    let q = λ (e : Entry). not (is_some (open_node z e)) || nat_le (e.far * d) (e.near * n) in
    let qs = λ (t : ℕ). not (active v k t && v.in_node t) || nat_le (v.far t * d) (v.near t * n) in
    all_from_yields_List q _ _ c.all.result c.all.ensures.ran (YieldsList-from_slice es cc) (λ x b f called. search (rules, tests))
    ∙ everywhere s p es shows q qs
    (λ t l i b m h.
    let e = get_or es i b in
    let o = opened_at s p k z spans e t (shows.faithful i b m) h in
    let seen_at = seen s p e.of e t (shows.faithful i b m).bounds h in
    let near = seen_at.0 in
    let far = seen_at.1 in
    cc)
    ∙ every_ext (λ t. not (v.entered t) || qs t) qs s.slots (λ t l. grind arith)
