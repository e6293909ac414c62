use Rattle.std.proofs.Common.{not, get_or, Some, None, is_some, sym, refl, ap, ◌∙◌, subst, rules, tests}
use Rattle.std.proofs.lemmas.Bool.{both_ways, eq-eqb}
use Rattle.std.proofs.lemmas.Iterator.{YieldsList-from_slice}
use Rattle.std.proofs.lemmas.Iterator.Search.{position_from_yields_List}
use Rattle.std.proofs.lemmas.List.Sums.{list_all-from_AllPass}
use Rattle.heap.specs.Contents.{content}
use Rattle.entries.specs.OpenNodes.{open_node, stands_for, Opens}
use Rattle.entries.specs.declared.entry.Entry.{Entry}
use Rattle.entries.proofs.Firsts.{none_open, came_from, none_sooner, open_is}
use Rattle.entries.proofs.Found.{found}
use Rattle.entries.proofs.Opening.{counted_is, opens_if}
use Rattle.entries.proofs.Queueing.{blank}
use Rattle.entries.proofs.table.Table.next_open.Goals as goal

pub returns-in_err-first : goal.returns-in_err-first
returns-in_err-first c s p k shows spans =
    let es = c.args.self.now.entries.items in
    let z = c.args.span in
    let none = none_open z es (content c.queue.new.heap) c.queue.ensures.queued c.in_err-first.ensures.cases.0 in
    subst (Opens s k p es) (sym c.from_residual.ensures)
    (sym (counted_is s p k z spans es shows) ∙ list_all-from_AllPass (λ e. not (is_some (open_node z e))) es (λ i d l. ap not (none i d l)))

-- the node came from an entry, so its entry is found
pub returns-in_err-at : goal.returns-in_err-at
returns-in_err-at c s p k shows spans =
    let es = c.args.self.now.entries.items in
    let z = c.args.span in
    let x = c.in_ok-first.first in
    let from = came_from z es (content c.queue.new.heap) c.queue.ensures.queued (content c.pop.new.self) x c.in_ok-first.ensures.cases in
    let none = found (λ (e : Entry). stands_for e.of x.number) es None (position_from_yields_List (λ e. stands_for e.of x.number) _ _ None c.in_err-at.ensures.ran (YieldsList-from_slice es cc) (λ y b f called. search (rules, tests))) in
    let is = open_is z (get_or es from.0 blank) x (from.2 blank) in
    absurd (both_ways (stands_for (get_or es from.0 blank).of x.number) (none from.0 blank from.1) (ap (λ o. stands_for o x.number) is ∙ eq-eqb x.number x.number refl))

pub returns : goal.returns
returns c s p k shows spans =
    let es = c.args.self.now.entries.items in
    let z = c.args.span in
    let x = c.in_ok-first.first in
    let xs = content c.queue.new.heap in
    let queued = c.queue.ensures.queued in
    let out = c.in_ok-first.ensures.cases in
    let from = came_from z es xs queued (content c.pop.new.self) x out in
    let least = none_sooner z es xs queued (content c.pop.new.self) x out (c.in_ok-first.ensures.first c.queue.ensures.heaped) in
    let here = found (λ (e : Entry). stands_for e.of x.number) es (Some c.in_ok-at.at) (position_from_yields_List (λ e. stands_for e.of x.number) _ _ (Some c.in_ok-at.at) c.in_ok-at.ensures.ran (YieldsList-from_slice es cc) (λ y b f called. search (rules, tests))) in
    (here.0, here.1, opens_if s p k z spans es shows from.0 blank x from.1 (from.2 blank) least)
