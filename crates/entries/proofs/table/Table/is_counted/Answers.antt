use Rattle.std.proofs.Common.{not, is_some, ◌∙◌, rules, tests}
use Rattle.std.proofs.lemmas.Iterator.{YieldsList-from_slice}
use Rattle.std.proofs.lemmas.Iterator.Search.{all_from_yields_List}
use Rattle.entries.specs.OpenNodes.{open_node}
use Rattle.entries.proofs.Opening.{counted_is}
use Rattle.entries.proofs.table.Table.is_counted.Goals as goal

pub returns : goal.returns
returns c s p k shows spans =
    let es = c.args.self.now.entries.items in
    all_from_yields_List (λ e. not (is_some (open_node c.args.span e))) _ _ c.all.result c.all.ensures.ran (YieldsList-from_slice es cc) (λ x b f called. search (rules, tests))
    ∙ counted_is s p k c.args.span spans es shows
