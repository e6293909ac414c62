use Rattle.std.proofs.Common.{◌≡◌, None, sym, ap, ◌∙◌, rules}
use Rattle.std.specs.Option.{option_map}
use Rattle.boxes.specs.Views.{node_at}
use Rattle.field.specs.declared.flaws.Flaw.TheVariants.{Boxes}
use Rattle.field.specs.Flaws.{tied}
use Rattle.field.proofs.Flawed.{flaw_root, flaw_rooted, all_pass}
use Rattle.field.proofs.flaws.flaw_of.Goals as goal

pub returns-then-not-is_rooted : goal.returns-then-not-is_rooted
returns-then-not-is_rooted c = sym (flaw_root _ _ (sym c.if-not-is_rooted.ensures))

pub lowest_unnested-requires-clause-links : goal.lowest_unnested-requires-clause-links
lowest_unnested-requires-clause-links c = all_pass _ (node_at c.args.nodes.now) (tied _ (node_at c.args.nodes.now)) c.in-None.ensures

pub returns-in-Some : goal.returns-in-Some
returns-in-Some c = sym (flaw_rooted _ _ _ (sym c.if-not-is_rooted.ensures) c.in-Some.ensures)

pub returns-in-None : goal.returns-in-None
returns-in-None c =
    let m : c.map.result ≡ option_map Boxes c.lowest_unnested.result = search rules in
    m ∙ ap (option_map Boxes) c.lowest_unnested.ensures ∙ sym (flaw_rooted _ _ None (sym c.if-not-is_rooted.ensures) c.in-None.ensures)
