use Rattle.std.proofs.Common.{get_or, sym}
use Rattle.walks.specs.Walk.{view}
use Rattle.entries.specs.Sums.{bound}
use Rattle.entries.specs.declared.part.Side.TheVariants.{Near, Far}
use Rattle.entries.proofs.Shown.{seen}
use Rattle.entries.proofs.Spanned.{kth_is}
use Rattle.entries.proofs.table.Table.span.Goals as goal

pub returns : goal.returns
returns c s p shows o enough =
    let es = c.args.self.now.entries.items in (
      kth_is s p es shows (bound Near) (view s p).near (λ t l k d m h. sym (seen s p (get_or es k d).of (get_or es k d) t (shows.faithful k d m).bounds h).0) c.args.k c.kth.result o enough c.kth.ensures,
      kth_is s p es shows (bound Far) (view s p).far (λ t l k d m h. sym (seen s p (get_or es k d).of (get_or es k d) t (shows.faithful k d m).bounds h).1) c.args.k c.kth-2.result o enough c.kth-2.ensures,
    )
