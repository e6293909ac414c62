-- Which samples stand in active nodes. Assumes nothing.
use Rattle.std.proofs.Common.{◌≡◌, ℕ, Bool, true, false, ◌&&◌, is_some, refl, sym, ap, arith}
use Rattle.walks.specs.Scenes.{Scene}
use Rattle.walks.specs.Views.{active}
use Rattle.walks.specs.Walk.{Place, is_node, is_kept, view}
use Rattle.entries.specs.OpenNodes.{node_in, open_node}
use Rattle.entries.specs.Shows.{members, Faithful}
use Rattle.entries.specs.Spans.{Spans}
use Rattle.entries.specs.Sums.{passes}
use Rattle.entries.specs.declared.entry.Entry.{Entry}
use Rattle.entries.specs.declared.entry.Of.{Of}
use Rattle.entries.specs.declared.entry.Of.TheVariants.{Node, Sample}
use Rattle.entries.specs.declared.part.Part.TheVariants.{Active}
use Rattle.entries.specs.declared.span.Span.{Span}
use Rattle.entries.proofs.Shown.{within_is, alone_is, seen}

-- a sample stands in an active node where its entry is one
some_node : (c : Scene) (p : ℕ → Place) (o : Of) (s : ℕ) (b : Bool) → members c p o s ≡ true → is_some (node_in o b) ≡ (b && (view c p).in_node s)
some_node c p (Node x t) s true m = sym (ap is_node (within_is (p s) x (grind arith)))
some_node c p (Node x t) s false m = refl
some_node c p (Sample r) s true m = sym (ap is_node (alone_is (p s) (grind arith)))
some_node c p (Sample r) s false m = refl

-- what stands in an entry is entered
pub entered_if : (c : Scene) (p : ℕ → Place) (o : Of) (s : ℕ) → members c p o s ≡ true → (view c p).entered s ≡ true
entered_if c p (Node x t) s m = let kept = ap is_kept (within_is (p s) x (grind arith)) in grind arith
entered_if c p (Sample r) s m = let kept = ap is_kept (alone_is (p s) (grind arith)) in grind arith

module _ (c : Scene) (p : ℕ → Place) (k : ℕ) (z : Span) (spans : Spans (view c p) k z) where
  pub opened_at : (e : Entry) (s : ℕ) → Faithful c p e → members c p e.of s ≡ true → is_some (open_node z e) ≡ (active (view c p) k s && (view c p).in_node s)
  opened_at e s f m =
      let h = some_node c p e.of s (passes (Active z) e) m in
      let b = seen c p e.of e s f.bounds m in
      let near = b.0 in
      let far = b.1 in
      let lowest = spans.0 in
      let highest = spans.1 in
      let entered = entered_if c p e.of s m in
      grind arith
