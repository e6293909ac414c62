-- A table without the entries above high shows the samples that are not dropped. Assumes nothing.
use Rattle.std.proofs.Common.{◌≡◌, ℕ, ◌<◌, Bool, true, false, ◌&&◌, nat_lt, nat_le, cond, List, get_or, sum_by, refl, ap, ◌∙◌, arith}
use Rattle.std.specs.List.{All, filter}
use Rattle.std.proofs.lemmas.List.Elements.{All-filter, filter_passes}
use Rattle.std.proofs.lemmas.Bool.Decides.{nat_tests}
use Rattle.ranking.specs.Counts.{bit}
use Rattle.walks.specs.Scenes.{Scene}
use Rattle.walks.specs.Views.{high}
use Rattle.walks.specs.Walk.{Place, dropped, is_kept, view, dropping}
use Rattle.entries.specs.Shows.{belongs, members, Bounded, Faithful, Shows}
use Rattle.entries.specs.declared.entry.Entry.{Entry}
use Rattle.entries.specs.declared.entry.Of.{Of}
use Rattle.entries.specs.declared.entry.Of.TheVariants.{Node, Sample}
use Rattle.entries.proofs.Shown.{faithful_at, seen, by_bounds}
use Rattle.entries.proofs.Spread.{share}
use Rattle.entries.proofs.Summed.{sum_ext}

-- what belongs to an entry depends only on where the sample stands
pub belongs_at : (o : Of) (p q : ℕ → Place) (s : ℕ) → p s ≡ q s → belongs o p s ≡ belongs o q s
belongs_at (Node x t) p q s e = cc
belongs_at (Sample r) p q s e = cc

pub none_dropped : (o : Of) (p : ℕ → Place) (s : ℕ) → p s ≡ dropped → belongs o p s ≡ false
none_dropped (Node x t) p s e = cc
none_dropped (Sample r) p s e = grind arith

module _ (c : Scene) (k : ℕ) (p : ℕ → Place) where
  abbrev top : ℕ
  top = high (view c p) k

  abbrev after : ℕ → Place
  after = dropping c k p

  after_is : (s : ℕ) → after s ≡ cond (nat_lt top ((view c p).near s)) dropped (p s)
  unfolding dropping
  after_is s = refl

  -- of an entry above high nothing is left, of the others all
  left_of : (o : Of) (e : Entry) (s : ℕ) → Bounded c o e → members c after o s ≡ (members c p o s && nat_le e.near top)
  left_of o e s b = go (nat_lt top ((view c p).near s)) refl
    where
      go : (t : Bool) → nat_lt top ((view c p).near s) ≡ t → members c after o s ≡ (members c p o s && nat_le e.near top)
      go true h =
          let gone : after s ≡ dropped = after_is s ∙ ap (λ t. cond t dropped (p s)) h in
          let none = none_dropped o after s gone in
          let near : members c p o s ≡ true → (view c p).near s ≡ e.near = λ m. (seen c p o e s b m).0 in
          grind (arith, nat_tests)
      go false h =
          let stays : after s ≡ p s = after_is s ∙ ap (λ t. cond t dropped (p s)) h in
          let same = belongs_at o after p s stays in
          let near : members c p o s ≡ true → (view c p).near s ≡ e.near = λ m. (seen c p o e s b m).0 in
          grind (arith, nat_tests)

  -- an entry that is kept says the truth
  still : (e : Entry) → Faithful c p e → nat_le e.near top ≡ true → Faithful c after e
  still e f low = faithful_at c p after e (λ s l. let a = left_of e.of e s f.bounds in grind arith) f

  entered_at : (s : ℕ) → (view c after).entered s ≡ ((view c p).entered s && nat_le ((view c p).near s) top)
  entered_at s = go (nat_lt top ((view c p).near s)) refl
    where
      go : (t : Bool) → nat_lt top ((view c p).near s) ≡ t → (view c after).entered s ≡ ((view c p).entered s && nat_le ((view c p).near s) top)
      go true h = let gone : after s ≡ dropped = after_is s ∙ ap (λ t. cond t dropped (p s)) h in let e = ap is_kept gone in grind (arith, nat_tests)
      go false h = let stays : after s ≡ p s = after_is s ∙ ap (λ t. cond t dropped (p s)) h in let e = ap is_kept stays in grind (arith, nat_tests)

  module _ (es : List Entry) (shows : Shows c p es) where
    once : (s : ℕ) → s < c.slots → sum_by (λ e. bit (members c after e.of s)) (filter (λ e. nat_le e.near top) es) ≡ bit ((view c after).entered s)
    once s l =
        let faithful : All (Faithful c p) (filter (λ e. nat_le e.near top) es) = All-filter (λ e. nat_le e.near top) (Faithful c p) es shows.faithful in
        let passes = filter_passes (λ e. nat_le e.near top) es in
        let a =
        sum_ext (λ e. bit (members c after e.of s)) (λ e. bit (members c p e.of s && true)) (filter (λ e. nat_le e.near top) es)
        (λ k d m.
        let e = get_or (filter (λ x. nat_le x.near top) es) k d in
        let f = left_of e.of e s (faithful k d m).bounds in
        let h = passes k d m in
        grind arith)
        in
        let agree = by_bounds c p es shows (λ n f. nat_le n top) s in
        let b = share (λ e. members c p e.of s) (λ e. nat_le e.near top) (nat_le ((view c p).near s) top) true es agree in
        let o = shows.once s l in
        let e = entered_at s in
        grind (arith, nat_tests)

    pub lessened : Shows c (dropping c k p) (filter (λ e. nat_le e.near (high (view c p) k)) es)
    lessened = record {
      faithful = λ k d l.
          still (get_or (filter (λ e. nat_le e.near top) es) k d) (All-filter (λ e. nat_le e.near top) (Faithful c p) es shows.faithful k d l)
          (filter_passes (λ e. nat_le e.near top) es k d l);
      once = once;
    }
