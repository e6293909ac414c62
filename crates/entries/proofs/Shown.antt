-- What the entries of a table that pass a test count, of the samples that stand in them. Assumes nothing.
use Rattle.std.proofs.Common.{◌≡◌, ℕ, ◌<◌, Bool, true, ◌&&◌, eqb, List, get_or, refl, sym, ap, ◌∙◌, arith}
use Rattle.std.specs.List.{All, filter}
use Rattle.std.proofs.lemmas.List.Elements.{All-filter}
use Rattle.std.proofs.lemmas.Bool.Decides.{nat_tests}
use Rattle.ranking.specs.Counts.{count}
use Rattle.ranking.specs.Majority.{tally}
use Rattle.ranking.proofs.Counted.{count_ext}
use Rattle.walks.specs.Scenes.{Scene}
use Rattle.walks.specs.Walk.{Place, within, alone, dropped, is_within, bound_at, view}
use Rattle.entries.specs.Shows.{is_alone, members, Bounded, Faithful, Shows}
use Rattle.entries.specs.Sums.{size, votes}
use Rattle.entries.specs.declared.entry.Entry.{Entry}
use Rattle.entries.specs.declared.entry.Of.{Of}
use Rattle.entries.specs.declared.entry.Of.TheVariants.{Node, Sample}
use Rattle.entries.proofs.Spread.{spread}
use Rattle.entries.proofs.Summed.{sum_ext}

pub within_is : (l : Place) (x : ℕ) → is_within l x ≡ true → l ≡ within x
within_is (within y) x e = let same : y ≡ x = grind (arith, nat_tests) in ap within same
within_is alone x e = cc
within_is dropped x e = cc

pub alone_is : (l : Place) → is_alone l ≡ true → l ≡ alone
alone_is (within y) e = cc
alone_is alone e = refl
alone_is dropped e = cc

module _ (c : Scene) where
  -- an entry says the truth for as long as its samples are the same
  pub faithful_at : (p q : ℕ → Place) (e : Entry) → ((s : ℕ) → s < c.slots → members c q e.of s ≡ members c p e.of s) → Faithful c p e → Faithful c q e
  faithful_at p q e same f = record {
    some = f.some;
    counts = f.counts ∙ sym (count_ext (members c q e.of) (members c p e.of) c.slots same);
    votes = λ j l.
        f.votes j l ∙ sym (count_ext (λ s. members c q e.of s && eqb (c.fibre s) j) (λ s. members c p e.of s && eqb (c.fibre s) j) c.slots (λ s m. ap (λ b. b && eqb (c.fibre s) j) (same s m)));
    bounds = f.bounds;
  }

module _ (c : Scene) (p : ℕ → Place) where
  -- the bounds of a sample in a view are those of the entry that it stands in
  pub seen : (o : Of) (e : Entry) (s : ℕ) → Bounded c o e → members c p o s ≡ true → ((view c p).near s ≡ e.near) × ((view c p).far s ≡ e.far)
  seen (Node x t) e s b m =
      let h : p s ≡ within x = within_is (p s) x (grind arith) in
      (ap (λ l. bound_at c.near c.weight l s) h ∙ sym b.2, ap (λ l. bound_at c.far c.weight l s) h ∙ sym b.3)
  seen (Sample r) e s b m =
      let h : p s ≡ alone = alone_is (p s) (grind arith) in
      let same : r ≡ s = grind (arith, nat_tests) in
      let w : c.weight r ≡ c.weight s = ap c.weight same in
      (ap (λ l. bound_at c.near c.weight l s) h ∙ (sym w ∙ sym b.0), ap (λ l. bound_at c.far c.weight l s) h ∙ (sym w ∙ sym b.1))

  module _ (es : List Entry) (shows : Shows c p es) (q : Entry → Bool) (qs : ℕ → Bool)
      (agree : (s : ℕ) → s < c.slots → All (λ e. members c p e.of s ≡ true → q e ≡ qs s) es) where
    pub size_is : size q es ≡ count (λ s. (view c p).entered s && qs s) c.slots
    size_is =
        let faithful : All (Faithful c p) (filter q es) = All-filter q (Faithful c p) es shows.faithful in
        let a =
        sum_ext (λ e. e.count) (λ e. count (λ s. members c p e.of s && true) c.slots) (filter q es)
        (λ k d l. let f = faithful k d l in let same = count_ext (λ s. members c p (get_or (filter q es) k d).of s) (λ s. members c p (get_or (filter q es) k d).of s && true) c.slots (λ s m. grind arith) in f.counts ∙ same)
        in
        let b = spread (λ e s. members c p e.of s) q (view c p).entered qs (λ _. true) es c.slots shows.once agree in
        let d = count_ext (λ s. ((view c p).entered s && qs s) && true) (λ s. (view c p).entered s && qs s) c.slots (λ s l. grind arith) in
        a ∙ b ∙ d

    pub votes_are : (f : ℕ) → f < 8 → votes q f es ≡ tally (λ s. (view c p).entered s && qs s) c.fibre c.slots f
    votes_are f l =
        let faithful : All (Faithful c p) (filter q es) = All-filter q (Faithful c p) es shows.faithful in
        let a =
        sum_ext (λ e. get_or e.fibres f 0) (λ e. count (λ s. members c p e.of s && eqb (c.fibre s) f) c.slots) (filter q es)
        (λ k d m. (faithful k d m).votes f l)
        in
        a ∙ spread (λ e s. members c p e.of s) q (view c p).entered qs (λ s. eqb (c.fibre s) f) es c.slots shows.once agree

  -- a test of the bounds
  pub by_bounds : (es : List Entry) → Shows c p es → (t : ℕ → ℕ → Bool) (s : ℕ) → All (λ e. members c p e.of s ≡ true → t e.near e.far ≡ t ((view c p).near s) ((view c p).far s)) es
  by_bounds es shows t s k d l m =
      let e = get_or es k d in
      let h = seen e.of e s (shows.faithful k d l).bounds m in
      let n = h.0 in
      let f = h.1 in
      cc
