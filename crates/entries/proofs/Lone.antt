-- Where no node is active, each active sample has an entry of its own. Assumes nothing.
use Rattle.std.proofs.Common.{◌≡◌, ℕ, ◌<◌, ◌≤◌, Bool, true, false, ◌&&◌, not, cond, eqb, List, get_or, refl, sym, ap, ◌∙◌, arith}
use Rattle.std.proofs.lemmas.Bool.Decides.{nat_tests}
use Rattle.ranking.specs.Counts.{bit, count}
use Rattle.ranking.proofs.Counted.{count_at, count_ext}
use Rattle.samples.specs.Candidates.{candidate, Holds}
use Rattle.samples.specs.declared.candidate.Candidate.{Candidate}
use Rattle.trees.proofs.Boxed.{every_at}
use Rattle.walks.specs.Scenes.{Scene}
use Rattle.walks.specs.Views.{active, is_counted}
use Rattle.walks.specs.Walk.{Place, is_node, view}
use Rattle.entries.specs.Queues.{has, Queued}
use Rattle.entries.specs.Shows.{is_alone, members, Bounded, Shows}
use Rattle.entries.specs.Singles.{sample_in, candidate_in}
use Rattle.entries.specs.Spans.{Spans}
use Rattle.entries.specs.declared.entry.Entry.{Entry}
use Rattle.entries.specs.declared.entry.Of.{Of}
use Rattle.entries.specs.declared.entry.Of.TheVariants.{Node, Sample}
use Rattle.entries.specs.declared.span.Span.{Span}
use Rattle.entries.proofs.Opening.{counted_find}
use Rattle.entries.proofs.Opened.{entered_if}
use Rattle.entries.proofs.Shown.{within_is, seen, size_is}
use Rattle.entries.proofs.Summed.{sum_ext, sum_filter}
use Rattle.entries.proofs.Voted.{is_between, test_at, active_at}

module _ (c : Scene) (p : ℕ → Place) where
  -- the entry of a single sample counts one
  one_sample : (o : Of) (r n : ℕ) → o ≡ Sample r → n ≡ count (members c p o) c.slots → 0 < n → n ≡ 1
  one_sample o r n e counts some =
      let a : n ≡ count (members c p (Sample r)) c.slots = counts ∙ ap (λ u. count (members c p u) c.slots) e in
      let f = counted_find (members c p (Sample r)) c.slots (omega arith) in
      let there = f.2 in
      let same : r ≡ f.0 = grind (arith, nat_tests) in
      let at = count_at (λ s. c.held s && is_alone (p s)) r c.slots (omega (arith, f.1)) in
      let b = count_ext (members c p (Sample r)) (λ s. eqb s r && (c.held s && is_alone (p s))) c.slots (λ s l. grind (arith, nat_tests)) in
      let most = bit_at (c.held r && is_alone (p r)) in
      omega arith
    where
      bit_at : (b : Bool) → bit b ≤ 1
      bit_at true = omega arith
      bit_at false = omega arith

  module _ (k : ℕ) (z : Span) (spans : Spans (view c p) k z) (counted : is_counted (view c p) k ≡ true) where
    -- a sample that stands in a node is not active
    not_in_node : (s : ℕ) → s < c.slots → (view c p).in_node s ≡ true → active (view c p) k s ≡ false
    unfolding is_counted
    not_in_node s l h = let a = every_at (λ t. not (active (view c p) k t && (view c p).in_node t)) c.slots s counted l in grind arith

    -- what a test finds in an entry is what it finds of each sample that stands there
    pub agrees : (q : Candidate → Bool) (o : Of) (e : Entry) (s : ℕ) → s < c.slots → Bounded c o e → members c p o s ≡ true → has q (sample_in o e.near (is_between z e.near e.far)) ≡ (test_at c p (is_between z) s && q (candidate (view c p).near s))
    agrees q (Node x t) e s l b m =
        let here = ap is_node (within_is (p s) x (grind arith)) in
        let none = not_in_node s l here in
        let entered = entered_if c p (Node x t) s m in
        let a = active_at c p k z spans s in
        grind arith
    agrees q (Sample r) e s l b m =
        let bounds = seen c p (Sample r) e s b m in
        let same : r ≡ s = grind (arith, nat_tests) in
        let test : is_between z e.near e.far ≡ test_at c p (is_between z) s = sym (ap (λ n. is_between z n ((view c p).far s)) bounds.0 ∙ ap (is_between z e.near) bounds.1) in
        let item : ◌≡◌ {A = Candidate} (record { weight = e.near; slot = r }) (candidate (view c p).near s) =
        ap (λ n. item_of e.near n) same ∙ ap (λ n. item_of n s) (sym bounds.0)
        in
        go (is_between z e.near e.far) (test_at c p (is_between z) s) test item
      where
        item_of : ℕ → ℕ → Candidate
        item_of w n = record { weight = w; slot = n }

        go : (a t : Bool) → a ≡ t → ◌≡◌ {A = Candidate} (record { weight = e.near; slot = r }) (candidate (view c p).near s) → has q (sample_in (Sample r) e.near a) ≡ (t && q (candidate (view c p).near s))
        go true t h i = let same = ap q i in grind arith
        go false t h i = grind arith

    -- so the samples found in the entries are the active ones
    pub holds_active : (es : List Entry) → Shows c p es → (xs : List Candidate) → Queued (candidate_in z) es xs → Holds xs (view c p).near (active (view c p) k) c.slots
    holds_active es shows xs queued q =
        let one =
        sum_ext (λ e. bit (has q (candidate_in z e))) (λ e. cond (has q (candidate_in z e)) (e.count) 0) es
        (λ i d l. let f = shows.faithful i d l in counts_one (get_or es i d).of (get_or es i d).near (is_between z (get_or es i d).near (get_or es i d).far) (get_or es i d).count f.counts f.some)
        in
        queued q
        ∙ one
        ∙ sym (sum_filter (λ e. e.count) (λ e. has q (candidate_in z e)) es)
        ∙ size_is c p es shows (λ e. has q (candidate_in z e)) (λ s. test_at c p (is_between z) s && q (candidate (view c p).near s)) (λ s l i d m h. agrees q (get_or es i d).of (get_or es i d) s l (shows.faithful i d m).bounds h)
        ∙ count_ext (λ s. (view c p).entered s && (test_at c p (is_between z) s && q (candidate (view c p).near s))) (λ s. active (view c p) k s && q (candidate (view c p).near s)) c.slots (λ s l. let a = active_at c p k z spans s in grind arith)
      where
        counts_one : (o : Of) (w : ℕ) (b : Bool) (n : ℕ) → n ≡ count (members c p o) c.slots → 0 < n → bit (has q (sample_in o w b)) ≡ cond (has q (sample_in o w b)) n 0
        counts_one (Node x t) w b n e some = refl
        counts_one (Sample r) w false n e some = refl
        counts_one (Sample r) w true n e some = let one = one_sample (Sample r) r n refl e some in grind arith
