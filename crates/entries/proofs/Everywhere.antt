-- A test that all entries pass is one that all samples pass which are entered. Assumes nothing.
use Rattle.std.proofs.Common.{◌≡◌, ℕ, zero, suc, ◌<◌, Bool, true, ◌&&◌, ◌||◌, not, eqb, List, [], ◌∷◌, refl, sym, ap, ◌∙◌, arith}
use Rattle.std.specs.List.{All, list_all}
use Rattle.std.proofs.lemmas.Bool.Decides.{nat_tests}
use Rattle.std.proofs.lemmas.List.Elements.{All-head, All-tail}
use Rattle.ranking.specs.Counts.{count}
use Rattle.ranking.proofs.Counted.{count_ext}
use Rattle.trees.specs.Boxes.{every}
use Rattle.walks.specs.Scenes.{Scene}
use Rattle.walks.specs.Walk.{Place, view}
use Rattle.entries.specs.Shows.{members, Shows}
use Rattle.entries.specs.Sums.{size}
use Rattle.entries.specs.declared.entry.Entry.{Entry}
use Rattle.entries.proofs.Shown.{size_is}
use Rattle.entries.proofs.Summed.{sum_filter-cons}

-- no sample stands in an entry that fails
all_pass : (q : Entry → Bool) (es : List Entry) → All (λ e. 0 < e.count) es → list_all q es ≡ eqb (size (λ e. not (q e)) es) 0
all_pass q [] a = refl
all_pass q (e ∷ es) a =
    let some : 0 < e.count = All-head (λ x. 0 < x.count) e es a in
    let i = all_pass q es (All-tail (λ x. 0 < x.count) e es a) in
    let more = sum_filter-cons (λ x. x.count) (λ x. not (q x)) e es in
    grind (arith, nat_tests)

every_counted : (r : ℕ → Bool) (n : ℕ) → every r n ≡ eqb (count (λ s. not (r s)) n) 0
unfolding count
every_counted r zero = refl
every_counted r (suc n) = let i = every_counted r n in grind (arith, nat_tests)

module _ (c : Scene) (p : ℕ → Place) (es : List Entry) (shows : Shows c p es) (q : Entry → Bool) (qs : ℕ → Bool)
    (agree : (s : ℕ) → s < c.slots → All (λ e. members c p e.of s ≡ true → q e ≡ qs s) es) where
  pub everywhere : list_all q es ≡ every (λ s. not ((view c p).entered s) || qs s) c.slots
  everywhere =
      let bad = size_is c p es shows (λ e. not (q e)) (λ s. not (qs s)) (λ s l k d m h. ap not (agree s l k d m h)) in
      let same = count_ext (λ s. (view c p).entered s && not (qs s)) (λ s. not (not ((view c p).entered s) || qs s)) c.slots (λ s l. grind arith) in
      all_pass q es (λ k d l. (shows.faithful k d l).some) ∙ ap (λ n. eqb n 0) (bad ∙ same) ∙ sym (every_counted (λ s. not ((view c p).entered s) || qs s) c.slots)
