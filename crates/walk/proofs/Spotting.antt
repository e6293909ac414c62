-- The entry in which the sample of a slot stands, and whether the sample is inside or active. Assumes nothing.
use Rattle.std.proofs.Common.{◌≡◌, ℕ, ◌<◌, Bool, true, false, ◌&&◌, nat_le, List, length, get_or, Option, Some, None, sym, ap, ◌∙◌, arith}
use Rattle.std.specs.List.{All, Contains}
use Rattle.std.specs.Prelude.{MatchOption}
use Rattle.std.proofs.lemmas.Bool.Decides.{nat_tests}
use Rattle.ranking.specs.Counts.{bit}
use Rattle.walks.specs.Scenes.{Scene}
use Rattle.walks.specs.Views.{View, low, active}
use Rattle.walks.specs.Walk.{Place, within, is_within, view}
use Rattle.walks.proofs.Opened.{within_is, is_within_at}
use Rattle.walks.proofs.Same.{pick_finds}
use Rattle.entries.specs.Shows.{is_alone, members, Shows}
use Rattle.entries.specs.Singles.{reaches}
use Rattle.entries.specs.declared.span.Span.{Span}
use Rattle.entries.specs.declared.entry.Entry.{Entry}
use Rattle.entries.specs.declared.entry.Of.{Of}
use Rattle.entries.specs.declared.entry.Of.TheVariants.{Node, Sample}
use Rattle.entries.proofs.Opened.{entered_if}
use Rattle.entries.proofs.Shown.{seen}
use Rattle.entries.proofs.Summed.{sum_none}
use Rattle.walk.specs.Moments.{stands_by, Spotted, wants, wanted_by}
use Rattle.walk.specs.Places.{Placed}
use Rattle.walk.specs.declared.moment.Wanted.{Wanted}
use Rattle.walk.specs.declared.moment.Wanted.TheVariants.{Active, Listed}
use Rattle.walk.proofs.Whole.{Whole}

module _ (c : Scene) (u : ℕ → ℕ → Bool) (p : ℕ → Place) (whole : Whole c u p) (a : List ℕ) (placed : Placed c u p a) (s : ℕ) (l : s < c.slots) (h : c.held s ≡ true) where
  -- what the code tests of an entry
  tested : (o : Of) → (t : ℕ) × (t < c.slots) × (members c p o t ≡ true) → members c p o s ≡ stands_by o s (get_or a s 0)
  tested (Node x d) has =
      let m = has.2 in
      let there : p has.0 ≡ within x = within_is (p has.0) x (grind arith) in
      let way = placed.on_way s l h in
      let here : get_or a s 0 ≡ x → p s ≡ within x = λ e. whole x has.0 s has.1 l (grind arith) h there (rw e at way) in
      let in_x : get_or a s 0 ≡ x → is_within (p s) x ≡ true = λ e. is_within_at (p s) x (here e) in
      let back : is_within (p s) x ≡ true → get_or a s 0 ≡ x = λ e. placed.stands x s l h (within_is (p s) x e) in
      grind (arith, nat_tests)
  tested (Sample r) has =
      let m = has.2 in
      let at : r ≡ has.0 = grind (arith, nat_tests) in
      let alone : r ≡ s → is_alone (p s) ≡ true = λ e. let f : has.0 ≡ s = sym at ∙ e in let b : is_alone (p has.0) ≡ true = grind arith in rw f at b in
      grind (arith, nat_tests)

  module _ (es : List Entry) (shows : Shows c p es) where
    holds_test : (k : ℕ) (d : Entry) → k < length es → members c p (get_or es k d).of s ≡ stands_by (get_or es k d).of s (get_or a s 0)
    holds_test k d m =
        let f = shows.faithful k d m in
        let one = pick_finds (members c p (get_or es k d).of) c.slots (omega (arith, f.some, f.counts)) in
        tested (get_or es k d).of (_, one.0, one.1)

    pub spotted : (r : Option Entry) → MatchOption r (All (λ e. stands_by e.of s (get_or a s 0) ≡ false) es) (λ e. Contains es e × (stands_by e.of s (get_or a s 0) ≡ true)) → Spotted (view c p) s r
    spotted None none =
        let z = sum_none (λ e. bit (members c p e.of s)) es (λ k d m. ap bit (holds_test k d m ∙ none k d m)) in
        let o = shows.once s l in
        grind arith
    spotted (Some e) found =
        let at = found.0 in
        let of : (get_or es at.0 e).of ≡ e.of = ap (λ (x : Entry). x.of) at.2 in
        let yes : members c p (get_or es at.0 e).of s ≡ true = holds_test at.0 e at.1 ∙ ap (λ o. stands_by o s (get_or a s 0)) of ∙ found.1 in
        let bounds = seen c p (get_or es at.0 e).of (get_or es at.0 e) s (shows.faithful at.0 e at.1).bounds yes in
        (entered_if c p (get_or es at.0 e).of s yes, bounds.0 ∙ ap (λ (x : Entry). x.near) at.2, bounds.1 ∙ ap (λ (x : Entry). x.far) at.2)

-- what is not entered is not wanted
pub unwanted : (x : Wanted) (v : View) (k s : ℕ) → v.entered s ≡ false → wants x v k s ≡ false
unwanted Active v k s e = grind arith
unwanted (Listed l) v k s e = grind arith

-- what is entered is wanted as the code tests it, where all that is entered and not inside is active
pub wanted_is : (x : Wanted) (v : View) (k s : ℕ) (z : Span) (e : Entry) → z.low ≡ low v k → active v k s ≡ (v.entered s && nat_le (low v k) (v.far s)) → Spotted v s (Some e) → wants x v k s ≡ wanted_by x z e s
wanted_is Active v k s z e l a spot = let n = spot.0 in let f = spot.2 in grind (arith, nat_tests)
wanted_is (Listed r) v k s z e l a spot =
    let n = spot.0 in
    let f = spot.2 in
    let c = ap (λ w. reaches r (Some (record { weight = w; slot = s }))) spot.1 in
    grind (arith, nat_tests)
