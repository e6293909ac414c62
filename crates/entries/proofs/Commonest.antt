-- The votes of what is listed where no node is active: inside samples, and active ones up to the last. Assumes nothing.
use Rattle.std.proofs.Common.{◌≡◌, ℕ, suc, ◌<◌, ◌≤◌, min, Bool, true, false, ◌&&◌, ◌||◌, not, eqb, nat_lt, List, get_or, Option, Some, None, refl, sym, ap, ◌∙◌, ⊎_elim, arith}
use Rattle.std.proofs.lemmas.Bool.{both_ways, cases_Bool, cases_lt}
use Rattle.std.proofs.lemmas.Bool.Decides.{nat_tests}
use Rattle.ranking.specs.Counts.{count}
use Rattle.ranking.specs.Majority.{tally}
use Rattle.ranking.specs.Ranks.{lower, nearer, rank}
use Rattle.ranking.proofs.Counted.{count_ext, count_less, count_some}
use Rattle.ranking.proofs.Ranked.{nearer_strict, by_rank}
use Rattle.samples.specs.Candidates.{candidate, sooner}
use Rattle.samples.specs.declared.candidate.Candidate.{Candidate}
use Rattle.walks.specs.Scenes.{Scene}
use Rattle.walks.specs.Views.{active, left, listed, is_counted}
use Rattle.walks.specs.Walk.{Place, view}
use Rattle.entries.specs.Queues.{has}
use Rattle.entries.specs.Shows.{Shows}
use Rattle.entries.specs.Singles.{candidate_in, reaches, Last}
use Rattle.entries.specs.Spans.{Spans}
use Rattle.entries.specs.Sums.{passes, votes}
use Rattle.entries.specs.declared.entry.Entry.{Entry}
use Rattle.entries.specs.declared.part.Part.TheVariants.{Listed}
use Rattle.entries.specs.declared.span.Span.{Span}
use Rattle.entries.proofs.Lone.{agrees}
use Rattle.entries.proofs.Shown.{seen, votes_are}
use Rattle.entries.proofs.Voted.{is_below, is_between, test_at, inside_at, active_at}

reaches_has : (r o : Option Candidate) → reaches r o ≡ has (λ x. reaches r (Some x)) o
reaches_has None None = refl
reaches_has None (Some x) = refl
reaches_has (Some y) None = refl
reaches_has (Some y) (Some x) = refl

pub joined : (en below between reach i a f : Bool) → (en && below) ≡ i → (en && between) ≡ a → (a ≡ true → reach ≡ f) → (en && (below || (between && reach))) ≡ (i || (a && f))
joined true below between reach i a f x y h = grind arith
joined false below between reach i a f x y h = grind arith

-- of m, the first n up to the one of rank a
beyond : (a b n m : ℕ) → suc a ≡ min n m → b < m → a < b → nat_lt b n ≡ false
beyond a b n m e l h = grind (arith, nat_tests)

up_to : (a b n m : ℕ) → suc a ≡ min n m → b ≤ a → nat_lt b n ≡ true
up_to a b n m e h = grind (arith, nat_tests)

module _ (w : ℕ → ℕ) (p : ℕ → Bool) (n : ℕ) where
  -- a slot is not after the last of the first n where fewer than n come before it
  pub reached_is : (r : Option Candidate) → Last w p (min n (count p 256)) r → (s : ℕ) → s < 256 → p s ≡ true → reaches r (Some (candidate w s)) ≡ nat_lt (rank p (nearer w) 256 s) n
  unfolding nearer
  reached_is None none s l h = let some = count_some p 256 s l h in grind (arith, nat_tests)
  reached_is (Some x) last s l h =
      let o = nearer_strict w in
      let weight : x.weight ≡ w x.slot = ap (λ y. y.weight) last.0 in
      let test : sooner x (candidate w s) ≡ nearer w x.slot s = ap (λ u. lower u x.slot (w s) s) weight in
      let self = o.self x.slot in
      let has = last.2 in
      let after : nearer w x.slot s ≡ true → rank p (nearer w) 256 x.slot < rank p (nearer w) 256 s =
      λ a. count_less (λ u. p u && nearer w u x.slot) (λ u. p u && nearer w u s) 256 x.slot (λ u m b. let t = o.through u x.slot s in grind arith) last.1 (grind arith) (grind arith)
      in
      let before = by_rank (nearer w) o p 256 x.slot s in
      let itself = o.self s in
      let below = count_less (λ t. p t && nearer w t s) p 256 s (λ t m a. grind arith) l (grind arith) h in
      let ranked = last.3 in
      ⊎_elim (λ (yes : nearer w x.slot s ≡ true). ap not (test ∙ yes) ∙ sym (beyond _ _ n (count p 256) ranked below (after yes)))
      (λ (no : nearer w x.slot s ≡ false).
      ap not (test ∙ no)
      ∙ sym (up_to _ _ n (count p 256) ranked
      (⊎_elim (λ (l : rank p (nearer w) 256 x.slot < rank p (nearer w) 256 s). absurd (both_ways (nearer w x.slot s) no (before l))) (λ (l : rank p (nearer w) 256 s ≤ rank p (nearer w) 256 x.slot). l) (cases_lt (rank p (nearer w) 256 x.slot) (rank p (nearer w) 256 s)))))
      (cases_Bool (nearer w x.slot s))

module _ (c : Scene) (p : ℕ → Place) (k : ℕ) (z : Span) (spans : Spans (view c p) k z) (counted : is_counted (view c p) k ≡ true) (whole : c.slots ≡ 256)
    (r : Option Candidate) (last : Last (view c p).near (active (view c p) k) (min (left (view c p) k) (count (active (view c p) k) 256)) r) where
  listed_at : (s : ℕ) → s < c.slots → ((view c p).entered s && (test_at c p (is_below z) s || (test_at c p (is_between z) s && reaches r (Some (candidate (view c p).near s))))) ≡ listed (view c p) k s
  unfolding listed
  listed_at s l =
      let a = inside_at c p k z spans s in
      let b = active_at c p k z spans s in
      let d = reached_is (view c p).near (active (view c p) k) (left (view c p) k) r last s (omega arith) in
      let e = ap (λ n. rank (active (view c p) k) (nearer (view c p).near) n s) whole in
      joined ((view c p).entered s) _ _ _ _ _ _ a b (λ h. d h ∙ ap (λ n. nat_lt n (left (view c p) k)) (sym e))

  module _ (es : List Entry) (shows : Shows c p es) where
    pub listed_votes : (f : ℕ) → f < 8 → votes (passes (Listed z r)) f es ≡ tally (listed (view c p) k) c.fibre c.slots f
    listed_votes f l =
        votes_are c p es shows (passes (Listed z r)) (λ s. test_at c p (is_below z) s || (test_at c p (is_between z) s && reaches r (Some (candidate (view c p).near s))))
        (λ s m i d j h.
        let e = get_or es i d in
        let bounds = (shows.faithful i d j).bounds in
        let far = (seen c p e.of e s bounds h).1 in
        let a = agrees c p k z spans counted (λ x. reaches r (Some x)) e.of e s m bounds h in
        let b = reaches_has r (candidate_in z e) in
        ap (λ n. nat_lt n z.low || reaches r (candidate_in z e)) (sym far) ∙ ap (λ u. test_at c p (is_below z) s || u) (b ∙ a))
        f l
        ∙ count_ext (λ s. ((view c p).entered s && (test_at c p (is_below z) s || (test_at c p (is_between z) s && reaches r (Some (candidate (view c p).near s))))) && eqb (c.fibre s) f) (λ s. listed (view c p) k s && eqb (c.fibre s) f) c.slots (λ s m. ap (λ b. b && eqb (c.fibre s) f) (listed_at s m))
