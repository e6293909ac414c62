-- What a table shows where samples stand elsewhere, or one entry is there more. Assumes nothing.
use Rattle.std.proofs.Common.{◌≡◌, ℕ, ◌<◌, true, false, List, [], ◌∷◌, ◌++◌, get_or, sym, ap, ⊎_elim, arith}
use Rattle.std.proofs.lemmas.Bool.{cases_Bool}
use Rattle.ranking.specs.Counts.{bit}
use Rattle.walks.specs.Scenes.{Scene}
use Rattle.walks.specs.Walk.{Place, is_kept}
use Rattle.walks.proofs.Same.{pick_finds}
use Rattle.entries.specs.Shows.{belongs, members, Faithful, Shows}
use Rattle.entries.specs.declared.entry.Entry.{Entry}
use Rattle.entries.specs.declared.entry.Of.{Of}
use Rattle.entries.proofs.Lessened.{belongs_at}
use Rattle.entries.proofs.Replaced.{gained_entry}
use Rattle.entries.proofs.Shown.{faithful_at}
use Rattle.entries.proofs.Summed.{sum_ext}

module _ (c : Scene) where
  -- a table speaks of samples held alone
  pub shows_ext : (p q : ℕ → Place) (es : List Entry) → ((s : ℕ) → s < c.slots → c.held s ≡ true → p s ≡ q s) → Shows c p es → Shows c q es
  shows_ext p q es same shows =
      let alike : (o : Of) (s : ℕ) → s < c.slots → members c q o s ≡ members c p o s = λ o s l. let b : c.held s ≡ true → belongs o q s ≡ belongs o p s = λ h. belongs_at o q p s (sym (same s l h)) in grind arith in
      record {
        faithful = λ k d l. faithful_at c p q (get_or es k d) (alike (get_or es k d).of) (shows.faithful k d l);
        once = λ s l.
            let kept : c.held s ≡ true → is_kept (q s) ≡ is_kept (p s) = λ h. ap is_kept (sym (same s l h)) in
            let o = shows.once s l in
            let a = sum_ext (λ e. bit (members c q e.of s)) (λ e. bit (members c p e.of s)) es (λ k d m. ap bit (alike (get_or es k d).of s l)) in
            grind arith;
      }

  -- an entry has a sample
  inhabited : (p : ℕ → Place) (e : Entry) → Faithful c p e → (t : ℕ) × (t < c.slots) × (members c p e.of t ≡ true)
  inhabited p e f = let a = pick_finds (members c p e.of) c.slots (omega (arith, f.some, f.counts)) in (_, a.0, a.1)

  -- one entry more, where no sample of it comes to what a sample stood in before
  pub added : (p q : ℕ → Place) (es : List Entry) → Shows c p es → (e : Entry) → Faithful c q e → ((s : ℕ) → s < c.slots → members c q e.of s ≡ true → is_kept (p s) ≡ false) →
      ((s : ℕ) → s < c.slots → members c q e.of s ≡ false → q s ≡ p s) → ((o : Of) (s t : ℕ) → s < c.slots → t < c.slots → members c p o t ≡ true → members c q o s ≡ true → members c q e.of s ≡ true → ⊥) → Shows c q (es ++ e ∷ [])
  added p q es shows e faithful free stays apart =
      gained_entry c p q es shows e faithful (λ s l m. let a = free s l m in grind arith)
      (λ s k d l m h.
      let has = inhabited p (get_or es k d) (shows.faithful k d m) in
      ⊎_elim (λ n. absurd (apart (get_or es k d).of s has.0 l has.1 has.2 n h)) (λ n. n) (cases_Bool (members c q (get_or es k d).of s)))
      stays
