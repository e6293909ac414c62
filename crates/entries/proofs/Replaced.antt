-- A table that loses an entry, or gets one more, shows where the samples stand then. Assumes nothing.
use Rattle.std.proofs.Common.{◌≡◌, ℕ, ◌+◌, ◌-◌, ◌<◌, ◌≤◌, Bool, true, false, ◌&&◌, List, [], ◌∷◌, ◌++◌, length, get_or, sum_by, refl, sym, ap, ◌∙◌, ⊎_elim, arith}
use Rattle.std.specs.List.{swap_remove}
use Rattle.std.proofs.lemmas.Bool.{cases_Bool}
use Rattle.std.proofs.lemmas.List.Elements.{All-push, All-set, All-take}
use Rattle.std.proofs.lemmas.List.Sums.{sum_by-cons, sum_by_push, sum_by-swap_remove}
use Rattle.ranking.specs.Counts.{bit, count}
use Rattle.walks.specs.Scenes.{Scene}
use Rattle.walks.specs.Walk.{Place, dropped, is_kept, view}
use Rattle.entries.specs.Shows.{members, Faithful, Shows}
use Rattle.entries.specs.declared.entry.Entry.{Entry}
use Rattle.entries.proofs.Lessened.{belongs_at, none_dropped}
use Rattle.entries.proofs.Opened.{entered_if}
use Rattle.entries.proofs.Shown.{faithful_at}
use Rattle.entries.proofs.Spanned.{size_all}
use Rattle.entries.proofs.Summed.{sum_at, sum_ext, sum_filter, sum_le}

bit_le : (b : Bool) → bit b ≤ 1
bit_le true = omega arith
bit_le false = omega arith

module _ (c : Scene) where
  module _ (p q : ℕ → Place) (es : List Entry) (shows : Shows c p es) where
    -- entry i was removed, and the last came to its place: its samples stand nowhere, all others where they stood
    module _ (i : ℕ) (d : Entry) (within : i < length es)
        (gone : (s : ℕ) → s < c.slots → members c p (get_or es i d).of s ≡ true → q s ≡ dropped)
        (stays : (s : ℕ) → s < c.slots → members c p (get_or es i d).of s ≡ false → q s ≡ p s) where
      shared : (s : ℕ) → s < c.slots → sum_by (λ y. bit (members c p y.of s)) (swap_remove es i d) + bit (members c p (get_or es i d).of s) ≡ bit ((view c p).entered s)
      shared s l = sum_by-swap_remove (λ y. bit (members c p y.of s)) es i d within ∙ shows.once s l

      apart : (k : ℕ) (u : Entry) (s : ℕ) → k < length (swap_remove es i d) → s < c.slots → members c p (get_or es i d).of s ≡ true → members c p (get_or (swap_remove es i d) k u).of s ≡ false
      apart k u s m l h =
          let all = shared s l in
          let one = ap bit h in
          let here = sum_at (λ y. bit (members c p y.of s)) (swap_remove es i d) k u m in
          let most = bit_le ((view c p).entered s) in
          ⊎_elim (λ t. absurd (omega (arith, ap bit t))) (λ f. f) (cases_Bool (members c p (get_or (swap_remove es i d) k u).of s))

      same_left : (k : ℕ) (u : Entry) (s : ℕ) → k < length (swap_remove es i d) → s < c.slots → members c q (get_or (swap_remove es i d) k u).of s ≡ members c p (get_or (swap_remove es i d) k u).of s
      same_left k u s m l =
          let y = get_or (swap_remove es i d) k u in
          ⊎_elim (λ h. let none = none_dropped y.of q s (gone s l h) in let off = apart k u s m l h in grind arith)
          (λ h. ap (λ b. c.held s && b) (belongs_at y.of q p s (stays s l h)))
          (cases_Bool (members c p (get_or es i d).of s))

      pub lost_entry : Shows c q (swap_remove es i d)
      lost_entry = record {
        faithful = λ k u m.
            faithful_at c p q (get_or (swap_remove es i d) k u) (λ s l. same_left k u s m l)
            (All-take (Faithful c p) (length es - 1) _ (All-set (Faithful c p) es i _ (shows.faithful (length es - 1) d (omega arith)) shows.faithful) k u m);
        once = λ s l.
            let a = sum_ext (λ y. bit (members c q y.of s)) (λ y. bit (members c p y.of s)) (swap_remove es i d) (λ k u m. ap bit (same_left k u s m l)) in
            let b = shared s l in
            ⊎_elim
            (λ h.
            let one = ap bit h in
            let full = ap bit (entered_if c p (get_or es i d).of s h) in
            let none : bit ((view c q).entered s) ≡ 0 = let e = ap is_kept (gone s l h) in grind arith in
            omega arith)
            (λ h.
            let zero = ap bit h in
            let same : bit ((view c q).entered s) ≡ bit ((view c p).entered s) = ap (λ t. bit (c.held s && is_kept t)) (stays s l h) in
            omega arith)
            (cases_Bool (members c p (get_or es i d).of s));
      }

    -- entry e was added: its samples stood nowhere, and all others stay
    module _ (e : Entry) (faithful : Faithful c q e)
        (fresh : (s : ℕ) → s < c.slots → members c q e.of s ≡ true → (view c p).entered s ≡ false)
        (alien : (s k : ℕ) (d : Entry) → s < c.slots → k < length es → members c q e.of s ≡ true → members c q (get_or es k d).of s ≡ false)
        (stays : (s : ℕ) → s < c.slots → members c q e.of s ≡ false → q s ≡ p s) where
      same_so_far : (k : ℕ) (u : Entry) (s : ℕ) → k < length es → s < c.slots → members c q (get_or es k u).of s ≡ members c p (get_or es k u).of s
      same_so_far k u s m l =
          let y = get_or es k u in
          ⊎_elim
          (λ h.
          let none = ap bit (fresh s l h) in
          let all = shows.once s l in
          let here = sum_at (λ x. bit (members c p x.of s)) es k u m in
          let before : members c p y.of s ≡ false = ⊎_elim (λ t. absurd (omega (arith, ap bit t))) (λ f. f) (cases_Bool (members c p y.of s)) in
          alien s k u l m h ∙ sym before)
          (λ h. ap (λ b. c.held s && b) (belongs_at y.of q p s (stays s l h)))
          (cases_Bool (members c q e.of s))

      pub gained_entry : Shows c q (es ++ e ∷ [])
      gained_entry = record {
        faithful = All-push (Faithful c q) es e (λ k u m. faithful_at c p q (get_or es k u) (λ s l. same_so_far k u s m l) (shows.faithful k u m)) faithful;
        once = λ s l.
            let a = sum_ext (λ y. bit (members c q y.of s)) (λ y. bit (members c p y.of s)) es (λ k u m. ap bit (same_so_far k u s m l)) in
            let b = shows.once s l in
            let more = sum_by_push (λ y. bit (members c q y.of s)) es e in
            ⊎_elim
            (λ h.
            let one = ap bit h in
            let none = ap bit (fresh s l h) in
            let full = ap bit (entered_if c q e.of s h) in
            omega arith)
            (λ h.
            let zero = ap bit h in
            let same : bit ((view c q).entered s) ≡ bit ((view c p).entered s) = ap (λ t. bit (c.held s && is_kept t)) (stays s l h) in
            omega arith)
            (cases_Bool (members c q e.of s));
      }

  -- one entry with all the samples that are entered
  pub shows_one : (p : ℕ → Place) (e : Entry) → Faithful c p e → ((s : ℕ) → s < c.slots → members c p e.of s ≡ (view c p).entered s) → Shows c p (e ∷ [])
  shows_one p e f all = record { faithful = All-push (Faithful c p) [] e (λ k u m. absurd (omega arith)) f; once = λ s l. omega (arith, ap bit (all s l)) }

  -- no entry where nothing stands
  pub shows_none : (p : ℕ → Place) → ((s : ℕ) → s < c.slots → (view c p).entered s ≡ false) → Shows c p []
  shows_none p none = record { faithful = λ k u m. absurd (omega arith); once = λ s l. sym (ap bit (none s l)) }

  -- there are never more entries than samples in them
  pub few_entries : (p : ℕ → Place) (es : List Entry) → Shows c p es → length es ≤ count (view c p).entered c.slots
  few_entries p es shows =
      let a = sum_le (λ _. 1) (λ e. e.count) es (λ k d l. (shows.faithful k d l).some) in
      let b = length_as_sum es in
      let filtered = sum_filter (λ e. e.count) (λ _. true) es in
      let all = size_all c p es shows in
      omega arith
    where
      length_as_sum : (xs : List Entry) → sum_by (λ _. 1) xs ≡ length xs
      length_as_sum [] = refl
      length_as_sum (x ∷ xs) = omega (arith, sum_by-cons (λ _. 1) x xs, length_as_sum xs)
