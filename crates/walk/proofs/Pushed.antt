-- What a push leaves: the entry of a node or of a sample came to the table, which has room for it. Assumes nothing.
use Rattle.std.proofs.Common.{◌≡◌, ℕ, ◌+◌, ◌<◌, ◌↔◌, Bool, true, false, ◌&&◌, List, [], ◌∷◌, ◌++◌, length, sym, refl, ap, ◌∙◌, subst, arith, Result, Ok, Err}
use Rattle.std.specs.Prelude.{IsOk, OnOk}
use Rattle.ranking.proofs.Counted.{count_le, count_less}
use Rattle.walks.specs.Scenes.{Scene}
use Rattle.walks.specs.Walk.{Place, is_within, is_kept, view}
use Rattle.walks.proofs.Same.{pick_finds}
use Rattle.entries.specs.Shows.{Shows}
use Rattle.entries.specs.declared.entry.Entry.{Entry}
use Rattle.entries.specs.declared.entry.Of.{Of}
use Rattle.entries.specs.declared.entry.Of.TheVariants.{Node, Sample}
use Rattle.entries.proofs.Replaced.{few_entries}
use Rattle.walk.specs.Inquiries.{Tells, Single}
use Rattle.walk.specs.Places.{entering, singled, Vacant}
use Rattle.walk.proofs.Entered.{entered_node, single_node, single_nowhere}

-- a table in which a sample does not stand has room
has_room : (c : Scene) (p : ℕ → Place) (es : List Entry) → Shows c p es → (s : ℕ) → s < c.slots → (view c p).entered s ≡ false → length es < c.slots
has_room c p es shows s l out =
    let few = few_entries c p es shows in
    let less = count_less (view c p).entered (λ s. true) c.slots s (λ t m h. refl) l out refl in
    let most = count_le (λ s. true) c.slots in
    omega arith

was_ok : {A B : Type 0} {P Q : Type 0} (r : Result A B) → IsOk r ↔ Q → OnOk r P → Q → P
was_ok (Ok a) i o q = o
was_ok (Err b) i o q = let e : false ≡ true = i.1 q in absurd (cc)

module _ (c : Scene) (es new : List Entry) (e : Entry) {A B : Type 0} (r : Result A B)
    (fits : IsOk r ↔ (length es < c.slots)) (pushed : OnOk r (new ≡ es ++ e ∷ [])) where
  pub pushed_node : (u : ℕ → ℕ → Bool) (p : ℕ → Place) → Shows c p es → (y : ℕ) → Vacant c u y p → Tells c u y e → Shows c (entering c u y p) new
  pushed_node u p shows y vacant tells =
      let one = pick_finds (λ s. c.held s && u y s) c.slots (omega (arith, tells.some, tells.counts)) in
      let held = one.1 in
      let free = vacant.free _ one.0 (grind arith) (grind arith) in
      let is = was_ok r fits pushed (has_room c p es shows _ one.0 (grind arith)) in
      let made = entered_node c u p es shows y vacant (c.depth y) e.near e.far e.count e.fibres refl tells.near tells.far tells.some tells.counts tells.votes in
      let same : ◌≡◌ {A = Entry} (record { of = Node y (c.depth y); near = e.near; far = e.far; count = e.count; fibres = e.fibres }) e = ap (λ (o : Of). record { of = o; near = e.near; far = e.far; count = e.count; fibres = e.fibres }) (sym tells.of) in
      subst (Shows c (entering c u y p)) (ap (λ z. es ++ z ∷ []) same ∙ sym is) made

  pub pushed_single : (x : ℕ) (p : ℕ → Place) (n : ℕ) → n < c.slots → Shows c (singled c n x p) es → c.held n ≡ true → is_within (p n) x ≡ true → Single c n e → Shows c (singled c (n + 1) x p) new
  pushed_single x p n l shows held stood single =
      let out = ap is_kept (single_nowhere c x p n es shows l held stood) in
      let is = was_ok r fits pushed (has_room c (singled c n x p) es shows n l (grind arith)) in
      let made = single_node c x p n es shows l held stood (c.weight n) e.count e.fibres refl single.count single.votes in
      let same : ◌≡◌ {A = Entry} (record { of = Sample n; near = c.weight n; far = c.weight n; count = e.count; fibres = e.fibres }) e = (λ i. record { of = sym single.of i; near = sym single.near i; far = sym single.far i; count = e.count; fibres = e.fibres }) in
      subst (Shows c (singled c (n + 1) x p)) (ap (λ z. es ++ z ∷ []) same ∙ sym is) made
