-- Every sample held in the slots is in range, so that the box of all values has them all. Assumes nothing.
use Rattle.std.proofs.Common.{◌≡◌, ℕ, zero, suc, ◌<◌, ◌≤◌, true, List, [], ◌∷◌, map, get_or, is_some, Some, None, Option, MatchOption, unwrap_or, Bool, false, ◌+◌, ◌++◌, Bor, sym, ap, ◌∙◌, subst, ⊎_elim, add-one, arith}
use Rattle.std.specs.Option.{option_map}
use Rattle.std.proofs.lemmas.Bool.{false≢true, cases_eq}
use Rattle.boxes.specs.Views.{entries}
use Rattle.samples.specs.Ranges.{below}
use Rattle.samples.specs.Slots.{Point, Table, point, table, at, held}
use Rattle.samples.proofs.Tabled.{held_some, values_some}
use Rattle.samples.specs.declared.sample.Sample.{Sample}
use Rattle.samples.specs.declared.slots.Slots.{Slots}
use Rattle.trees.specs.Boxes.{Box, covers, everything}
use Rattle.trees.specs.Drawing.{lodged}
use Rattle.trees.specs.Samples.{Valid}
use Rattle.trees.proofs.Drawn.{everything_covers}
use Rattle.drawing.specs.Held.{samples_of, held_in}
use Rattle.drawing.specs.Runs.{Holds}
use Rattle.drawing.proofs.Running.{holds_skip, holds_push}

below_at : (n : ℕ) (l : List ℕ) (b : ℕ) → 0 < n → below n l ≡ true → entries l b < n
below_at n [] b h e = h
below_at n (x ∷ xs) zero h e = grind arith
below_at n (x ∷ xs) (suc b) h e = below_at n xs b h (grind arith)

-- what a slot holds is in range
abbrev Ranged : Option Point → Type 0
Ranged o = is_some o ≡ true → (unwrap_or (option_map (λ x. x.fibre) o) 0 < 8) × ((b : ℕ) → b < 8 → entries (unwrap_or (option_map (λ x. x.values) o) []) b < 1024)

ranged_cell : (o : Option Sample) → Ranged (option_map point o)
ranged_cell None h = absurd (false≢true h)
ranged_cell (Some x) h = (x.coded, λ b l. below_at 1024 x.reading.values b (omega arith) x.reading.within)

ranged_at : (cs : List (Option Sample)) (s : ℕ) → Ranged (get_or (map (option_map point) cs) s None)
ranged_at [] s h = absurd (false≢true h)
ranged_at (o ∷ cs) zero h = ranged_cell o h
ranged_at (o ∷ cs) (suc s) h = ranged_at cs s h

pub valid_samples : (xs : Slots) → Valid (held_in xs)
valid_samples xs s l h = ranged_at xs.cells s h

pub lodged_everything : (xs : Slots) (s : ℕ) → s < 256 → lodged (held_in xs) everything s ≡ held (table xs) s
unfolding lodged
lodged_everything xs s l =
    let c : held (table xs) s ≡ true → covers everything ((held_in xs).value s) ≡ true = λ h. everything_covers (held_in xs) (valid_samples xs) s l h in
    grind arith

-- the test that is put to what a slot holds
pub lodged_by : (t : Table) (s : ℕ) (k : Box) (o : Option (Bor Sample)) (b : Bool) (P : Bor Sample → Type 0) → option_map (λ x. point x.now) o ≡ at t s
    → MatchOption o (b ≡ false) P → ((x : Bor Sample) → P x → b ≡ covers k (entries x.now.reading.values)) → b ≡ lodged (samples_of t) k s
unfolding lodged
lodged_by t s k None b P e h q = let n : held t s ≡ false = ap is_some (sym e) in grind arith
lodged_by t s k (Some x) b P e h q =
    let y : held t s ≡ true = held_some t s (point x.now) e in
    let v = values_some t s (point x.now) e in
    let c = q x h in
    let z = ap (λ (l : List ℕ). covers k (entries l)) v in
    grind arith

-- slots that hold nothing are not gathered, and one that holds a sample is
pub gathered_skips : (xs : Slots) (s i : ℕ) (r : List ℕ) → s ≤ i → i ≤ 256 → ((k : ℕ) → s ≤ k → k < i → held (table xs) k ≡ false) → Holds (lodged (held_in xs) everything) s r → Holds (lodged (held_in xs) everything) i r
gathered_skips xs s zero r le lim none h = let e : s ≡ zero = omega arith in subst (λ n. Holds (lodged (held_in xs) everything) n r) e h
gathered_skips xs s (suc i) r le lim none h =
    ⊎_elim (λ (e : s ≡ suc i). subst (λ n. Holds (lodged (held_in xs) everything) n r) e h)
    (λ ne.
    let before = gathered_skips xs s i r (omega arith) (omega arith) (λ k a b. none k a (omega arith)) h in
    let out = lodged_everything xs i (omega arith) ∙ none i (omega arith) (omega arith) in
    subst (λ n. Holds (lodged (held_in xs) everything) n r) (add-one i) (holds_skip (lodged (held_in xs) everything) i r out before))
    (cases_eq s (suc i))

pub gathered_push : (xs : Slots) (i : ℕ) (r : List ℕ) → i < 256 → held (table xs) i ≡ true → Holds (lodged (held_in xs) everything) i r → Holds (lodged (held_in xs) everything) (i + 1) (r ++ i ∷ [])
gathered_push xs i r l full h = holds_push (lodged (held_in xs) everything) i r (lodged_everything xs i l ∙ full) h
