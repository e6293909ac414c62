-- What the slots hold and the table of it: read at one slot, and after one slot is written. Assumes nothing.
use Rattle.std.proofs.Common.{◌≡◌, ℕ, zero, suc, ◌<◌, ◌≤◌, Bool, true, false, cond, ltb, List, [], map, length, get_or, take, set, sum_by, is_some, is_ok, Some, None, Ok, Err, Option, Result, unwrap_or, sym, refl, ap, ◌∙◌, add-one, arith}
use Rattle.std.specs.Option.{option_map}
use Rattle.std.proofs.lemmas.List.{get_or-map, map-set, length-map, take_all, take_more}
use Rattle.std.proofs.lemmas.List.Sums.{sum_by_push}
use mir.Val.{bool_byte}
use Rattle.std.proofs.lemmas.Bool.{true≢false}
use Rattle.ranking.specs.Counts.{bit, count}
use Rattle.ranking.proofs.Counted.{count_ext}
use Rattle.samples.specs.Verdict.{samples}
use Rattle.std.proofs.lemmas.Bool.Decides.{nat_tests}
use Rattle.samples.specs.Slots.{Point, Table, point, table, at, held, fibre_at, values_at, legal, admit_rule, withdraw_rule}
use Rattle.samples.specs.declared.refusal.Refusal.{Refusal}
use Rattle.samples.specs.declared.refusal.Refusal.TheVariants.{OutOfRange, SlotFull, SlotEmpty}
use Rattle.samples.specs.declared.sample.Sample.{Sample}
use Rattle.samples.specs.declared.slots.Slots.{Slots}

pub is_some_mapped : {X Y : Type 0} (f : X → Y) (o : Option X) → is_some (option_map f o) ≡ is_some o
is_some_mapped f None = refl
is_some_mapped f (Some x) = refl

-- there are always 256 slots
pub length_table : (xs : Slots) → length (table xs) ≡ 256
length_table xs = length-map xs.cells (option_map point) ∙ xs.whole

-- the slot s, which the code read as o
pub at_table : (xs : Slots) (s : ℕ) (o : Option Sample) → s < length xs.cells → at (table xs) s ≡ option_map point (get_or xs.cells s o)
at_table xs s o l = get_or-map (option_map point) xs.cells s o None l

pub held_table : (xs : Slots) (s : ℕ) (o : Option Sample) → s < length xs.cells → held (table xs) s ≡ is_some (get_or xs.cells s o)
held_table xs s o l = ap is_some (at_table xs s o l) ∙ is_some_mapped point (get_or xs.cells s o)

-- the slots that hold a sample are the cells that do
counted : {X : Type 0} (f : X → Bool) (xs : List X) (d : X) (n : ℕ) → n ≤ length xs → count (λ s. f (get_or xs s d)) n ≡ sum_by (λ x. bool_byte (f x)) (take n xs)
unfolding count
counted f xs d zero l = refl
counted f xs d (suc n) l =
    let i = counted f xs d n (omega arith) in
    let a = ap (λ m. sum_by (λ x. bool_byte (f x)) (take m xs)) (add-one n) in
    let b = ap (sum_by (λ x. bool_byte (f x))) (take_more xs n d (omega arith)) in
    let c = sum_by_push (λ x. bool_byte (f x)) (take n xs) (get_or xs n d) in
    let e = as_byte (f (get_or xs n d)) in
    omega arith
  where
    as_byte : (b : Bool) → bit b ≡ bool_byte b
    as_byte true = refl
    as_byte false = refl

pub samples_counted : (xs : Slots) → samples (table xs) ≡ sum_by (λ o. bool_byte (is_some o)) xs.cells
samples_counted xs =
    count_ext (held (table xs)) (λ s. is_some (get_or xs.cells s None)) 256 (λ s l. held_table xs s None (omega (arith, xs.whole)))
    ∙ counted is_some xs.cells None 256 (omega (arith, xs.whole))
    ∙ ap (sum_by (λ o. bool_byte (is_some o))) (take_all 256 xs.cells (omega (arith, xs.whole)))

-- the table after slot s was written
pub set_table : (xs : Slots) (s : ℕ) (o : Option Sample) → set (table xs) s (option_map point o) ≡ map (option_map point) (set xs.cells s o)
set_table xs s o = sym (map-set (option_map point) xs.cells s o)

-- a slot that was read as a sample
module _ (t : Table) (s : ℕ) (x : Point) (e : Some x ≡ at t s) where
  pub held_some : held t s ≡ true
  held_some = ap is_some (sym e)

  pub fibre_some : fibre_at t s ≡ x.fibre
  fibre_some = ap (λ o. unwrap_or (option_map (λ y. y.fibre) o) 0) (sym e)

  pub values_some : values_at t s ≡ x.values
  values_some = ap (λ o. unwrap_or (option_map (λ y. y.values) o) []) (sym e)

-- what an admission or a withdrawal that was carried out tells
abbrev Done : Type 0
Done = Table × Result (Unit {0}) Refusal

pub admitted_says : (t u : Table) (s f : ℕ) (vs : List ℕ) → ◌≡◌ {A = Done} (u, Ok tt) (admit_rule t s f vs) → (s < 256) × (f < 8) × (held t s ≡ false) × (u ≡ set t s (Some (record { fibre = f; values = vs })))
admitted_says t u s f vs h = go (legal s f vs) (held t s) refl refl h
  where
    go : (a b : Bool) → legal s f vs ≡ a → held t s ≡ b → ◌≡◌ {A = Done} (u, Ok tt) (cond a (cond b (t, Err SlotFull) (set t s (Some (record { fibre = f; values = vs })), Ok tt)) (t, Err OutOfRange)) → (s < 256) × (f < 8) × (held t s ≡ false) × (u ≡ set t s (Some (record { fibre = f; values = vs })))
    go true false a b e = (grind (arith, nat_tests), grind (arith, nat_tests), b, ap (λ (p : Done). p.0) e)
    go true true a b e = absurd (true≢false (ap (λ (p : Done). is_ok p.1) e))
    go false b a d e = absurd (true≢false (ap (λ (p : Done). is_ok p.1) e))

pub withdrawn_says : (t u : Table) (s : ℕ) → ◌≡◌ {A = Done} (u, Ok tt) (withdraw_rule t s) → (s < 256) × (held t s ≡ true) × (u ≡ set t s None)
withdrawn_says t u s h = go (ltb s 256) (held t s) refl refl h
  where
    go : (a b : Bool) → ltb s 256 ≡ a → held t s ≡ b → ◌≡◌ {A = Done} (u, Ok tt) (cond a (cond b (set t s None, Ok tt) (t, Err SlotEmpty)) (t, Err OutOfRange)) → (s < 256) × (held t s ≡ true) × (u ≡ set t s None)
    go true true a b e = (grind (arith, nat_tests), b, ap (λ (p : Done). p.0) e)
    go true false a b e = absurd (true≢false (ap (λ (p : Done). is_ok p.1) e))
    go false b a d e = absurd (true≢false (ap (λ (p : Done). is_ok p.1) e))
