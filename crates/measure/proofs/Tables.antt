-- A rule of a table, carried from one computed test of the whole table to each of its entries. Assumes nothing.
use Rattle.std.specs.Prelude.{◌≡◌, ℕ, ◌+◌, ◌*◌, ◌<◌, Bool, true, ◌&&◌, List, length, nat_le, nat_lt, slice_index, slice_index_or}
use Rattle.std.specs.List.{list_all, enumerate_from}
use Rattle.std.proofs.Common.{zero-add, ◌∙◌, sym, ap}
use Rattle.std.proofs.lemmas.Bool.{leb-true, ltb-true, and_parts}
use Rattle.std.proofs.lemmas.List.FromFn.{length-enumerate_from, get_or-enumerate_from}
use Rattle.std.proofs.lemmas.List.Sums.{AllPass-from_list_all}
use Rattle.measure.specs.Roots.{root, Roots}
use Rattle.measure.specs.Rooted.{root_only}

-- what the whole table passes, with its entries numbered from 0, each entry passes
pub entry_passes : (f : ℕ × ℕ → Bool) (xs : List ℕ) → list_all f (enumerate_from 0 xs) ≡ true → (k : ℕ) → k < length xs → f (k, slice_index xs k) ≡ true
entry_passes f xs t k h =
    let entry = get_or-enumerate_from 0 xs k (0, 0) h ∙ ap (λ i. (i, slice_index_or xs k 0)) (zero-add k) in
    ap f (sym entry) ∙ AllPass-from_list_all f (enumerate_from 0 xs) t k (0, 0) (rw length-enumerate_from h)

-- the test of entry g, which is t: its square is at most 1024 * g, and that of the next number is more
abbrev pub right : ℕ × ℕ → Bool
right p = nat_le (p.1 * p.1) (1024 * p.0) && nat_lt (1024 * p.0) ((p.1 + 1) * (p.1 + 1))

-- a table of 1,024 that passes the test at each entry is a table of roots
pub roots_from_test : (xs : List ℕ) → list_all right (enumerate_from 0 xs) ≡ true → length xs ≡ 1024 → Roots xs
roots_from_test xs t n = record { at = λ g h. at_entry g (rw n h) }
  where
    at_entry : (g : ℕ) → g < length xs → slice_index xs g ≡ root (1024 * g)
    at_entry g h =
        let x = slice_index_or xs g 0 in
        let ok = and_parts (nat_le (x * x) (1024 * g)) (nat_lt (1024 * g) ((x + 1) * (x + 1))) (entry_passes right xs t g h) in
        root_only x (1024 * g) (leb-true _ _ ok.0) (ltb-true _ _ ok.1)
