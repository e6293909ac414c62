-- The k-th smallest bound by halving the values in question. Assumes nothing.
use Rattle.std.proofs.Common.{◌≡◌, ℕ, ◌≤◌, true, nat_lt, nat_le, cond, List, arith}
use Rattle.std.specs.List.{All}
use Rattle.std.proofs.lemmas.Bool.Decides.{nat_tests}
use Rattle.entries.specs.Sums.{size}
use Rattle.entries.specs.declared.entry.Entry.{Entry}
use Rattle.entries.proofs.Summed.{sum_le, sum_none, sum_filter}

module _ (v : Entry → ℕ) (es : List Entry) where
  -- each entry with a bound below 0 counts, and there is none
  pub size_below_0 : size (λ e. nat_lt (v e) 0) es ≡ 0
  size_below_0 =
      let a = sum_filter (λ e. e.count) (λ e. nat_lt (v e) 0) es in
      let b = sum_none (λ e. cond (nat_lt (v e) 0) (e.count) 0) es (λ k d l. grind (arith, nat_tests)) in
      omega arith

  -- and up to the largest all
  pub size_up_to_top : (m : ℕ) → All (λ e. v e ≤ m) es → size (λ _. true) es ≤ size (λ e. nat_le (v e) m) es
  size_up_to_top m a =
      let b = sum_filter (λ e. e.count) (λ _. true) es in
      let c = sum_filter (λ e. e.count) (λ e. nat_le (v e) m) es in
      let d = sum_le (λ e. cond true (e.count) 0) (λ e. cond (nat_le (v e) m) (e.count) 0) es (λ k d l. let h = a k d l in grind (arith, nat_tests)) in
      omega arith
