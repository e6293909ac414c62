-- Votes counted while the nearest are picked: after i turns those of the first i. Assumes nothing.
use Rattle.std.proofs.Common.{◌≡◌, ℕ, ◌+◌, ◌<◌, Bool, ◌&&◌, eqb, List, length, get_or, set, sym, ap, ◌∙◌, ⊎_elim, arith, length-set}
use Rattle.std.proofs.lemmas.List.{get_or-set_same, get_or-set_other}
use Rattle.std.proofs.lemmas.Bool.{cases_eq, eq-eqb, ne_eqb}
use Rattle.std.proofs.lemmas.Bool.Decides.{nat_tests}
use Rattle.heap.specs.Order.{ahead, Heaped}
use Rattle.ranking.specs.Counts.{bit}
use Rattle.ranking.specs.Majority.{tally}
use Rattle.ranking.specs.Ranks.{nearer, first}
use Rattle.ranking.proofs.Counted.{count_none}
use Rattle.ranking.proofs.Picked.{first_picked}
use Rattle.ranking.proofs.Ranked.{nearer_strict}
use Rattle.samples.specs.Candidates.{Holds, by_weight}
use Rattle.samples.specs.declared.candidate.Candidate.{Candidate}
use Rattle.samples.proofs.Picking.{Picked, remaining, picking_begins}

-- the items xs remain after i turns, and vs are the votes so far
pub record Voting (w : ℕ → ℕ) (p : ℕ → Bool) (code : ℕ → ℕ) (i : ℕ) (xs : List Candidate) (vs : List ℕ) : Type 0 where
  pub heaped : Heaped (ahead by_weight) xs
  pub holds : Holds xs w (remaining w p i) 256
  pub size : length vs ≡ 8
  pub tallied : (f : ℕ) → f < 8 → get_or vs f 0 ≡ tally (first p (nearer w) 256 i) code 256 f

module _ (w : ℕ → ℕ) (p : ℕ → Bool) (code : ℕ → ℕ) where
  pub voting_begins : (xs : List Candidate) (vs : List ℕ) → Holds xs w p 256 → Heaped (ahead by_weight) xs → length vs ≡ 8 → ((f : ℕ) → f < 8 → get_or vs f 0 ≡ 0) → Voting w p code 0 xs vs
  voting_begins xs vs holds heaped size zeros = record {
    heaped = heaped;
    holds = picking_begins w p xs holds;
    size = size;
    tallied = λ f l. zeros f l ∙ sym (count_none (λ s. first p (nearer w) 256 0 s && eqb (code s) f) 256 (λ s m. grind (arith, nat_tests)));
  }

  -- one vote for the code of the slot that was picked
  pub voting_steps : (i : ℕ) (xs ys : List Candidate) (vs : List ℕ) (s : ℕ) → Voting w p code i xs vs → Picked w p i ys s → Heaped (ahead by_weight) ys → code s < 8 → Voting w p code (i + 1) ys (set vs (code s) (get_or vs (code s) 0 + 1))
  voting_steps i xs ys vs s v picked heaped l = record {
    heaped = heaped;
    holds = picked.others;
    size = length-set vs (code s) _ ∙ v.size;
    tallied = λ f b.
        let more = first_picked (nearer w) (nearer_strict w) p 256 i s picked.slot picked.held picked.ranked (λ t. eqb (code t) f) in
        let was = v.tallied f b in
        ⊎_elim
        (λ (e : f ≡ code s).
        let one : bit (eqb (code s) f) ≡ 1 = ap bit (eq-eqb _ _ (sym e)) in
        let new = get_or-set_same vs (code s) (get_or vs (code s) 0 + 1) 0 (omega (arith, v.size)) in
        let here = ap (λ n. get_or (set vs (code s) (get_or vs (code s) 0 + 1)) n 0) e in
        let there = ap (λ n. get_or vs n 0) e in
        omega arith)
        (λ ne.
        let none : bit (eqb (code s) f) ≡ 0 = ap bit (ne_eqb (code s) f (λ e. ne (sym e))) in
        let old = get_or-set_other vs (code s) f (get_or vs (code s) 0 + 1) 0 ne in
        omega arith)
        (cases_eq f (code s));
  }
