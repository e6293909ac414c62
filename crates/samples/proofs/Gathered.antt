-- A heap that takes in the candidate of each slot with a sample, slot by slot. Assumes nothing.
use Rattle.std.proofs.Common.{◌≡◌, ℕ, ◌+◌, ◌<◌, ◌≤◌, Bool, true, false, ◌&&◌, List, [], ◌∷◌, ◌++◌, length, Ok, Err, sum_by, Result, sym, ap, ◌∙◌, subst, arith, length-append}
use Rattle.std.specs.List.Sorted.{IsPermutation}
use Rattle.std.proofs.lemmas.List.Sums.{sum_by_push}
use Rattle.std.proofs.lemmas.List.Sorted.{sum_by-IsPermutation, length_permutation}
use Rattle.heap.specs.Contents.{content, room, Pushed}
use Rattle.heap.specs.Order.{ahead, Heaped}
use Rattle.heap.specs.declared.Heap.{Heap}
use Rattle.ranking.specs.Counts.{bit}
use Rattle.ranking.proofs.Counted.{count_zero, count_more}
use Rattle.samples.specs.Candidates.{candidate, Holds, by_weight}
use Rattle.samples.specs.declared.candidate.Candidate.{Candidate}

-- the heap has the candidates of the slots below i that pass p, and room for all
pub record Gathered (h : Heap Candidate) (w : ℕ → ℕ) (p : ℕ → Bool) (i : ℕ) : Type 0 where
  pub holds : Holds (content h) w p i
  pub heaped : Heaped (ahead by_weight) (content h)
  pub wide : 256 ≤ room h
  pub few : length (content h) ≤ i

-- one item more under any test
pub sum_by_added : (f : Candidate → ℕ) (xs ys : List Candidate) (x : Candidate) → IsPermutation (xs ++ x ∷ []) ys → sum_by f ys ≡ sum_by f xs + f x
sum_by_added f xs ys x s = sum_by-IsPermutation f (xs ++ x ∷ []) ys s ∙ sum_by_push f xs x

pub gathered_at : {h k : Heap Candidate} {w : ℕ → ℕ} {p : ℕ → Bool} {i n : ℕ} → k ≡ h → i ≡ n → Gathered h w p i → Gathered k w p n
gathered_at {h} {k} {w} {p} {i} {n} same end g =
    subst (λ (m : ℕ). Gathered k w p m) end (subst (λ (x : Heap Candidate). Gathered x w p i) (sym same) g)

module _ (h : Heap Candidate) (w : ℕ → ℕ) (p : ℕ → Bool) where
  pub gathered_none : content h ≡ [] → 256 ≤ room h → Gathered h w p 0
  gathered_none e wide = record {
    holds = λ q. ap (sum_by (λ c. bit (q c))) e ∙ sym (count_zero (λ s. p s && q (candidate w s)));
    heaped = λ d k l m. absurd (omega (arith, ap length e));
    wide = wide;
    few = omega (arith, ap length e);
  }

  -- slot i passes nothing on
  pub gathered_skip : (i : ℕ) → Gathered h w p i → p i ≡ false → Gathered h w p (i + 1)
  gathered_skip i g e = record {
    holds = λ q. let a = g.holds q in let b = count_more (λ s. p s && q (candidate w s)) i in grind arith;
    heaped = g.heaped;
    wide = g.wide;
    few = omega (arith, g.few);
  }

  -- the candidate of slot i was pushed
  pub gathered_push : (k : Heap Candidate) (r : Result (Unit {0}) Candidate) (i : ℕ) → i < 256 → Gathered h w p i → p i ≡ true → Pushed (content h) (room h) (candidate w i) (content k) r → room k ≡ room h → Heaped (ahead by_weight) (content k) → Gathered k w p (i + 1)
  gathered_push k (Err y) i l g e pushed same heaped = absurd (omega (arith, pushed.0, g.few, g.wide))
  gathered_push k (Ok u) i l g e pushed same heaped =
      let long = length_permutation _ _ pushed.1 in
      let one = length-append (content h) (candidate w i ∷ []) in
      record {
        holds = λ q.
            let a = g.holds q in
            let b = count_more (λ s. p s && q (candidate w s)) i in
            let s = sum_by_added (λ c. bit (q c)) (content h) (content k) (candidate w i) pushed.1 in
            grind arith;
        heaped = heaped;
        wide = omega (arith, g.wide);
        few = omega (arith, g.few);
      }
