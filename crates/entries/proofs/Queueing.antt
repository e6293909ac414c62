-- A heap that takes in what is found in the entries of a table, entry by entry. Assumes nothing.
use Rattle.std.proofs.Common.{◌≡◌, ℕ, ◌+◌, ◌<◌, ◌≤◌, Bool, List, [], ◌∷◌, ◌++◌, length, get_or, take, sum_by, Option, Some, None, Ok, Err, Result, ap, arith, length-append}
use Rattle.std.proofs.lemmas.List.Sums.{sum_by_more, sum_by_push}
use Rattle.std.proofs.lemmas.List.Sorted.{sum_by-IsPermutation, length_permutation}
use Rattle.std.specs.declared.cmp.Ordering.{Ordering}
use Rattle.heap.specs.Contents.{content, room, Pushed}
use Rattle.heap.specs.Order.{ahead, Heaped}
use Rattle.heap.specs.declared.Heap.{Heap}
use Rattle.ranking.specs.Counts.{bit}
use Rattle.entries.specs.Queues.{has, Queued}
use Rattle.entries.specs.declared.entry.Entry.{Entry}
use Rattle.entries.specs.declared.entry.Of.TheVariants.{Node}

-- what a list of entries has past its end
abbrev pub blank : Entry
blank = record { of = Node 0 0; near = 0; far = 0; count = 0; fibres = [] }

module _ {X : Type 0} (R : X → X → Ordering) (f : Entry → Option X) (es : List Entry) where
  -- the heap has what is found in the first i entries, and room for one of each
  abbrev pub Queueing : Heap X → ℕ → Type 0
  Queueing h i = (256 ≤ room h) × (length (content h) ≤ i) × Queued f (take i es) (content h) × Heaped (ahead R) (content h)

  module _ (h : Heap X) (i : ℕ) (d : Entry) (within : i < length es) (was : Queueing h i) where
    queue_more : (q : X → Bool) → sum_by (λ e. bit (has q (f e))) (take (i + 1) es) ≡ sum_by (λ e. bit (has q (f e))) (take i es) + bit (has q (f (get_or es i d)))
    queue_more q = sum_by_more (λ e. bit (has q (f e))) es i d within

    -- there is none in the entry
    pub queue_skip : f (get_or es i d) ≡ None → Queueing h (i + 1)
    queue_skip none =
        (was.0, omega (arith, was.1), (λ q. let a = was.2 q in let b = queue_more q in let e = ap (λ o. bit (has q o)) none in omega arith), was.3)

    pub queue_push : (g : Heap X) (n : X) (r : Result (Unit {0}) X) → i < 256 → f (get_or es i d) ≡ Some n → Pushed (content h) (room h) n (content g) r → room g ≡ room h → Heaped (ahead R) (content g) → Queueing g (i + 1)
    queue_push g n (Err y) few some pushed same heaped = absurd (omega (arith, pushed.0, was.0, was.1))
    queue_push g n (Ok u) few some pushed same heaped =
        let long = length_permutation _ _ pushed.1 in
        let one = length-append (content h) (n ∷ []) in (
          omega (arith, was.0),
          omega (arith, was.1),
          (λ q.
              let t : X → ℕ = λ x. bit (q x) in
              let a = was.2 q in
              let b = queue_more q in
              let e = ap (λ o. bit (has q o)) some in
              let m = sum_by-IsPermutation t (content h ++ n ∷ []) (content g) pushed.1 in
              let s = sum_by_push t (content h) n in
              omega arith),
          heaped,
        )
