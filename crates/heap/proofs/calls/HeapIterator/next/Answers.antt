use Rattle.std.proofs.Common.{[], ◌∷◌, length, Some, None, Option, arith, rules, length-append}
use Rattle.std.specs.Iterator.{MakesProgress, at_most}
use Rattle.std.proofs.lemmas.List.Sorted.{length_permutation}
use Rattle.heap.specs.Contents.{content, Popped}
use Rattle.heap.specs.declared.Heap.{Heap}
use Rattle.heap.proofs.calls.HeapIterator.next.Goals as goal

-- a heap that gave an item has one less
fewer : {X : Type 0} (h k : Heap X) (r : Option X) → Popped (content h) (content k) r → MakesProgress (λ _. Unit {0}) (λ h. at_most (length (content h))) h r k
fewer h k None popped = record { on = λ _. tt; keeps = tt; rests = λ f. f }
fewer h k (Some x) popped =
    let same = length_permutation _ _ popped in
    let one = length-append (content k) (x ∷ []) in
    record { on = λ f. (tt, search rules, omega arith); keeps = tt; rests = λ f. tt }

pub returns-clause-goes : goal.returns-clause-goes
returns-clause-goes g c = fewer c.args.self.now c.pop.new.self c.pop.result c.pop.ensures.cases
