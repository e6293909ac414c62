-- What is taken from the entries of a table into a heap. Assumes nothing.
--   has q o         the item passes q, if there is one
--   Queued f es xs  the list xs holds the items that f finds in the entries es, and nothing else
use Rattle.std.specs.Prelude.{◌≡◌, Bool, false, List, sum_by, Option, Some, None}
use Rattle.ranking.specs.Counts.{bit}
use Rattle.entries.specs.declared.entry.Entry.{Entry}

module _ {X : Type 0} where
  abbrev pub has : (X → Bool) → Option X → Bool
  has q (Some x) = q x
  has q None = false

  -- whatever test is put to the items, as many pass in the list as among the entries
  abbrev pub Queued : (Entry → Option X) → List Entry → List X → Type 0
  Queued f es xs = (q : X → Bool) → sum_by (λ x. bit (q x)) xs ≡ sum_by (λ e. bit (has q (f e))) es
