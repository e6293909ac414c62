-- What the type of a query says: its question can be answered, and its walk stands over the field that it holds. Assumes nothing.
--   steps_of a i      how many steps a query has made: none if its question was refused
--   Walked w j f a x  what is said of the walk x of the question a over the field f
use Rattle.std.proofs.Props.{props}
use Rattle.std.specs.Prelude.{◌≡◌, ℕ, ◌≤◌, Ok, Err, Result}
use Rattle.samples.specs.Verdict.{samples}
use Rattle.samples.specs.declared.refusal.Refusal.{Refusal}
use Rattle.field.specs.Fields.{holds}
use Rattle.field.specs.declared.state.Field.{Field}
use Rattle.entries.specs.Shows.{Bounded}
use Rattle.entries.specs.declared.entry.Entry.{Entry}
use Rattle.entries.specs.declared.entry.Of.{Of}
use Rattle.entries.specs.declared.entry.Of.TheVariants.{Node, Sample}
use Rattle.walks.specs.Scenes.{Scene}
use Rattle.walk.specs.Asked.{asked_of}
use Rattle.walk.specs.Stands.{Stands}
use Rattle.walk.specs.declared.question.Question.{Question}
use Rattle.walk.specs.declared.walk.Walk.{Walk}

abbrev pub steps_of : {T : Type 0} → Result T Refusal → ℕ → ℕ
steps_of (Ok q) i = i
steps_of (Err e) i = 0

pub record Walked (w j : ℕ → ℕ → ℕ) (f : Field) (a : Result Question Refusal) (x : Walk) : Type 0 where
  pub enough : (q : Question) → a ≡ Ok q → q.k ≤ samples (holds f)
  pub stands : (q : Question) → a ≡ Ok q → Stands w j f (asked_of q) x

-- what is said of a walk is said in one way: the bounds of an entry are told by cases
bounded_prop : (c : Scene) (o : Of) (e : Entry) → IsProp (Bounded c o e)
bounded_prop c (Node x t) e = hlevel props
bounded_prop c (Sample s) e = hlevel props

pub walked_prop : (w j : ℕ → ℕ → ℕ) (f : Field) (a : Result Question Refusal) (x : Walk) → IsProp (Walked w j f a x)
walked_prop w j f a x = hlevel (props, bounded_prop)
