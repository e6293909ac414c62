use Rattle.std.proofs.Common.{◌≡◌, ℕ, ◌-◌, ◌<◌, ◌≤◌, true}
use Rattle.histories.specs.Queries.{holding, goes_on, stage}
use Rattle.reader.specs.Views.{field_in, steps_in, for_query, Stays}
use Rattle.reader.proofs.query.Query.finish.Given as goal

-- the query went on at each step so far
abbrev pub invariant-loop : goal.invariant-loop
invariant-loop g l =
    record {
      stays : Stays l.initial.self l.self;
      later : steps_in l.initial.self ≤ steps_in l.self;
      going : (h : ℕ) → steps_in l.initial.self ≤ h → h < steps_in l.self → goes_on (for_query (λ w j f a i. stage w j f a h) l.initial.self) ≡ true;
    }

abbrev pub decreases-loop : goal.decreases-loop
decreases-loop g l = holding (field_in l.self.reader) - steps_in l.self
