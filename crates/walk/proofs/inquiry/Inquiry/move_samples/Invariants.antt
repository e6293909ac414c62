use Rattle.std.proofs.Common.{◌≡◌, ℕ, ◌<◌, ◌≤◌, get_or}
use Rattle.field.specs.Fields.{holds, tree}
use Rattle.walk.specs.Places.{moved_place}
use Rattle.walk.proofs.inquiry.Inquiry.move_samples.Given as goal

abbrev pub invariant-loop-slot : goal.invariant-loop-slot
invariant-loop-slot g l = record {
  moved : (s : ℕ) → s < l.slot → get_or l.places s 0 ≡ moved_place (holds l.self.field.now) (tree l.self.field.now) l.number s (get_or l.initial.places s 0);
  rest : (s : ℕ) → l.slot ≤ s → get_or l.places s 0 ≡ get_or l.initial.places s 0;
}
