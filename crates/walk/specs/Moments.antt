-- A walk of the program at one moment, and the samples that are listed then. Assumes nothing.
--   scene_then, view_then  what the walk goes through, and what is known after i steps
--   Seen w j z i           the moment z is that after i steps
--   stands_by o s y        the sample in slot s, which is in the node y or alone, stands in the entry of o
--   Spotted v s r          r is the entry in which the sample in slot s stands, if it is entered
--   Found w p s r          r is the candidate of slot s by the weights w, if the slot passes p
--   weight_by, wants       the weights of what is wanted, and the slots that are
--   Fills w p code k r     r has the first k of the slots that pass p, in their order, and the most common code among them
use Rattle.std.specs.Prelude.{◌≡◌, ℕ, ◌<◌, Bool, true, false, ◌&&◌, ◌||◌, ◌==◌, not, nat_lt, Option, Some, None, slice_index}
use Rattle.bounding.specs.Fields.{scene_of, belongs_in}
use Rattle.entries.specs.Shows.{Shows}
use Rattle.entries.specs.Singles.{reaches}
use Rattle.entries.specs.Spans.{Spans}
use Rattle.entries.specs.declared.entry.Entry.{Entry}
use Rattle.entries.specs.declared.span.Span.{Span}
use Rattle.entries.specs.declared.entry.Of.{Of}
use Rattle.entries.specs.declared.entry.Of.TheVariants.{Node, Sample}
use Rattle.ranking.specs.Majority.{tally, leader}
use Rattle.ranking.specs.Ranks.{nearer, rank, first}
use Rattle.samples.specs.Candidates.{candidate}
use Rattle.samples.specs.declared.candidate.Candidate.{Candidate}
use Rattle.walks.specs.Scenes.{Scene}
use Rattle.walks.specs.Views.{View, inside, active}
use Rattle.walks.specs.Walk.{view, walk}
use Rattle.walk.specs.Places.{Placed}
use Rattle.walk.specs.declared.moment.Moment.{Moment}
use Rattle.walk.specs.declared.moment.Wanted.{Wanted}
use Rattle.walk.specs.declared.moment.Wanted.TheVariants.{Active, Listed}
use Rattle.walk.specs.declared.nearby.List.{List}

module _ {M : Type 0} (w j : M → ℕ → ℕ → ℕ) (z : Moment M) where
  abbrev pub scene_then : Scene
  scene_then = scene_of (w z.measure.now) (j z.measure.now) z.field.now z.question.now.reading.values

  abbrev pub view_then : ℕ → View
  view_then i = view scene_then (walk scene_then z.question.now.k i)

  pub record Seen (i : ℕ) : Type 0 where
    pub shows : Shows scene_then (walk scene_then z.question.now.k i) z.table.now.entries.items
    pub placed : Placed scene_then (belongs_in z.field.now) (walk scene_then z.question.now.k i) z.places.now
    pub spans : Spans (view_then i) z.question.now.k z.span

abbrev pub stands_by : Of → ℕ → ℕ → Bool
stands_by (Node x t) s y = x == y
stands_by (Sample r) s y = r == s

abbrev pub Spotted : View → ℕ → Option Entry → Type 0
Spotted v s None = v.entered s ≡ false
Spotted v s (Some e) = (v.entered s ≡ true) × (v.near s ≡ e.near) × (v.far s ≡ e.far)

abbrev pub Found : (ℕ → ℕ) → (ℕ → Bool) → ℕ → Option Candidate → Type 0
Found w p s None = p s ≡ false
Found w p s (Some x) = (p s ≡ true) × (x ≡ candidate w s)

abbrev pub weight_by : Wanted → View → ℕ → ℕ
weight_by Active v = v.near
weight_by (Listed l) v = v.weight

abbrev pub wants : Wanted → View → ℕ → ℕ → Bool
wants Active v k s = active v k s
wants (Listed l) v k s = inside v k s || (active v k s && reaches l (Some (candidate v.near s)))

-- the same of the sample in slot s, which stands in the entry e, in the span z
abbrev pub wanted_by : Wanted → Span → Entry → ℕ → Bool
wanted_by Active z e s = not (nat_lt e.far z.low)
wanted_by (Listed l) z e s = nat_lt e.far z.low || reaches l (Some (record { weight = e.near; slot = s }))

module _ (w : ℕ → ℕ) (p : ℕ → Bool) where
  -- slot s is at place i
  pub record Ranked (i s : ℕ) : Type 0 where
    pub slot : s < 256
    pub passes : p s ≡ true
    pub ranked : rank p (nearer w) 256 s ≡ i

  pub record Fills (code : ℕ → ℕ) (k : ℕ) (r : List) : Type 0 where
    pub fibre : r.fibre ≡ leader (tally (first p (nearer w) 256 k) code 256) 8
    pub slots : (i : ℕ) → i < k → Ranked i (slice_index r.slots i)
