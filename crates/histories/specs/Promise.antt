-- What any history of calls on one reader is promised, under every lawful measure. Assumes nothing.
--   Nearest o i s       of the samples held at the opening o, that in slot s is the nearest but i
--   Near o l            the first k of the list l are such samples, in the order of nearness, and each is at most num to den times as
--                       heavy as the nearest one at its place
--   RightAtRest t c a   the answer a to the call c of a reader is right of the samples t
--   RightInQuery o l c a  that to the call c of a query is right of its opening o, and of l where it names a list
--   Answered e l cs as  each call is answered rightly of what was expected at it; a query has one list for all its answers
--   Agrees e s          the state s holds exactly the samples expected, and the query expected
--   History e s cs as t a run by the rules, whose state agrees at each call with what is expected then: so each answer is what the
--                       rules give for the expected samples
--   Promised cs as t    all this of the calls cs on an empty reader, which are answered as and leave t
use Rattle.std.specs.Prelude.{◌≡◌, ℕ, ◌+◌, ◌*◌, ◌<◌, ◌≤◌, true, List, [], ◌∷◌, replicate, take, Err, Some, None, Result, IsOk, IfOk, ◌==◌}
use Rattle.ranking.specs.Counts.{count}
use Rattle.ranking.specs.Majority.{leader}
use Rattle.ranking.specs.Ranks.{nearer, rank}
use Rattle.samples.specs.Slots.{Table, held, fibre_at, admit_rule, withdraw_rule}
use Rattle.samples.specs.Verdict.{weight_at, exact}
use Rattle.samples.specs.declared.refusal.Refusal.{Refusal}
use Rattle.field.specs.Fields.{holds, node_count, tree, counts, Bare}
use Rattle.field.specs.declared.state.Field.{Field}
use Rattle.fieldfile.specs.Format.{file_of}
use Rattle.records.specs.Described.{SameSamples, Describes}
use Rattle.records.specs.Readings.{table_in}
use Rattle.records.specs.Rules.{Keeps}
use Rattle.histories.specs.Calls.{State, resting, querying, field_of, Does}
use Rattle.histories.specs.Expected.{Opening, Expected, nothing, noted, expected}
use Rattle.histories.specs.Queries.{holding, goes_on, stage}
use Rattle.walk.specs.Questions.{Asked, ask_rule}
use Rattle.histories.specs.declared.Answer.{Answer}
use Rattle.histories.specs.declared.Answer.TheVariants.{Loaded, Written, Admitted, Withdrawn, Spanned, Witnessed, Closed}
use Rattle.histories.specs.declared.Call.{Call}
use Rattle.histories.specs.declared.Call.TheVariants.{Load, Write, Admit, Withdraw, Span, Witness, Close}
use Rattle.histories.specs.declared.Outcome.{Outcome}
use Rattle.histories.specs.declared.Outcome.TheVariants.{Settled, Nearby, Counted, Refused, Abandoned}

abbrev pub RightAtRest : Table → Call → Answer → Type 0
RightAtRest t (Load bs) (Loaded r) = (IsOk r → Keeps bs.now) × (Keeps bs.now → IsOk r)
RightAtRest t (Write n) (Written r v) = IfOk r (λ m. Keeps (take m v.items) × SameSamples t (table_in (take m v.items)))
RightAtRest t (Admit s f vs) (Admitted r) = r ≡ (admit_rule t s f vs).1
RightAtRest t (Withdraw s) (Withdrawn r) = r ≡ (withdraw_rule t s).1
RightAtRest t c a = Unit {0}

-- the file of a field keeps the rules, and describes it
abbrev pub Filed : Field → Type 0
Filed f = Keeps (file_of f) × Describes (file_of f) (holds f) (node_count f) (tree f) (counts f)

module _ (w j : ℕ → ℕ → ℕ) where
  -- what the sample in a slot weighs against the reading of the question
  abbrev pub weight : Opening → ℕ → ℕ
  weight o s = weight_at w j o.table o.asked.reading s

  abbrev pub Nearest : Opening → ℕ → ℕ → Type 0
  Nearest o i s = (s < 256) × (held o.table s ≡ true) × (rank (held o.table) (nearer (weight o)) 256 s ≡ i)

  pub record Near (o : Opening) (l : ℕ → ℕ) : Type 0 where
    pub samples : (i : ℕ) → i < o.asked.k → (l i < 256) × (held o.table (l i) ≡ true)
    -- so that none stands there twice
    pub order : (i h : ℕ) → i < h → h < o.asked.k → nearer (weight o) (l i) (l h) ≡ true
    pub ratio : (i s : ℕ) → i < o.asked.k → Nearest o i s → weight o (l i) * o.asked.den ≤ weight o s * o.asked.num

  -- the exact verdict over the samples at the opening
  abbrev pub verdict : Opening → ℕ
  verdict o = exact w j o.table o.asked.reading o.asked.k

  -- the fibre that most of the first k on a list have, the lowest code where several have as many
  abbrev pub commonest : Opening → (ℕ → ℕ) → ℕ
  commonest o l = leader (λ f. count (λ i. fibre_at o.table (l i) == f) o.asked.k) 8

  abbrev pub RightOutcome : Opening → (ℕ → ℕ) → Outcome → Type 0
  RightOutcome o l (Settled f n) = f ≡ verdict o
  RightOutcome o l (Nearby f n) = (f ≡ commonest o l) × Near o l
  RightOutcome o l (Counted f n) = f ≡ verdict o
  RightOutcome o l (Refused e) = ask_rule o.table o.asked ≡ Err e
  RightOutcome o l Abandoned = Unit {0}

  -- the k-th nearest weight lies in the span
  abbrev pub RightInQuery : Opening → (ℕ → ℕ) → Call → Answer → Type 0
  RightInQuery o l Span (Spanned (Some b)) =
      (i s : ℕ) → i + 1 ≡ o.asked.k → Nearest o i s → (b.0 ≤ weight o s) × (weight o s ≤ b.1)
  RightInQuery o l (Witness i) (Witnessed (Some s)) = (s ≡ l i) × (i < o.asked.k) × Near o l
  RightInQuery o l Close (Closed e) = RightOutcome o l e
  RightInQuery o l c a = Unit {0}

  pub data Answered : Expected → (ℕ → ℕ) → List Call → List Answer → Type 0 where
    none : {e : Expected} {l : ℕ → ℕ} → Answered e l [] []
    -- a query that is opened has a list m of its own
    at_rest : {e : Expected} {l m : ℕ → ℕ} {c : Call} {cs : List Call} {a : Answer} {rest : List Answer} →
        e.query ≡ None → RightAtRest e.table c a → Answered (noted e c) m cs rest → Answered e l (c ∷ cs) (a ∷ rest)
    in_query : {e : Expected} {o : Opening} {l : ℕ → ℕ} {c : Call} {cs : List Call} {a : Answer} {rest : List Answer} →
        e.query ≡ Some o → RightInQuery o l c a → Answered (noted e c) l cs rest → Answered e l (c ∷ cs) (a ∷ rest)

  -- after i steps the query with the question q holds the field f
  pub record Asks (e : Expected) (o : Opening) (f : Field) (q : Result Asked Refusal) (i : ℕ) : Type 0 where
    pub query : e.query ≡ Some o
    pub same : e.table ≡ o.table
    pub samples : holds f ≡ o.table
    pub asked : q ≡ ask_rule o.table o.asked
    -- no step was made after the end, and no more than there are nodes with samples
    pub going : (h : ℕ) → h < i → goes_on (stage w j f q h) ≡ true
    pub few : i ≤ holding f

  abbrev pub Agrees : Expected → State → Type 0
  Agrees e (resting f) = (e.query ≡ None) × (holds f ≡ e.table)
  Agrees e (querying f q i) = (o : Opening) × Asks e o f q i

  pub data History : Expected → State → List Call → List Answer → State → Type 0 where
    ends : {e : Expected} {s : State} → Agrees e s → History e s [] [] s
    goes : {e : Expected} {s t u : State} {c : Call} {cs : List Call} {a : Answer} {rest : List Answer} →
        Agrees e s → Does w j s c a t → History (noted e c) t cs rest u → History e s (c ∷ cs) (a ∷ rest) u

  pub record Promised (cs : List Call) (answers : List Answer) (left : State) : Type 0 where
    pub made : Field
    pub empty : (holds made ≡ replicate 256 None) × Bare made
    pub history : History nothing (resting made) cs answers left
    pub answered : Answered nothing (λ i. 0) cs answers
    pub samples : holds (field_of left) ≡ (expected nothing cs).table
    pub file : Filed (field_of left)
