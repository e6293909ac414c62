-- From the rules follows the promise, call by call. Assumes nothing.
use Rattle.std.proofs.Common.{◌≡◌, ℕ, Bool, true, false, cond, ◌&&◌, ltb, List, ◌∷◌, replicate, length, take, drop, IsOk, IfOk, Ok, Err, Some, None, Result, sym, refl, ap, ◌∙◌, subst, ⊎_elim, arith}
use Rattle.std.proofs.lemmas.Bool.{cases_lt}
use Rattle.std.proofs.Math.Seq.{take-append_seam}
use Rattle.samples.specs.Slots.{Table}
use Rattle.samples.specs.declared.refusal.Refusal.{Refusal}
use Rattle.field.specs.Fields.{holds, Bare}
use Rattle.field.specs.declared.state.Field.{Field}
use Rattle.fieldfile.specs.Format.{file_of, Writes}
use Rattle.records.specs.Readings.{table_in}
use Rattle.records.specs.Described.{SameSamples}
use Rattle.records.specs.Rules.{Keeps}
use Rattle.walks.specs.Laws.{Sound}
use Rattle.walks.specs.Walk.{End, going}
use Rattle.bounding.specs.Fields.{scene_of, belongs_in}
use Rattle.histories.specs.Calls.{State, resting, querying, field_of, AtRest, loads, writes, admits, withdraws, rebuilds, opens, misplaced_at_rest, InQuery, steps, finishes, spans, witnesses, closes, misplaced_in_query, Run, ended, then}
use Rattle.histories.specs.Expected.{Opening, Expected, nothing, noted, expected}
use Rattle.fieldfile.specs.Loads.{Loads}
use Rattle.histories.specs.Promise.{RightAtRest, RightOutcome, RightInQuery, Answered, none, at_rest, in_query, Asks, Agrees, History, ends, goes, Promised}
use Rattle.histories.specs.Queries.{goes_on, stage, outcome}
use Rattle.walk.specs.Lists.{is_nearby}
use Rattle.walk.specs.Stands.{end_at, listed_at}
use Rattle.walk.specs.Questions.{Asked, ask_rule}
use Rattle.fieldfile.specs.declared.faults.Fault.{Fault}
use Rattle.histories.specs.declared.Answer.{Answer}
use Rattle.histories.specs.declared.Answer.TheVariants.{Witnessed, Misplaced}
use Rattle.histories.specs.declared.Call.{Call}
use Rattle.histories.specs.declared.Call.TheVariants.{Load, Write, Admit, Withdraw, Rebuild, Open, Step, Finish, Span, Witness, Close}
use Rattle.histories.proofs.Agreed.{Known, answerable, sound_of, on_going, agree_next}
use Rattle.histories.proofs.Answered.{outcome_right, span_right, witness_right}

module _ (w j : ℕ → ℕ → ℕ) where
  abbrev opening : Field → Asked → Opening
  opening f q = record { table = holds f; asked = q }

  misplaced_right : (o : Opening) (l : ℕ → ℕ) (c : Call) → RightInQuery w j o l c Misplaced
  misplaced_right o l (Load bs) = tt
  misplaced_right o l (Write n) = tt
  misplaced_right o l (Admit s f vs) = tt
  misplaced_right o l (Withdraw s) = tt
  misplaced_right o l Rebuild = tt
  misplaced_right o l (Open r k n d) = tt
  misplaced_right o l Step = tt
  misplaced_right o l Finish = tt
  misplaced_right o l Span = tt
  misplaced_right o l (Witness p) = tt
  misplaced_right o l Close = tt

  idle_right : (t : Table) (c : Call) → RightAtRest t c Misplaced
  idle_right t (Load bs) = tt
  idle_right t (Write n) = tt
  idle_right t (Admit s f vs) = tt
  idle_right t (Withdraw s) = tt
  idle_right t Rebuild = tt
  idle_right t (Open r k n d) = tt
  idle_right t Step = tt
  idle_right t Finish = tt
  idle_right t Span = tt
  idle_right t (Witness p) = tt
  idle_right t Close = tt

  -- the list that a query has where its walk has ended
  abbrev list_of : Field → Result Asked Refusal → ℕ → ℕ → ℕ
  list_of f (Ok q) i = listed_at w j f q i
  list_of f (Err x) i = λ h. 0

  -- l is that list, if the walk has ended
  abbrev Fits : Field → Result Asked Refusal → ℕ → (ℕ → ℕ) → Type 0
  Fits f a i l = goes_on (stage w j f a i) ≡ false → l ≡ list_of f a i

  module _ (f : Field) (q : Asked) (s : Sound (scene_of w j f q.reading) (belongs_in f) q.k q.num q.den) (i : ℕ) (l : ℕ → ℕ) (fits : Fits f (Ok q) i l) where
    -- what is right of the list at the end is right of l, since before the end no list is named
    by_end : (P : End → (ℕ → ℕ) → Type 0) → P going l → P (end_at w j f q i) (listed_at w j f q i) → P (end_at w j f q i) l
    by_end P early late = go (goes_on (Ok (end_at w j f q i))) refl
      where
        go : (b : Bool) → goes_on (Ok (end_at w j f q i)) ≡ b → P (end_at w j f q i) l
        go true e = subst (λ x. P x l) (sym (on_going (end_at w j f q i) e)) early
        go false e = subst (P (end_at w j f q i)) (sym (fits e)) late

    pub taken_right : (c : Call) (b : Answer) (u : State) → InQuery w j f (Ok q) i c b u → RightInQuery w j (opening f q) l c b
    taken_right c b u steps = tt
    taken_right c b u (finishes h) = tt
    taken_right c b u spans = span_right w j f q s i
    taken_right c b u (witnesses {p = h}) =
        by_end (λ e m. RightInQuery w j (opening f q) m (Witness h) (Witnessed (cond (is_nearby e && ltb h q.k) (Some (listed_at w j f q i h)) None))) tt (witness_right w j f q s i h)
    taken_right c b u closes = by_end (λ e m. RightOutcome w j (opening f q) m (outcome (Ok e) i)) tt (outcome_right w j f q s i)
    taken_right c b u (misplaced_in_query h) = misplaced_right (opening f q) l c

  refused_right : (o : Opening) (f : Field) (x : Refusal) (i : ℕ) (l : ℕ → ℕ) → ask_rule o.table o.asked ≡ Err x → (c : Call) (b : Answer) (u : State) → InQuery w j f (Err x) i c b u → RightInQuery w j o l c b
  refused_right o f x i l e c b u steps = tt
  refused_right o f x i l e c b u (finishes h) = tt
  refused_right o f x i l e c b u spans = tt
  refused_right o f x i l e c b u witnesses = tt
  refused_right o f x i l e c b u closes = e
  refused_right o f x i l e c b u (misplaced_in_query h) = misplaced_right o l c

  module _ (known : Known w j) where
    pub loaded_right : (bs : List ℕ) (f g : Field) (r : Result (Unit {0}) Fault) → Loads bs f g r → (IsOk r → Keeps bs) × (Keeps bs → IsOk r)
    loaded_right bs f g (Ok u) h = (λ x. h.keeps, λ k. refl)
    loaded_right bs f g (Err x) h = (λ x. let no : false ≡ true = x in cc, λ k. absurd (h.0.broken k))

    written_right : (f : Field) (before after : List ℕ) (r : Result ℕ Refusal) → Writes (file_of f) before after r → IfOk r (λ m. Keeps (take m after) × SameSamples (holds f) (table_in (take m after)))
    written_right f before after (Ok m) h =
        let is : take m after ≡ file_of f = rw (h.2, h.0) (take-append_seam (file_of f) (drop (length (file_of f)) before)) in
        let k = known.written f in
        (subst Keeps (sym is) k.0, subst (λ bs. SameSamples (holds f) (table_in bs)) (sym is) k.1.samples)
    written_right f before after (Err x) h = tt

    rest_right : (f : Field) (c : Call) (b : Answer) (u : State) → AtRest w j f c b u → RightAtRest (holds f) c b
    rest_right f c b u (loads {bs = bs} {r = r} {g = g} h) = loaded_right bs.now f g r h
    rest_right f c b u (writes {n = n} {r = r} {v = v} h) = written_right f (replicate n 0) v.items r h
    rest_right f c b u (admits h r) = ap (λ p. p.1) h
    rest_right f c b u (withdraws h r) = ap (λ p. p.1) h
    rest_right f c b u (rebuilds h r) = tt
    rest_right f c b u opens = tt
    rest_right f c b u (misplaced_at_rest h) = idle_right (holds f) c

    query_right : (e : Expected) (o : Opening) (f : Field) (a : Result Asked Refusal) (i : ℕ) (l : ℕ → ℕ) (c : Call) (b : Answer) (u : State) → Asks w j e o f a i → Fits f a i l → InQuery w j f a i c b u → RightInQuery w j o l c b
    query_right e o f (Err x) i l c b u m fits d = refused_right o f x i l (sym m.asked) c b u d
    query_right e o f (Ok q) i l c b u m fits d =
        let same = (answerable o.table o.asked q m.asked).same in
        let is : opening f q ≡ o = λ h. record { table = m.samples h; asked = same h } in
        let s = sound_of w j known f o.asked q (m.asked ∙ ap (λ t. ask_rule t o.asked) (sym m.samples)) in
        subst (λ p. RightInQuery w j p l c b) is (taken_right f q s i l fits c b u d)

    -- what the answers from a state on are: of a query whose walk has ended, right of the list that it ended with
    abbrev Said : Expected → State → List Call → List Answer → Type 0
    Said e (resting f) cs as' = (l : ℕ → ℕ) → Answered w j e l cs as'
    Said e (querying f a i) cs as' = (l : ℕ → ℕ) × Fits f a i l × Answered w j e l cs as'

    some_list : (e : Expected) (s : State) (cs : List Call) (as' : List Answer) → Said e s cs as' → (l : ℕ → ℕ) × Answered w j e l cs as'
    some_list e (resting f) cs as' k = (λ h. 0, k (λ h. 0))
    some_list e (querying f a i) cs as' (l, fits, k) = (l, k)

    query_said : (e : Expected) (o : Opening) (f : Field) (a : Result Asked Refusal) (i : ℕ) (c : Call) (b : Answer) (t : State) (cs : List Call) (as' : List Answer) → Asks w j e o f a i → InQuery w j f a i c b t → Said (noted e c) t cs as' → Said e (querying f a i) (c ∷ cs) (b ∷ as')
    query_said e o f a i c b t cs as' m steps (l, fits, k) =
        let early : Fits f a i l = λ x. fits (rw x x) ∙ rw x refl in
        (l, early, in_query m.query (query_right e o f a i l c b t m early steps) k)
    query_said e o f a i c b t cs as' m (finishes {m = n} h) (l, fits, k) =
        let early : Fits f a i l = λ x. ⊎_elim (λ y. let no : false ≡ true = sym x ∙ h.going i (omega arith) y in cc) (λ y. let le = h.later in let s : i ≡ n = omega arith in rw s (fits h.ended)) (cases_lt i n) in
        (l, early, in_query m.query (query_right e o f a i l c b t m early (finishes h)) k)
    query_said e o f a i c b t cs as' m spans (l, fits, k) =
        (l, fits, in_query m.query (query_right e o f a i l c b t m fits spans) k)
    query_said e o f a i c b t cs as' m witnesses (l, fits, k) =
        (l, fits, in_query m.query (query_right e o f a i l c b t m fits witnesses) k)
    query_said e o f a i c b t cs as' m closes k =
        (list_of f a i, λ x. refl, in_query m.query (query_right e o f a i (list_of f a i) c b t m (λ x. refl) closes) (k (list_of f a i)))
    query_said e o f a i c b t cs as' m (misplaced_in_query h) (l, fits, k) =
        (l, fits, in_query m.query (query_right e o f a i l c b t m fits (misplaced_in_query h)) k)

    said : (e : Expected) (s : State) (cs : List Call) (as' : List Answer) (u : State) → Agrees w j e s → Run w j s cs as' u → Said e s cs as'
    said e (resting f) cs as' u m ended = λ l. none
    said e (querying f a i) cs as' u m ended = (list_of f a i, λ x. refl, none)
    said e (resting f) cs as' u m (then {t = t} {c = c} {cs = ds} {a = b} {rest = bs} d r) =
        let k = some_list (noted e c) t ds bs (said (noted e c) t ds bs u (agree_next w j known e (resting f) c b t m d) r) in
        λ l. at_rest m.0 (subst (λ t. RightAtRest t c b) m.1 (rest_right f c b t d)) k.1
    said e (querying f a i) cs as' u (o, m) (then {t = t} {c = c} {cs = ds} {a = b} {rest = bs} d r) =
        query_said e o f a i c b t ds bs m d (said (noted e c) t ds bs u (agree_next w j known e (querying f a i) c b t (o, m) d) r)

    run_history : (e : Expected) (s : State) (cs : List Call) (as' : List Answer) (u : State) → Agrees w j e s → Run w j s cs as' u → History w j e s cs as' u
    run_history e s cs as' u m ended = ends m
    run_history e s cs as' u m (then {t = t} {c = c} {cs = ds} {a = b} {rest = bs} d r) =
        goes m d (run_history (noted e c) t ds bs u (agree_next w j known e s c b t m d) r)

    samples_agree : (e : Expected) (s : State) → Agrees w j e s → holds (field_of s) ≡ e.table
    samples_agree e (resting f) m = m.1
    samples_agree e (querying f a i) (o, m) = m.samples ∙ sym m.same

    samples_left : (e : Expected) (s : State) (cs : List Call) (as' : List Answer) (u : State) → Agrees w j e s → Run w j s cs as' u → holds (field_of u) ≡ (expected e cs).table
    samples_left e s cs as' u m ended = samples_agree e s m
    samples_left e s cs as' u m (then {t = t} {c = c} {cs = ds} {a = b} {rest = bs} d r) =
        samples_left (noted e c) t ds bs u (agree_next w j known e s c b t m d) r

    -- the law: a run of any calls from an empty reader on keeps the promise
    pub promised : (made : Field) (cs : List Call) (as' : List Answer) (left : State) → holds made ≡ replicate 256 None → Bare made → Run w j (resting made) cs as' left → Promised w j cs as' left
    promised made cs as' left empty bare run =
        let start : Agrees w j nothing (resting made) = (refl, empty) in
        record {
          made = made;
          empty = (empty, bare);
          history = run_history nothing (resting made) cs as' left start run;
          answered = said nothing (resting made) cs as' left start run (λ h. 0);
          samples = samples_left nothing (resting made) cs as' left start run;
          file = known.written (field_of left);
        }
