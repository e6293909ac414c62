-- A call leads from what agrees with the expected samples to what does. Assumes nothing.
use Rattle.std.proofs.Common.{◌≡◌, ℕ, zero, suc, ◌<◌, ◌≤◌, Bool, true, false, cond, nat_le, List, Ok, Err, Some, None, Result, sym, refl, ap, ◌∙◌, subst, ⊎_elim, arith}
use Rattle.std.proofs.lemmas.Bool.{cases_lt}
use Rattle.std.proofs.lemmas.Bool.Decides.{nat_tests}
use Rattle.samples.specs.Slots.{Table, admit_rule, withdraw_rule}
use Rattle.samples.specs.Verdict.{samples}
use Rattle.samples.specs.declared.refusal.Refusal.{Refusal}
use Rattle.samples.specs.declared.refusal.Refusal.TheVariants.{OutOfRange, TooFewSamples}
use Rattle.field.specs.Fields.{holds, node_count, tree, counts}
use Rattle.field.specs.declared.state.Field.{Field}
use Rattle.fieldfile.specs.Format.{file_of}
use Rattle.records.specs.Checks.{first_fault}
use Rattle.records.specs.Described.{Describes}
use Rattle.records.specs.Rules.{Keeps}
use Rattle.records.specs.Readings.{table_in}
use Rattle.walks.specs.Laws.{Sound, Walks}
use Rattle.walks.specs.Scenes.{Fair}
use Rattle.walks.specs.Walk.{End, going, settled, nearby, counted}
use Rattle.bounding.specs.Fields.{scene_of, belongs_in}
use Rattle.histories.specs.Calls.{State, resting, querying, of_query, AtRest, loads, writes, admits, withdraws, rebuilds, opens, misplaced_at_rest, InQuery, steps, finishes, spans, witnesses, closes, misplaced_in_query, Does}
use Rattle.histories.specs.Expected.{Opening, Expected, at_rest, keeps, noted_by, noted}
use Rattle.fieldfile.specs.Loads.{Loads}
use Rattle.histories.specs.Promise.{Asks, Agrees}
use Rattle.histories.specs.Queries.{holding, goes_on, stage}
use Rattle.walk.specs.Stands.{end_at}
use Rattle.walk.specs.Questions.{Asked, in_range, ask_rule}
use Rattle.fieldfile.specs.declared.faults.Fault.{Fault}
use Rattle.histories.specs.declared.Answer.{Answer}
use Rattle.histories.specs.declared.Call.{Call}
use Rattle.histories.specs.declared.Call.TheVariants.{Load, Write, Admit, Withdraw, Rebuild, Open, Step, Finish, Span, Witness, Close}

-- what is known of files and of fields, from the crates below
pub record Known (w j : ℕ → ℕ → ℕ) : Type 0 where
  pub fair : (f : Field) (r : List ℕ) → Fair (scene_of w j f r) (belongs_in f)
  pub walks : Walks
  pub keeping : (bs : List ℕ) → Keeps bs → first_fault bs ≡ None
  pub written : (f : Field) → Keeps (file_of f) × Describes (file_of f) (holds f) (node_count f) (tree f) (counts f)

-- a question that is taken is the one that was asked, and can be answered
pub record Answerable (t : Table) (o q : Asked) : Type 0 where
  pub same : q ≡ o
  pub some : 0 < q.k
  pub enough : q.k ≤ samples t
  pub ratio : q.den ≤ q.num

pub answerable : (t : Table) (o q : Asked) → Ok q ≡ ask_rule t o → Answerable t o q
answerable t o q = go (in_range o) (nat_le o.k (samples t)) refl refl
  where
    go : (a b : Bool) → in_range o ≡ a → nat_le o.k (samples t) ≡ b → Ok q ≡ cond a (cond b (Ok o) (Err TooFewSamples)) (Err OutOfRange) → Answerable t o q
    go true true r e h =
        let same : q ≡ o = cc in
        subst (Answerable t o) (sym same)
        (record { same = refl; some = grind (arith, nat_tests); enough = grind (arith, nat_tests); ratio = grind (arith, nat_tests) })
    go true false r e h = cc
    go false b r e h = cc

-- a file that keeps the rules replaces the samples, another leaves them
loaded : (bs : List ℕ) (f g : Field) (t : Table) (r : Result (Unit {0}) Fault) → (Keeps bs → first_fault bs ≡ None) → holds f ≡ t → Loads bs f g r → holds g ≡ cond (keeps bs) (table_in bs) t
loaded bs f g t (Ok u) none e h = rw (none h.keeps) h.samples
loaded bs f g t (Err x) none e h = rw h.0.fault (ap holds h.1 ∙ e)

-- what is noted of a call that is out of its place
idle_rests : (t : Table) (c : Call) → of_query c ≡ true → noted_by None t c ≡ at_rest t
idle_rests t (Load bs) e = cc
idle_rests t (Write n) e = cc
idle_rests t (Admit s f vs) e = cc
idle_rests t (Withdraw s) e = cc
idle_rests t Rebuild e = cc
idle_rests t (Open r k n d) e = cc
idle_rests t Step e = refl
idle_rests t Finish e = refl
idle_rests t Span e = refl
idle_rests t (Witness p) e = refl
idle_rests t Close e = refl

query_rests : (o : Opening) (t : Table) (c : Call) → of_query c ≡ false → noted_by (Some o) t c ≡ record { table = t; query = Some o }
query_rests o t (Load bs) e = refl
query_rests o t (Write n) e = refl
query_rests o t (Admit s f vs) e = refl
query_rests o t (Withdraw s) e = refl
query_rests o t Rebuild e = refl
query_rests o t (Open r k n d) e = refl
query_rests o t Step e = cc
query_rests o t Finish e = cc
query_rests o t Span e = cc
query_rests o t (Witness p) e = cc
query_rests o t Close e = cc

-- a walk that goes on has not ended
pub on_going : (e : End) → goes_on (Ok e) ≡ true → e ≡ going
on_going going h = refl
on_going (settled f) h = cc
on_going (nearby f) h = cc
on_going (counted f) h = cc

module _ (w j : ℕ → ℕ → ℕ) (known : Known w j) where
  rest_next : (f : Field) (t : Table) (c : Call) (a : Answer) (u : State) → holds f ≡ t → AtRest w j f c a u → Agrees w j (noted_by None t c) u
  rest_next f t c a u e (loads {bs = bs} {r = r} {g = g} h) = (refl, loaded bs.now f g t r (known.keeping bs.now) e h)
  rest_next f t c a u e (writes h) = (refl, e)
  rest_next f t c a u e (admits {s = s} {c = k} {vs = vs} h r) = (refl, ap (λ p. p.0) h ∙ ap (λ x. (admit_rule x s k vs).0) e)
  rest_next f t c a u e (withdraws {s = s} h r) = (refl, ap (λ p. p.0) h ∙ ap (λ x. (withdraw_rule x s).0) e)
  rest_next f t c a u e (rebuilds h r) = (refl, h ∙ e)
  rest_next f t c a u e (opens {r = r} {k = k} {n = n} {d = d}) =
      let asked : Asked = record { reading = r; k = k; num = n; den = d } in (
        record { table = t; asked = asked },
        record {
          query = refl;
          same = refl;
          samples = e;
          asked = ap (λ x. ask_rule x asked) e;
          going = λ h l. absurd (omega (arith, l));
          few = omega arith;
        },
      )
  rest_next f t c a u e (misplaced_at_rest h) = rw (idle_rests t c h) (refl, e)

  -- a question that was taken can be walked
  pub sound_of : (f : Field) (o q : Asked) → Ok q ≡ ask_rule (holds f) o → Sound (scene_of w j f q.reading) (belongs_in f) q.k q.num q.den
  sound_of f o q e =
      let r = answerable (holds f) o q e in
      known.walks (scene_of w j f q.reading) (belongs_in f) q.k q.num q.den (known.fair f q.reading) r.some r.enough r.ratio

  -- no more steps than nodes that hold samples
  pub few_steps : (f : Field) (o : Asked) (a : Result Asked Refusal) (i : ℕ) → a ≡ ask_rule (holds f) o → ((h : ℕ) → h < i → goes_on (stage w j f a h) ≡ true) → i ≤ holding f
  few_steps f o (Err x) zero e go = omega arith
  few_steps f o (Err x) (suc i) e go = let no : false ≡ true = go 0 (omega arith) in cc
  few_steps f o (Ok q) i e go =
      (sound_of f o q e).ends i (λ h l. on_going (end_at w j f q h) (go h l))

  -- the query that is open, with other steps made
  module _ (e : Expected) (o : Opening) (f : Field) (a : Result Asked Refusal) (i : ℕ) (m : Asks w j e o f a i) where
    walked : (h : ℕ) → ((g : ℕ) → g < h → goes_on (stage w j f a g) ≡ true) → Asks w j (record { table = e.table; query = Some o }) o f a h
    walked h go = record {
      query = refl;
      same = m.same;
      samples = m.samples;
      asked = m.asked;
      going = go;
      few = few_steps f o.asked a h (m.asked ∙ ap (λ t. ask_rule t o.asked) (sym m.samples)) go;
    }

    query_next : (c : Call) (b : Answer) (u : State) → InQuery w j f a i c b u → Agrees w j (noted_by (Some o) e.table c) u
    query_next c b u steps = go (goes_on (stage w j f a i)) refl
      where
        go : (on : Bool) → goes_on (stage w j f a i) ≡ on → Agrees w j (noted_by (Some o) e.table Step) (querying f a (cond on (suc i) i))
        go true h = (o, walked (suc i) (λ g l. ⊎_elim (λ x. m.going g x) (λ x. let s : g ≡ i = omega arith in rw s h) (cases_lt g i)))
        go false h = (o, walked i m.going)
    query_next c b u (finishes {m = n} h) =
        (o, walked n (λ g l. ⊎_elim (λ x. m.going g x) (λ x. h.going g x l) (cases_lt g i)))
    query_next c b u spans = (o, walked i m.going)
    query_next c b u witnesses = (o, walked i m.going)
    query_next c b u closes = (refl, m.samples ∙ sym m.same)
    query_next c b u (misplaced_in_query h) = rw (query_rests o e.table c h) (o, walked i m.going)

  pub agree_next : (e : Expected) (s : State) (c : Call) (b : Answer) (u : State) → Agrees w j e s → Does w j s c b u → Agrees w j (noted e c) u
  agree_next e (resting f) c b u (none, same) d =
      subst (λ q. Agrees w j (noted_by q e.table c) u) (sym none) (rest_next f e.table c b u same d)
  agree_next e (querying f a i) c b u (o, m) d =
      subst (λ q. Agrees w j (noted_by q e.table c) u) (sym m.query) (query_next e o f a i m c b u d)
