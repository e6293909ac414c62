-- What the walk gives is right of the opening. Assumes nothing.
use Rattle.std.proofs.Common.{◌≡◌, ℕ, suc, ◌+◌, ◌<◌, ◌≤◌, Bool, true, false, ◌&&◌, cond, eqb, ltb, Ok, Some, None, sym, refl, ap, ◌∙◌, subst, arith}
use Rattle.std.proofs.lemmas.Bool.Decides.{nat_tests}
use Rattle.ranking.specs.Ranks.{nearer, rank}
use Rattle.ranking.proofs.Counted.{count_some}
use Rattle.ranking.proofs.Leading.{leader_same}
use Rattle.ranking.proofs.Ranked.{Strict, nearer_strict, rank_one}
use Rattle.samples.specs.Slots.{held, fibre_at}
use Rattle.field.specs.Fields.{holds}
use Rattle.field.specs.declared.state.Field.{Field}
use Rattle.walks.specs.Laws as laws
use Rattle.walks.specs.Laws.{Near, Sound, Walks}
use Rattle.walks.specs.Scenes.{Scene}
use Rattle.walks.specs.Views.{pick, kth, low, high, listed, place_of}
use Rattle.walks.specs.Views as views
use Rattle.walks.specs.Walk.{walk, End, going, settled, nearby, counted}
use Rattle.walks.proofs.Same.{pick_finds}
use Rattle.bounding.specs.Fields.{scene_of, belongs_in}
use Rattle.histories.specs.Expected.{Opening}
use Rattle.histories.specs.Promise.{weight, Nearest, commonest, RightOutcome, RightInQuery}
use Rattle.histories.specs.Promise as promise
use Rattle.histories.specs.Queries.{witness, outcome}
use Rattle.walk.specs.Lists.{is_nearby}
use Rattle.walk.specs.Stands.{view_at, end_at, listed_at}
use Rattle.walk.specs.Questions.{Asked}
use Rattle.histories.specs.declared.Answer.TheVariants.{Witnessed}
use Rattle.histories.specs.declared.Call.TheVariants.{Witness}
use Rattle.histories.proofs.Places.{place, place_is, place_order, by_place}

-- the value of the slot that k - 1 others come before is the k-th
kth_is : (p : ℕ → Bool) (v : ℕ → ℕ) (n k s h : ℕ) → s < n → p s ≡ true → rank p (nearer v) n s ≡ h → h + 1 ≡ k → kth p v n k ≡ v s
unfolding kth
kth_is p v n k s h l m e f =
    let found = pick_finds (λ t. p t && eqb (suc (rank p (nearer v) n t)) k) n (count_some _ n s l (grind (arith, nat_tests))) in
    let passes = found.1 in
    let r = pick (λ t. p t && eqb (suc (rank p (nearer v) n t)) k) n in
    let ranked : suc (rank p (nearer v) n r) ≡ k = grind (arith, nat_tests) in
    ap v (rank_one (nearer v) (nearer_strict v) p n r s found.0 l (grind arith) m (omega arith))

module _ (w j : ℕ → ℕ → ℕ) (f : Field) (q : Asked) (s : Sound (scene_of w j f q.reading) (belongs_in f) q.k q.num q.den) where
  abbrev opening : Opening
  opening = record { table = holds f; asked = q }

  module _ (i : ℕ) where
    abbrev c : Scene
    c = scene_of w j f q.reading

    abbrev on_list : ℕ → Bool
    on_list = listed (view_at w j f q i) q.k

    abbrev o : Strict (nearer (weight w j opening))
    o = nearer_strict (weight w j opening)

    module _ (near : Near c q.k q.num q.den (walk c q.k i)) where
      abbrev by : ℕ → ℕ
      by = place (nearer (weight w j opening)) o on_list 256 q.k near.many

      listed_by : listed_at w j f q i ≡ by
      unfolding place_of
      listed_by = refl

      by_listed : promise.Near w j opening by
      by_listed = record {
        samples = λ h l. let r = place_is (nearer (weight w j opening)) o on_list 256 q.k near.many h l in (r.0, near.samples (by h) r.0 r.1);
        order = place_order (nearer (weight w j opening)) o on_list 256 q.k near.many;
        ratio = λ h t l m.
            let r = place_is (nearer (weight w j opening)) o on_list 256 q.k near.many h l in
            near.ratio (by h) t r.0 m.0 r.1 m.1 (r.2 ∙ sym m.2);
      }

      commonest_by : views.commonest (view_at w j f q i) q.k ≡ commonest w j opening by
      commonest_by =
          leader_same _ _ 8 (λ g l. sym (by_place (nearer (weight w j opening)) o on_list 256 q.k near.many (λ t. eqb (fibre_at (holds f) t) g)))

    ends_right : (e : End) → laws.Right c q.k q.num q.den (walk c q.k i) e → RightOutcome w j opening (listed_at w j f q i) (outcome (Ok e) i)
    ends_right going r = tt
    ends_right (settled g) r = r
    ends_right (nearby g) r =
        subst (λ l. (g ≡ commonest w j opening l) × promise.Near w j opening l) (sym (listed_by r.1)) (r.0 ∙ commonest_by r.1, by_listed r.1)
    ends_right (counted g) r = r

    pub outcome_right : RightOutcome w j opening (listed_at w j f q i) (outcome (Ok (end_at w j f q i)) i)
    outcome_right = ends_right (end_at w j f q i) (s.right i)

    pub span_right : (h t : ℕ) → h + 1 ≡ q.k → Nearest w j opening h t → (low (view_at w j f q i) q.k ≤ weight w j opening t) × (weight w j opening t ≤ high (view_at w j f q i) q.k)
    span_right h t e m =
        let b = s.between i in
        let same = kth_is (held (holds f)) (weight w j opening) 256 q.k t h m.0 m.1 m.2 e in
        (omega (arith, b.0, same), omega (arith, b.1, same))

    pub witness_right : (h : ℕ) → RightInQuery w j opening (listed_at w j f q i) (Witness h) (Witnessed (witness w j f (Ok q) i h))
    witness_right h = go (end_at w j f q i) (s.right i) (ltb h q.k) refl
      where
        go : (e : End) → laws.Right c q.k q.num q.den (walk c q.k i) e → (b : Bool) → ltb h q.k ≡ b → RightInQuery w j opening (listed_at w j f q i) (Witness h) (Witnessed (cond (is_nearby e && b) (Some (listed_at w j f q i h)) None))
        go going r b l = tt
        go (settled g) r b l = tt
        go (nearby g) r true l = (refl, grind (arith, nat_tests), (ends_right (nearby g) r).1)
        go (nearby g) r false l = tt
        go (counted g) r b l = tt
