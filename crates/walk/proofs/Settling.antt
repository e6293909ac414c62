-- Where a walk stands once what lies above high is dropped. Assumes nothing.
use Rattle.std.proofs.Common.{◌≡◌, ℕ, zero, suc, ◌<◌, ◌≤◌, Bool, List, sym, refl, ◌∙◌, subst, arith}
use Rattle.std.proofs.lemmas.Bool.Decides.{nat_tests}
use Rattle.ranking.specs.Counts.{count}
use Rattle.bounding.specs.Fields.{scene_of, belongs_in}
use Rattle.entries.specs.Shows.{Shows}
use Rattle.entries.specs.Spans.{Spans}
use Rattle.entries.specs.declared.entry.Entry.{Entry}
use Rattle.entries.specs.declared.span.Span.{Span}
use Rattle.field.specs.Fields.{holds}
use Rattle.field.specs.declared.state.Field.{Field}
use Rattle.samples.specs.Slots.{held}
use Rattle.walks.specs.Scenes.{Scene}
use Rattle.walks.specs.Walk.{view, dropping, walk}
use Rattle.walks.proofs.Dropped.{dropping_low, dropping_high}
use Rattle.walks.proofs.Walked.{Walked, root_walked, opening_walked}
use Rattle.walk.specs.Places.{Placed}
use Rattle.walk.specs.Stands.{undropped}
use Rattle.walk.specs.declared.question.Question.{Question}
use Rattle.walk.proofs.Opening.{placed_dropping}
use Rattle.walk.proofs.Stepping.{fair, walked_at}

-- what a question's type says
pub asked_some : (q : Question) → 0 < q.k
asked_some q = let r = q.ranges in grind (arith, nat_tests)

pub asked_most : (q : Question) → q.k ≤ 32
asked_most q = let r = q.ranges in grind (arith, nat_tests)

pub asked_ratio : (q : Question) → q.den ≤ q.num
asked_ratio q = let r = q.ranges in grind (arith, nat_tests)

pub dropped_is : (c : Scene) (k i : ℕ) → dropping c k (undropped c k i) ≡ walk c k i
unfolding walk
dropped_is c k zero = refl
dropped_is c k (suc i) = refl

module _ (w j : ℕ → ℕ → ℕ) (weigh_rises : (b g h : ℕ) → g ≤ h → w b g ≤ w b h)
    (join_rises : (u v s t : ℕ) → u ≤ s → v ≤ t → j u v ≤ j s t) (d : Field) (r : List ℕ) (k : ℕ) (positive : 0 < k) (many : k ≤ count (held (holds d)) 256) where
  abbrev c : Scene
  c = scene_of w j d r

  abbrev u : ℕ → ℕ → Bool
  u = belongs_in d

  pub undropped_walked : (i : ℕ) → Walked (scene_of w j d r) (belongs_in d) k (undropped (scene_of w j d r) k i)
  undropped_walked zero = root_walked c u k (fair w j weigh_rises join_rises d r) positive many
  undropped_walked (suc i) =
      opening_walked c u k (fair w j weigh_rises join_rises d r) (walk c k i) (walked_at w j weigh_rises join_rises d r k positive many i)

  module _ (i : ℕ) where
    pub settled_table : (es : List Entry) → Shows (scene_of w j d r) (dropping (scene_of w j d r) k (undropped (scene_of w j d r) k i)) es → Shows (scene_of w j d r) (walk (scene_of w j d r) k i) es
    settled_table es = subst (λ p. Shows c p es) (dropped_is c k i)

    pub settled_places : (a : List ℕ) → Placed (scene_of w j d r) (belongs_in d) (undropped (scene_of w j d r) k i) a → Placed (scene_of w j d r) (belongs_in d) (walk (scene_of w j d r) k i) a
    settled_places a placed = subst (λ p. Placed c u p a) (dropped_is c k i) (placed_dropping c u k (undropped c k i) a placed)

    pub settled_span : (z : Span) → Spans (view (scene_of w j d r) (undropped (scene_of w j d r) k i)) k z → Spans (view (scene_of w j d r) (walk (scene_of w j d r) k i)) k z
    settled_span z spans =
        let f = fair w j weigh_rises join_rises d r in
        subst (λ p. Spans (view c p) k z) (dropped_is c k i)
        (spans.0 ∙ sym (dropping_low c k u f positive (undropped c k i) (undropped_walked i)), spans.1 ∙ sym (dropping_high c k u f positive (undropped c k i) (undropped_walked i)))
