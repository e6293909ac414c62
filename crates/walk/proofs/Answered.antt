-- What a walk that has ended answers is right. Assumes nothing.
use Rattle.std.proofs.Common.{◌≡◌, ℕ, ◌≤◌, sym, ap, ◌∙◌, subst, arith}
use Rattle.bounding.specs.Fields.{belongs_in}
use Rattle.field.specs.Fields.{holds}
use Rattle.field.specs.declared.state.Field.{Field}
use Rattle.ranking.specs.Counts.{count}
use Rattle.samples.specs.Slots.{held}
use Rattle.walks.specs.Laws.{Right}
use Rattle.walks.specs.Scenes.{Scene}
use Rattle.walks.specs.Walk as walks
use Rattle.walks.proofs.Sound.{walks_sound}
use Rattle.walk.specs.Asked.{asked_of}
use Rattle.walk.specs.Lists.{end_of}
use Rattle.walk.specs.Outcomes.{ended, made, Promised, Answers}
use Rattle.walk.specs.Questions.{Asked}
use Rattle.walk.specs.Stands.{scene_at, end_at, Stands}
use Rattle.walk.specs.declared.outcome.Outcome.{Outcome}
use Rattle.walk.specs.declared.outcome.Outcome.TheVariants.{Settled, Nearby, Counted}
use Rattle.walk.specs.declared.question.Question.{Question}
use Rattle.walk.specs.declared.walk.Walk.{Walk}
use Rattle.walk.proofs.Begun.{few_steps}
use Rattle.walk.proofs.Settling.{asked_some, asked_ratio}
use Rattle.walk.proofs.Stepping.{fair}

module _ (w j : ℕ → ℕ → ℕ) (weigh_rises : (b g h : ℕ) → g ≤ h → w b g ≤ w b h)
    (join_rises : (u v s t : ℕ) → u ≤ s → v ≤ t → j u v ≤ j s t) (d : Field) (question : Question) (many : question.k ≤ count (held (holds d)) 256) where
  abbrev q : Asked
  q = asked_of question

  abbrev c : Scene
  c = scene_at w j d q

  promised : (o : Outcome) (i : ℕ) → Right c q.k q.num q.den (walks.walk c q.k i) (ended o) → Promised w j d q i o
  promised (Settled f n) i r = r
  promised (Nearby f n) i r = r
  promised (Counted f n) i r = r

  module _ (x : Walk) (stands : Stands w j d (asked_of question) x) where
    -- no more steps than nodes
    pub within_nodes : x.steps ≤ c.nodes
    within_nodes = few_steps c (belongs_in d) (fair w j weigh_rises join_rises d q.reading) q.k q.num q.den (asked_some question) many (asked_ratio question) x.steps stands.before

    pub answered : (o : Outcome) → made o ≡ x.steps → ended o ≡ end_of x.end → Answers w j d (asked_of question) o x
    answered o steps end =
        let sound = walks_sound c (belongs_in d) q.k q.num q.den (fair w j weigh_rises join_rises d q.reading) (asked_some question) many (asked_ratio question) in
        let now : ended o ≡ end_at w j d q (made o) = end ∙ stands.at.ends ∙ ap (λ i. end_at w j d q i) (sym steps) in
        record {
          stands = stands;
          steps = steps;
          end = now;
          right = promised o (made o) (subst (λ e. Right c q.k q.num q.den (walks.walk c q.k (made o)) e) (sym now) (sound.right (made o)));
          few = sound.ends (made o) (λ h l. stands.before h (omega arith));
        }
