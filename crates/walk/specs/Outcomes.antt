-- What a walk answers, and what that says of the samples held. Assumes nothing.
--   ended o, made o        how it ended, and its steps
--   Promised w j f q i o   a settled or counted fibre is the exact verdict over the samples held: the most common fibre among the k
--                          nearest, the lowest code on ties; a nearby list has k different samples of those held, the i-th at most
--                          num to den times as heavy as the i-th nearest, and its fibre is the most common among them
--   Answers w j f q o x    the walk x has ended so, every step was due, and what it answers is right
use Rattle.std.specs.Prelude.{◌≡◌, ℕ, ◌≤◌}
use Rattle.bounding.specs.Fields.{belongs_in}
use Rattle.field.specs.Fields.{holds}
use Rattle.field.specs.declared.state.Field.{Field}
use Rattle.samples.specs.Verdict.{exact}
use Rattle.walks.specs.Laws.{Near, holders}
use Rattle.walks.specs.Views.{commonest}
use Rattle.walks.specs.Walk as walks
use Rattle.walk.specs.Questions.{Asked}
use Rattle.walk.specs.Stands.{scene_at, view_at, end_at, Stands}
use Rattle.walk.specs.declared.outcome.Outcome.{Outcome}
use Rattle.walk.specs.declared.outcome.Outcome.TheVariants.{Settled, Nearby, Counted}
use Rattle.walk.specs.declared.walk.Walk.{Walk}

abbrev pub ended : Outcome → walks.End
ended (Settled f n) = walks.settled f
ended (Nearby f n) = walks.nearby f
ended (Counted f n) = walks.counted f

abbrev pub made : Outcome → ℕ
made (Settled f n) = n
made (Nearby f n) = n
made (Counted f n) = n

module _ (w j : ℕ → ℕ → ℕ) (f : Field) (q : Asked) where
  abbrev pub Promised : ℕ → Outcome → Type 0
  Promised i (Settled c n) = c ≡ exact w j (holds f) q.reading q.k
  Promised i (Nearby c n) = (c ≡ commonest (view_at w j f q i) q.k) × Near (scene_at w j f q) q.k q.num q.den (walks.walk (scene_at w j f q) q.k i)
  Promised i (Counted c n) = c ≡ exact w j (holds f) q.reading q.k

  pub record Answers (o : Outcome) (x : Walk) : Type 0 where
    pub stands : Stands w j f q x
    pub steps : made o ≡ x.steps
    pub end : ended o ≡ end_at w j f q (made o)
    pub right : Promised (made o) o
    -- no more steps than nodes that hold samples
    pub few : made o ≤ holders (scene_at w j f q) (belongs_in f)
