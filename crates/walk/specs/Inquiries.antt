-- A question put to a field, as a walk sees it. Assumes nothing.
--   scene_in w j z       the samples and the tree, weighed against the reading
--   Told c u y r         r is the entry of node y, if samples are at or below it
--   Single c s e         e is the entry of the sample in slot s
use Rattle.std.specs.Prelude.{◌≡◌, ℕ, ◌<◌, Bool, ◌&&◌, ◌==◌, Option, Some, None, slice_index}
use Rattle.bounding.specs.Fields.{scene_of}
use Rattle.entries.specs.declared.entry.Entry.{Entry}
use Rattle.entries.specs.declared.entry.Of.TheVariants.{Node, Sample}
use Rattle.ranking.specs.Counts.{bit, count}
use Rattle.ranking.specs.Majority.{tally}
use Rattle.walks.specs.Scenes.{Scene}
use Rattle.walk.specs.declared.inquiry.Inquiry.{Inquiry}

module _ {M : Type 0} (w j : M → ℕ → ℕ → ℕ) (z : Inquiry M) where
  abbrev pub scene_in : Scene
  scene_in = scene_of (w z.measure.now) (j z.measure.now) z.field.now z.question.now.reading.values

module _ (c : Scene) where
  pub record Tells (u : ℕ → ℕ → Bool) (y : ℕ) (e : Entry) : Type 0 where
    pub of : e.of ≡ Node y (c.depth y)
    pub near : e.near ≡ c.near y
    pub far : e.far ≡ c.far y
    pub some : 0 < e.count
    pub counts : e.count ≡ count (λ s. c.held s && u y s) c.slots
    pub votes : (f : ℕ) → f < 8 → slice_index e.fibres f ≡ tally (λ s. c.held s && u y s) c.fibre c.slots f

  abbrev pub Told : (ℕ → ℕ → Bool) → ℕ → Option Entry → Type 0
  Told u y None = count (λ s. c.held s && u y s) c.slots ≡ 0
  Told u y (Some e) = Tells u y e

  pub record Single (s : ℕ) (e : Entry) : Type 0 where
    pub of : e.of ≡ Sample s
    pub near : e.near ≡ c.weight s
    pub far : e.far ≡ c.weight s
    pub count : e.count ≡ 1
    pub votes : (f : ℕ) → f < 8 → slice_index e.fibres f ≡ bit (c.fibre s == f)
