-- A walk of the program, as the walk over the field of its question. Assumes nothing.
--   undropped c k i    where the samples stand after i steps, before what lies above high is dropped
--   Opening ..         what the opening of a node needs
--   At c u q p x       the walk x is where the samples stand at p
--   scene_at, end_at   the field as the question sees it, and how the walk ends after i steps
--   view_at            what is known then
--   listed_at q i p    the slot at place p of the list then
--   witnessed x k i    what it answers to be at place i of its list
--   Stands w j f q x   x has made as many steps of the walk as it says, and went on before each
use Rattle.std.specs.Prelude.{◌≡◌, ℕ, zero, suc, ◌<◌, Bool, true, cond, ◌&&◌, nat_lt, List, Option, Some, None, slice_index, slice_index_or}
use Rattle.bounding.specs.Fields.{scene_of, belongs_in}
use Rattle.entries.specs.OpenNodes.{stands_for}
use Rattle.entries.specs.Shows.{Shows}
use Rattle.entries.specs.Spans.{Spans}
use Rattle.entries.specs.declared.entry.Entry.{Entry}
use Rattle.field.specs.declared.state.Field.{Field}
use Rattle.walks.specs.Scenes.{Scene}
use Rattle.walks.specs.Views.{View, pick, place_of}
use Rattle.walks.specs.Walk.{Place, within, view, opens, opening, walk, end}
use Rattle.walks.specs.Walk as walks
use Rattle.walk.specs.Lists.{end_of, is_nearby}
use Rattle.walk.specs.Places.{Placed}
use Rattle.walk.specs.Questions.{Asked}
use Rattle.walk.specs.declared.walk.Walk.{Walk}

abbrev pub undropped : Scene → ℕ → ℕ → ℕ → Place
undropped c k zero = λ s. within 0
undropped c k (suc i) = opening c k (walk c k i)

-- node x is opened next, and entry i of the table es stands for it; each slot has its node in a
pub record Opening (c : Scene) (u : ℕ → ℕ → Bool) (k n i x : ℕ) (es : List Entry) (a : List ℕ) : Type 0 where
  pub shows : Shows c (walk c k n) es
  pub placed : Placed c u (walk c k n) a
  pub stands : (d : Entry) → stands_for (slice_index_or es i d).of x ≡ true
  pub opens : opens c k (walk c k n) x ≡ true

pub record At (c : Scene) (u : ℕ → ℕ → Bool) (q : Asked) (p : ℕ → Place) (x : Walk) : Type 0 where
  pub shows : Shows c p x.table.entries.items
  pub placed : Placed c u p x.places
  pub spans : Spans (view c p) q.k x.span
  pub ends : end_of x.end ≡ end c q.k q.num q.den p
  pub list : is_nearby (end_of x.end) ≡ true → (i : ℕ) → i < q.k → slice_index x.list i ≡ pick (place_of (view c p) q.k i) c.slots

module _ (w j : ℕ → ℕ → ℕ) (f : Field) (q : Asked) where
  abbrev pub scene_at : Scene
  scene_at = scene_of w j f q.reading

  abbrev pub view_at : ℕ → View
  view_at i = view scene_at (walk scene_at q.k i)

  abbrev pub end_at : ℕ → walks.End
  end_at i = end scene_at q.k q.num q.den (walk scene_at q.k i)

  abbrev pub listed_at : ℕ → ℕ → ℕ
  listed_at i p = pick (place_of (view_at i) q.k p) 256

  pub record Stands (x : Walk) : Type 0 where
    pub before : (h : ℕ) → h < x.steps → end_at h ≡ walks.going
    pub at : At scene_at (belongs_in f) q (walk scene_at q.k x.steps) x

-- the slot at place i of the list of k places of the walk x, where it has ended nearby
abbrev pub witnessed : Walk → ℕ → ℕ → Option ℕ
witnessed x k i = cond (is_nearby (end_of x.end) && nat_lt i k) (Some (slice_index x.list i)) None
