-- What a walk over a field goes through, for one reading. Assumes nothing.
--   near_at, far_at    the bounds of node x: those of its box
--   scene w j t m node r   the samples of the table t and the m nodes of a tree, weighed against the reading r
--   belongs node t x s     the sample in slot s belongs at or below node x
--   scene_of w j f r   the samples and the tree of a field
use Rattle.std.specs.Prelude.{ℕ, Bool, List}
use Rattle.boxes.specs.Views.{entries}
use Rattle.samples.specs.Slots.{Table, held, fibre_at, values_at}
use Rattle.samples.specs.Verdict.{weight_at}
use Rattle.trees.specs.Lawful.{is_leaf}
use Rattle.trees.specs.Trees.{Node, choice, under}
use Rattle.field.specs.Fields.{holds, node_count, tree}
use Rattle.field.specs.declared.state.Field.{Field}
use Rattle.walks.specs.Scenes.{Scene}
use Rattle.bounding.specs.Distances.{near_of, far_of}

module _ (w j : ℕ → ℕ → ℕ) where
  -- a later, sharper bound changes these two alone
  abbrev pub near_at : (ℕ → Node) → List ℕ → ℕ → ℕ
  near_at node r x = near_of w j (node x).box r

  abbrev pub far_at : (ℕ → Node) → List ℕ → ℕ → ℕ
  far_at node r x = far_of w j (node x).box r

  abbrev pub scene : Table → ℕ → (ℕ → Node) → List ℕ → Scene
  scene t m node r = record {
    slots = 256;
    held = held t;
    fibre = fibre_at t;
    weight = weight_at w j t r;
    nodes = m;
    leaf = λ x. is_leaf (node x).kind;
    depth = λ x. (node x).box.depth;
    near = near_at node r;
    far = far_at node r;
    child = λ x s. choice node x (entries (values_at t s));
  }

  abbrev pub scene_of : Field → List ℕ → Scene
  scene_of f r = scene (holds f) (node_count f) (tree f) r

abbrev pub belongs : (ℕ → Node) → Table → ℕ → ℕ → Bool
belongs node t x s = under node (entries (values_at t s)) x

abbrev pub belongs_in : Field → ℕ → ℕ → Bool
belongs_in f x s = belongs (tree f) (holds f) x s
