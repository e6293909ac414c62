-- What the private steps that draw nodes ask, and what they draw. Assumes nothing.
--   over b           the samples that a builder draws over
--   nodes_of b       the nodes that it has drawn
--   Ready b k xs     xs is a run of the box k, and there is room for its nodes
--   Follows b c      c is the builder b with other nodes
--   Built ...        the nodes of the plan p for the box k have come behind those that there were
--   Draws b k c      those of the tree over the samples in the box k have come
use Rattle.std.specs.Prelude.{◌≡◌, ℕ, ◌+◌, ◌≤◌, List, length, take}
use Rattle.boxes.specs.Views.{box_of, node_at, counts_at}
use Rattle.boxes.specs.declared.bounds.Bounds.{Bounds}
use Rattle.boxes.specs.declared.node.Node.{Node}
use Rattle.trees.specs.Boxes.{Box}
use Rattle.trees.specs.Drawing.{Plan, size, plan, Numbered, Tallied}
use Rattle.trees.specs.Samples.{Samples}
use Rattle.drawing.specs.Held.{held_in}
use Rattle.drawing.specs.Runs.{Run}
use Rattle.drawing.specs.declared.build.Builder.{Builder}

abbrev pub over : Builder → Samples
over b = held_in b.slots.now

abbrev pub nodes_of : Builder → List Node
nodes_of b = b.nodes.now.items

pub record Ready (b : Builder) (k : Bounds) (xs : List ℕ) : Type 0 where
  pub run : Run (over b) (box_of k) xs
  pub room : length (nodes_of b) + size (plan (over b) (box_of k)) ≤ 1021

pub record Follows (b c : Builder) : Type 0 where
  pub slots : c.slots ≡ b.slots
  pub nodes : c.nodes.ghost_name ≡ b.nodes.ghost_name

pub record Built (a : Samples) (p : Plan) (k : Box) (old new : List Node) : Type 0 where
  pub long : length new ≡ length old + size p
  pub numbered : Numbered (node_at new) p k (length old)
  pub tallied : Tallied a (counts_at new) p k (length old)
  pub before : take (length old) new ≡ old

pub record Draws (b : Builder) (k : Bounds) (c : Builder) : Type 0 where
  pub same : Follows b c
  pub drawn : Built (over b) (plan (over b) (box_of k)) (box_of k) (nodes_of b) (nodes_of c)
