-- What a walk goes through: samples by slot, and the nodes of a tree by number. Assumes nothing.
--   Scene     a node's near and far bound the weights of the samples at or below it; `child x s` is the child of node x in which
--             the sample in slot s belongs
--   Fair c u  the bounds are right and each node has one parent, where `u x s` says that the sample in slot s belongs at or below
--             node x
--   plain c   all samples held, each with its own weight for bounds
use Rattle.std.specs.Prelude.{◌≡◌, ℕ, ◌<◌, ◌≤◌, Bool, true, false}
use Rattle.walks.specs.Views.{View}

pub record Scene : Type 0 where
  pub slots : ℕ
  pub held : ℕ → Bool
  pub fibre : ℕ → ℕ
  pub weight : ℕ → ℕ
  pub nodes : ℕ
  pub leaf : ℕ → Bool
  pub depth : ℕ → ℕ
  pub near : ℕ → ℕ
  pub far : ℕ → ℕ
  pub child : ℕ → ℕ → ℕ

pub record Fair (c : Scene) (u : ℕ → ℕ → Bool) : Type 0 where
  pub some : 0 < c.nodes
  pub root : (s : ℕ) → s < c.slots → c.held s ≡ true → u 0 s ≡ true
  pub down : (x s : ℕ) → x < c.nodes → s < c.slots → c.held s ≡ true → c.leaf x ≡ false → u x s ≡ true →
      (x < c.child x s) × (c.child x s < c.nodes) × (u (c.child x s) s ≡ true)
  -- a node is the child of one node alone
  pub parent : (x y s t : ℕ) → x < c.nodes → y < c.nodes → c.leaf x ≡ false → c.leaf y ≡ false → c.child x s ≡ c.child y t → x ≡ y
  pub bounds : (x s : ℕ) → x < c.nodes → s < c.slots → c.held s ≡ true → u x s ≡ true → (c.near x ≤ c.weight s) × (c.weight s ≤ c.far x)

abbrev pub plain : Scene → View
plain c = record { slots = c.slots; entered = c.held; in_node = λ s. false; near = c.weight; far = c.weight; weight = c.weight; fibre = c.fibre }
