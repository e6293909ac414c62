-- The walk: how boxes are opened one by one until the answer cannot change. Assumes nothing.
--   Place        where a sample stands: in the entry of a node, as an entry of its own, or nowhere since it was dropped
--   view c p     what is known where the samples stand at p
--   dropping p   the samples of entries with near above high are dropped
--   opens p x    node x is opened next: of the active nodes it has the least depth, and the lowest number of these
--   opening p    its samples stand in its children, or each by itself where it is a leaf
--   walk i       where the samples stand after opening the query and i steps
--   End, end     how the walk ends here, if it does: the tests in their order
use Rattle.std.specs.Prelude.{ℕ, zero, suc, Bool, true, false, cond, ◌&&◌, ◌==◌, nat_lt}
use Rattle.ranking.specs.Counts.{count}
use Rattle.ranking.specs.Ranks.{nearer, first}
use Rattle.walks.specs.Scenes.{Scene}
use Rattle.walks.specs.Views.{View, pick, high, active, is_settled, is_narrow, is_counted, commonest}

pub data Place : Type 0 where
  within : ℕ → Place
  alone : Place
  dropped : Place

abbrev pub is_within : Place → ℕ → Bool
is_within (within x) y = x == y
is_within alone y = false
is_within dropped y = false

abbrev pub is_node : Place → Bool
is_node (within x) = true
is_node alone = false
is_node dropped = false

abbrev pub is_kept : Place → Bool
is_kept (within x) = true
is_kept alone = true
is_kept dropped = false

-- the bound of an entry: of a node by its number, of a single sample by its slot
abbrev pub bound_at : (ℕ → ℕ) → (ℕ → ℕ) → Place → ℕ → ℕ
bound_at of_node of_slot (within x) s = of_node x
bound_at of_node of_slot alone s = of_slot s
bound_at of_node of_slot dropped s = 0

abbrev pub view : Scene → (ℕ → Place) → View
view c p = record {
  slots = c.slots;
  entered = λ s. c.held s && is_kept (p s);
  in_node = λ s. is_node (p s);
  near = λ s. bound_at c.near c.weight (p s) s;
  far = λ s. bound_at c.far c.weight (p s) s;
  weight = c.weight;
  fibre = c.fibre;
}

pub data End : Type 0 where
  going : End
  settled : ℕ → End
  nearby : ℕ → End
  counted : ℕ → End

module _ (c : Scene) (k : ℕ) where
  unfoldable pub dropping : (ℕ → Place) → ℕ → Place
  dropping p s = cond (nat_lt (high (view c p) k) ((view c p).near s)) dropped (p s)

  -- node x is an entry with active samples
  unfoldable pub is_active : (ℕ → Place) → ℕ → Bool
  is_active p x = nat_lt 0 (count (λ s. active (view c p) k s && is_within (p s) x) c.slots)

  unfoldable pub opens : (ℕ → Place) → ℕ → Bool
  opens p x = first (is_active p) (nearer c.depth) c.nodes 1 x

  abbrev pub moved : Bool → ℕ → ℕ → Place
  moved true x s = alone
  moved false x s = within (c.child x s)

  abbrev pub opened : (ℕ → Bool) → Place → ℕ → Place
  opened o (within x) s = cond (o x) (moved (c.leaf x) x s) (within x)
  opened o alone s = alone
  opened o dropped s = dropped

  unfoldable pub opening : (ℕ → Place) → ℕ → Place
  opening p s = opened (opens p) (p s) s

  -- opening the query enters node 0
  unfoldable pub walk : ℕ → ℕ → Place
  walk zero = dropping (λ s. within 0)
  walk (suc i) = dropping (opening (walk i))

  abbrev pub end_by : Bool → Bool → Bool → ℕ → ℕ → End
  end_by true near done f l = settled f
  end_by false true done f l = nearby l
  end_by false false true f l = counted l
  end_by false false false f l = going

  -- nearby only where the ratio n to d is above 1
  unfoldable pub end : ℕ → ℕ → (ℕ → Place) → End
  end n d p =
      end_by (nat_lt 0 (count (is_settled (view c p) k) 8)) (nat_lt d n && is_narrow (view c p) k n d) (is_counted (view c p) k)
      (pick (is_settled (view c p) k) 8) (commonest (view c p) k)
