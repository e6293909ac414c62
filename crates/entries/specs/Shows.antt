-- What the entries of a table show of a walk's samples. Assumes nothing.
--   is_alone l         a sample that stands at l is an entry of its own
--   belongs o p s      the sample in slot s stands in the entry of o, where the samples stand at p
--   members c p o s    so does a sample that is held
--   Bounded c o e      the bounds of the entry e are those of o, and o is a node of the scene, with its depth, or a sample
--   Faithful c p e     what the entry e says is the truth
--   Shows c p es       the entries es show where the samples of the scene c stand at p: each says the truth, and each sample that
--                      is entered stands in one
use Rattle.std.specs.Prelude.{◌≡◌, ℕ, ◌<◌, Bool, true, false, ◌&&◌, ◌==◌, List, slice_index, sum_by}
use Rattle.std.specs.List.{All}
use Rattle.ranking.specs.Counts.{bit, count}
use Rattle.ranking.specs.Majority.{tally}
use Rattle.walks.specs.Scenes.{Scene}
use Rattle.walks.specs.Walk.{Place, within, alone, dropped, is_within, view}
use Rattle.entries.specs.declared.entry.Entry.{Entry}
use Rattle.entries.specs.declared.entry.Of.{Of}
use Rattle.entries.specs.declared.entry.Of.TheVariants.{Node, Sample}

abbrev pub is_alone : Place → Bool
is_alone (within x) = false
is_alone alone = true
is_alone dropped = false

abbrev pub belongs : Of → (ℕ → Place) → ℕ → Bool
belongs (Node x t) p s = is_within (p s) x
belongs (Sample r) p s = is_alone (p s) && r == s

abbrev pub members : Scene → (ℕ → Place) → Of → ℕ → Bool
members c p o s = c.held s && belongs o p s

abbrev pub Bounded : Scene → Of → Entry → Type 0
Bounded c (Node x t) e = (x < c.nodes) × (t ≡ c.depth x) × (e.near ≡ c.near x) × (e.far ≡ c.far x)
Bounded c (Sample s) e = (e.near ≡ c.weight s) × (e.far ≡ c.weight s)

module _ (c : Scene) (p : ℕ → Place) where
  pub record Faithful (e : Entry) : Type 0 where
    pub some : 0 < e.count
    pub counts : e.count ≡ count (members c p e.of) c.slots
    pub votes : (f : ℕ) → f < 8 → slice_index e.fibres f ≡ tally (members c p e.of) c.fibre c.slots f
    pub bounds : Bounded c e.of e

  pub record Shows (es : List Entry) : Type 0 where
    pub faithful : All Faithful es
    pub once : (s : ℕ) → s < c.slots → sum_by (λ e. bit (members c p e.of s)) es ≡ bit ((view c p).entered s)
