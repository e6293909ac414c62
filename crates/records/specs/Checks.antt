-- The eight checks of a file, each as a test of one record after another. Assumes nothing.
--   marked bs              there are 14 bytes at least, and the last two are the mark
--   agreed n m ..          the counts n and m are in range and fit these ways back and this length
--   laid_out bs            the trailer's numbers are in range and fit one another and the length
--   bad_sample bs i        sample record i has a fibre or a value out of range, or a slot not above that of the record before
--   bad_node bs x          node record x by itself: its kind, depth and corner, no child of a leaf; node 0 is the box of all readings
--   namings m p x          how many of the child numbers of m nodes are x: a parent with x for both children names it twice
--   bad_links, bad_boxes   the links of node x, and the boxes of its children with the kind of a rim
--   bad_leaf bs i          sample record i names another leaf than the one in which its values belong
--   bad_counts bs x        the counts of node x are not those of the samples
--   Test, checks bs        of how many records a check is, and which records fail it; the eight checks
--   first_fault bs         the lowest check that a record fails, and the lowest such record
--   FailsFirst ks c i      check c of the list, from 0, is the first that a record fails, and i is the lowest such record
use Rattle.std.specs.Prelude.{◌≡◌, ℕ, suc, ◌+◌, ◌-◌, ◌*◌, ◌<◌, Bool, true, false, not, ◌&&◌, ◌||◌, List, [], ◌∷◌, length, None, Option, ◌==◌, nat_le, nat_lt, slice_index, slice_index_or}
use Rattle.std.specs.Option.{option_map, option_or}
use Rattle.ranking.specs.Counts.{count}
use Rattle.ranking.specs.Lowest.{lowest}
use Rattle.samples.specs.Ranges.{below}
use Rattle.trees.specs.Lawful.{sound, linked, nested, counted}
use Rattle.trees.specs.Trees.{Node, parts, reached}
use Rattle.boxes.specs.Views.{entries}
use Rattle.records.specs.Bytes.{four}
use Rattle.records.specs.Parts.{slot_in, fibre_in, leaf_in, values_in, code_in}
use Rattle.records.specs.Readings.{end, sample_total, node_total, sample_part, node_part, tree_in, counts_in, samples_in}

unfoldable pub marked : List ℕ → Bool
marked bs = nat_le 14 (length bs) && (slice_index bs (end bs + 12) == 0x46 && slice_index bs (end bs + 13) == 0x36)

abbrev pub agreed : ℕ → ℕ → ℕ → ℕ → ℕ → Bool
agreed n m to_nodes to_samples len =
    (nat_le n 256 && (nat_le 1 m && nat_le m 1021))
    && ((to_nodes == 38 * m && to_samples == 38 * m + 20 * n) && len == 20 * n + 38 * m + 14)

unfoldable pub laid_out : List ℕ → Bool
laid_out bs = agreed (sample_total bs) (node_total bs) (four bs (end bs + 4)) (four bs (end bs + 8)) (length bs)

-- the fibre and the values of a sample record are in range
unfoldable pub in_range : List ℕ → Bool
in_range r = nat_lt (fibre_in r) 8 && below 1024 (values_in r)

unfoldable pub bad_sample : List ℕ → ℕ → Bool
bad_sample bs i =
    not (in_range (sample_part bs i)) || (nat_lt 0 i && nat_le (slot_in (sample_part bs i)) (slot_in (sample_part bs (i - 1))))

unfoldable pub bad_node : List ℕ → ℕ → Bool
bad_node bs x = not (nat_le (code_in (node_part bs x)) 2 && sound (tree_in bs) x)

unfoldable pub namings : ℕ → (ℕ → Node) → ℕ → ℕ
namings m p x = count (λ y. parts (p y).kind && (p y).first == x) m + count (λ y. parts (p y).kind && (p y).second == x) m

abbrev pub named_once : ℕ → (ℕ → Node) → ℕ → Bool
named_once m p x = x == 0 || namings m p x == 1

unfoldable pub bad_links : List ℕ → ℕ → Bool
bad_links bs x = not (linked (node_total bs) (tree_in bs) x && named_once (node_total bs) (tree_in bs) x)

unfoldable pub bad_boxes : List ℕ → ℕ → Bool
bad_boxes bs x = not (nested (tree_in bs) x)

unfoldable pub bad_leaf : List ℕ → ℕ → Bool
bad_leaf bs i = not (leaf_in (sample_part bs i) == reached (tree_in bs) (entries (values_in (sample_part bs i))) (node_total bs - 1))

unfoldable pub bad_counts : List ℕ → ℕ → Bool
bad_counts bs x = not (counted (tree_in bs) (counts_in bs) (samples_in bs) x)

abbrev pub Test : Type 0
Test = ℕ × (ℕ → Bool)

-- in rising number, from 1 on; the first two are of the file as one
abbrev pub checks : List ℕ → List Test
checks bs =
    (1, λ i. not (marked bs)) ∷ (1, λ i. not (laid_out bs)) ∷ (sample_total bs, bad_sample bs) ∷ (node_total bs, bad_node bs)
    ∷ (node_total bs, bad_links bs) ∷ (node_total bs, bad_boxes bs) ∷ (sample_total bs, bad_leaf bs) ∷ (node_total bs, bad_counts bs) ∷ []

-- the first of the checks, which are numbered from c on, that a record fails
abbrev pub first_failed : ℕ → List Test → Option (ℕ × ℕ)
first_failed c [] = None
first_failed c (k ∷ ks) = option_or (option_map (λ i. (c, i)) (lowest k.1 k.0)) (first_failed (suc c) ks)

unfoldable pub first_fault : List ℕ → Option (ℕ × ℕ)
first_fault bs = first_failed 1 (checks bs)

abbrev pub test_at : List Test → ℕ → Test
test_at ks c = slice_index_or ks c (0, λ i. false)

pub record FailsFirst (ks : List Test) (c i : ℕ) : Type 0 where
  pub record_at : i < (test_at ks c).0
  pub fails : (test_at ks c).1 i ≡ true
  pub lower : (j : ℕ) → j < i → (test_at ks c).1 j ≡ false
  pub before : (d j : ℕ) → d < c → j < (test_at ks d).0 → (test_at ks d).1 j ≡ false
