-- Five samples in two halves, as a scene of plain numbers. Assumes nothing.
use Rattle.std.proofs.Common.{◌≡◌, ℕ, zero, suc, ◌<◌, Bool, true, false, cond, ◌&&◌, ◌||◌, ◌==◌, List, [], ◌∷◌, nat_lt, slice_index, arith}
use Rattle.std.proofs.lemmas.Bool.Decides.{nat_tests}
use Rattle.walks.specs.Scenes.{Scene}
use Rattle.walks.specs.Walk.{Place, within, alone, dropped}

-- fibres and weights by slot
abbrev pub plain_scene : List ℕ → List ℕ → Scene
plain_scene fs ws = record {
  slots = 256;
  held = λ s. nat_lt s 5;
  fibre = slice_index fs;
  weight = slice_index ws;
  nodes = 3;
  leaf = λ x. nat_lt 0 x;
  depth = slice_index (0 ∷ 1 ∷ 1 ∷ []);
  near = slice_index (0 ∷ 0 ∷ 501 ∷ []);
  far = slice_index (8173 ∷ 7661 ∷ 8173 ∷ []);
  child = λ x s. cond (x == 0) (cond (s == 2 || s == 3) 2 1) 0;
}

abbrev pub by_slot : Place → Place → Place → Place → Place → ℕ → Place
by_slot a b c d e zero = a
by_slot a b c d e (suc zero) = b
by_slot a b c d e (suc (suc zero)) = c
by_slot a b c d e (suc (suc (suc zero))) = d
by_slot a b c d e (suc (suc (suc (suc s)))) = e

-- a fact on each of the slots 0 to 4
pub each_slot : (P : ℕ → Type 0) → P 0 → P 1 → P 2 → P 3 → P 4 → (s : ℕ) → nat_lt s 5 ≡ true → P s
each_slot P a b c d e zero h = a
each_slot P a b c d e (suc zero) h = b
each_slot P a b c d e (suc (suc zero)) h = c
each_slot P a b c d e (suc (suc (suc zero))) h = d
each_slot P a b c d e (suc (suc (suc (suc zero)))) h = e
each_slot P a b c d e (suc (suc (suc (suc (suc s))))) h = absurd (grind (arith, nat_tests))

-- and on each of the nodes 0 to 2
pub each_node : (P : ℕ → Type 0) → P 0 → P 1 → P 2 → (x : ℕ) → x < 3 → P x
each_node P a b c zero h = a
each_node P a b c (suc zero) h = b
each_node P a b c (suc (suc zero)) h = c
each_node P a b c (suc (suc (suc x))) h = absurd (omega arith)
