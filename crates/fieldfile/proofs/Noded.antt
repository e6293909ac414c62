-- A node record that is read: when it is a node by itself, and which. Assumes nothing.
use Rattle.std.proofs.Common.{◌≡◌, ℕ, ◌+◌, ◌-◌, ◌/◌, ◌%◌, ◌^◌, ◌<◌, Bool, true, false, not, ◌&&◌, ◌||◌, leb, ltb, eqb, List, slice_index, sym, refl, ap, ◌∙◌, arith}
use Rattle.std.proofs.lemmas.Bool.{and_parts, and_from, eqb-true, eq-eqb, ltb-true}
use Rattle.std.proofs.lemmas.Bool.Decides.{nat_tests}
use Rattle.boxes.specs.Grids.{gridded}
use Rattle.boxes.specs.Views.{entries, kind_of, links_of, node_of}
use Rattle.boxes.specs.declared.node.Node.{Node}
use Rattle.trees.specs.Boxes.{every, Box, halved, side, on_step, is_on_grid}
use Rattle.trees.specs.Lawful.{childless, whole, sound}
use Rattle.trees.specs.Trees.{parts}
use Rattle.trees.proofs.Boxed.{every_at, every_all}
use Rattle.records.specs.Bytes.{two, row_in}
use Rattle.records.specs.Checks.{bad_node}
use Rattle.records.specs.Parts.{code_in, coded, node_in}
use Rattle.records.specs.Readings.{node_part, tree_in}

-- what is asked of the byte c of a kind and of the child numbers p and q
abbrev pub is_kind : ℕ → ℕ → ℕ → Bool
is_kind c p q = leb c 2 && (parts (coded c) || (eqb p 0 && eqb q 0))

pub kind_leaf : (p q : ℕ) → is_kind 0 p q ≡ (eqb p 0 && eqb q 0)
kind_leaf p q = refl

pub kind_split : (p q : ℕ) → is_kind 1 p q ≡ true
kind_split p q = refl

pub kind_shrink : (p q : ℕ) → is_kind 2 p q ≡ true
kind_shrink p q = refl

pub no_kind : (c p q : ℕ) → 2 < c → is_kind c p q ≡ false
no_kind c p q l = grind (arith, nat_tests)

pub kind_of_record : (r : List ℕ) → (leb (code_in r) 2 && childless (node_in r)) ≡ is_kind (code_in r) (two r 2) (two r 4)
unfolding node_in
kind_of_record r = refl

side_whole : (b : ℕ) → b < 8 → side 0 b ≡ 1024
unfolding side halved
side_whole b l = let h : (0 + (7 - b)) / 8 ≡ 0 = omega arith in ap (λ (h : ℕ). 1024 / 2 ^ h) h

-- on the grid the box of depth 0 is that of all readings
whole_depth : (k : Box) → is_on_grid k ≡ true → whole k ≡ eqb k.depth 0
unfolding is_on_grid
whole_depth k h = go (eqb k.depth 0) refl
  where
    corner : eqb k.depth 0 ≡ true → (b : ℕ) → b < 8 → eqb (k.corner b) 0 ≡ true
    corner e b l =
        let d : k.depth ≡ 0 = eqb-true k.depth 0 e in
        let p = and_parts (leb k.depth 80) (every (λ b. on_step k.depth b (k.corner b)) 8) h in
        let s : on_step k.depth b (k.corner b) ≡ true = every_at (λ b. on_step k.depth b (k.corner b)) 8 b p.1 l in
        let side' : side k.depth b ≡ 1024 = ap (λ t. side t b) d ∙ side_whole b l in
        let q = and_parts (ltb (k.corner b) 1024) (eqb (k.corner b % side k.depth b) 0) s in
        let m : k.corner b % 1024 ≡ 0 = ap (λ t. k.corner b % t) (sym side') ∙ eqb-true (k.corner b % side k.depth b) 0 q.1 in
        let n : k.corner b < 1024 = ltb-true (k.corner b) 1024 q.0 in
        eq-eqb (k.corner b) 0 (omega arith)

    go : (b : Bool) → eqb k.depth 0 ≡ b → whole k ≡ b
    go false e = ap (λ b. b && every (λ b. eqb (k.corner b) 0) 8) e
    go true e = and_from (eqb k.depth 0) (every (λ b. eqb (k.corner b) 0) 8) e (every_all (λ b. eqb (k.corner b) 0) 8 (corner e))

pub node_passes : (bs : List ℕ) (x : ℕ) → not (bad_node bs x) ≡ ((leb (code_in (node_part bs x)) 2 && childless (node_in (node_part bs x))) && (is_on_grid (node_in (node_part bs x)).box && (ltb 0 x || eqb (node_in (node_part bs x)).box.depth 0)))
unfolding bad_node sound
node_passes bs x = go (is_on_grid (tree_in bs x).box) refl
  where
    go : (b : Bool) → is_on_grid (tree_in bs x).box ≡ b → not (not (leb (code_in (node_part bs x)) 2 && (b && (childless (tree_in bs x) && (ltb 0 x || whole (tree_in bs x).box))))) ≡ ((leb (code_in (node_part bs x)) 2 && childless (node_in (node_part bs x))) && (b && (ltb 0 x || eqb (node_in (node_part bs x)).box.depth 0)))
    go true e = let w = whole_depth (tree_in bs x).box e in grind arith
    go false e = grind arith

-- the bytes b are node record x, and row is its corner
module _ (bs : List ℕ) (x : ℕ) (b : List ℕ) (is : b ≡ node_part bs x) (row : List ℕ) (corner : row ≡ row_in b 6) where
  gridded_is : gridded (slice_index b 1) row ≡ is_on_grid (node_in b).box
  unfolding node_in
  gridded_is = ap (gridded (slice_index b 1)) corner

  depth_is : slice_index b 1 ≡ (node_in b).box.depth
  unfolding node_in
  depth_is = refl

  pub passes_read : not (bad_node bs x) ≡ ((leb (code_in b) 2 && childless (node_in b)) && (gridded (slice_index b 1) row && (ltb 0 x || eqb (slice_index b 1) 0)))
  passes_read =
      node_passes bs x
      ∙ sym ((λ i. (leb (code_in b) 2 && childless (node_in b)) && (gridded_is i && (ltb 0 x || eqb (depth_is i) 0)))
      ∙ ap (λ r. (leb (code_in r) 2 && childless (node_in r)) && (is_on_grid (node_in r).box && (ltb 0 x || eqb (node_in r).box.depth 0))) is)

  pub node_read : (n : Node) → kind_of n.kind ≡ coded (code_in b) → links_of n.kind ≡ (two b 2, two b 4) → n.bounds.depth ≡ slice_index b 1 → n.bounds.corner ≡ row → node_of n ≡ tree_in bs x
  unfolding node_in
  node_read n k l d c =
      (λ i. record { kind = k i; box = record { depth = d i; corner = entries ((c ∙ corner) i) }; first = (l i).0; second = (l i).1 }) ∙ ap node_in is
