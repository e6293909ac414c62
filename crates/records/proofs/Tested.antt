-- The tests of a tree answer the same of two trees of the same nodes. Assumes nothing.
use Rattle.std.proofs.Common.{◌≡◌, ℕ, zero, suc, ◌+◌, ◌<◌, Bool, true, false, cond, not, Some, None, ◌&&◌, ◌||◌, eqb, leb, ltb, sym, refl, ap, ◌∙◌, arith}
use Rattle.std.proofs.lemmas.Bool.{true≢false}
use Rattle.std.specs.Option.{option_or}
use Rattle.ranking.specs.Lowest.{lowest}
use Rattle.ranking.proofs.Counted.{count_ext}
use Rattle.trees.specs.Boxes.{side, Box, Alike}
use Rattle.trees.specs.Drawing.{Is}
use Rattle.trees.specs.Lawful.{alike, within, inside, follows, linked, is_leaf, nested, nested_by}
use Rattle.trees.specs.Trees.{Kind, leaf, split, shrink, Node, parts, names}
use Rattle.records.specs.Checks.{namings, named_once}
use Rattle.records.specs.Described.{SameTree}
use Rattle.records.proofs.Likened.{alike_lower, alike_upper, every_ext}

-- the lowest number that passes either of two tests that answer the same
pub lowest_same : (p q : ℕ → Bool) (n : ℕ) → ((x : ℕ) → x < n → p x ≡ q x) → lowest p n ≡ lowest q n
unfolding lowest
lowest_same p q zero h = refl
lowest_same p q (suc n) h =
    let before = lowest_same p q n (λ x l. h x (omega arith)) in
    let last = h n (omega arith) in
    λ i. option_or (before i) (cond (last i) (Some n) None)

alike_same : (j k l m : Box) → Alike j k → Alike l m → alike j l ≡ alike k m
unfolding alike
alike_same j k l m a b =
    let corners = every_ext (λ c. eqb (j.corner c) (l.corner c)) (λ c. eqb (k.corner c) (m.corner c)) 8 (λ c h i. eqb (a.1 c h i) (b.1 c h i)) in
    λ i. eqb (a.0 i) (b.0 i) && corners i

inside_same : (j k l m : Box) → Alike j k → Alike l m → inside j l ≡ inside k m
unfolding inside
inside_same j k l m a b =
    let corners = every_ext (within j l) (within k m) 8
    (λ c h i. leb (b.1 c h i) (a.1 c h i) && leb (a.1 c h i + side (a.0 i) c) (b.1 c h i + side (b.0 i) c)) in
    λ i. ltb (b.0 i) (a.0 i) && corners i

nested_by_same : (t : Kind) (j k : Box) (f g s r : Node) → Alike j k → Is f g.kind g.box g.first g.second → Is s r.kind r.box r.first r.second → nested_by t j f s ≡ nested_by t k g r
nested_by_same leaf j k f g s r a b c = refl
nested_by_same split j k f g s r a b c =
    let x = alike_same _ _ _ _ b.1 (alike_lower j k a) in
    let y = alike_same _ _ _ _ c.1 (alike_upper j k a) in
    λ i. ltb (a.0 i) 80 && (x i && y i)
nested_by_same shrink j k f g s r a b c =
    let x = inside_same _ _ _ _ b.1 a in
    let y = alike_same _ _ _ _ c.1 a in
    λ i. x i && (is_leaf (c.0 i) && y i)

leaf_nested : (t : Kind) (k : Box) (f s : Node) → parts t ≡ false → nested_by t k f s ≡ true
leaf_nested leaf k f s e = refl
leaf_nested split k f s e = absurd (true≢false e)
leaf_nested shrink k f s e = absurd (true≢false e)

module _ (m : ℕ) (p q : ℕ → Node) (same : SameTree m p q) (x : ℕ) (l : x < m) where
  pub linked_same : linked m p x ≡ linked m q x
  unfolding linked names
  linked_same =
      let s = same x l in
      let named = count_ext (λ y. names p y x) (λ y. names q y x) m (λ y k. let z = same y k in λ i. parts (z.0 i) && (eqb (z.2 i) x || eqb (z.3 i) x)) in
      λ i. (not (parts (s.0 i)) || (follows m x (s.2 i) && (follows m x (s.3 i) && not (eqb (s.2 i) (s.3 i))))) && (eqb x 0 || eqb (named i) 1)

  pub named_same : named_once m p x ≡ named_once m q x
  unfolding namings
  named_same =
      let first = count_ext (λ y. parts (p y).kind && eqb (p y).first x) (λ y. parts (q y).kind && eqb (q y).first x) m (λ y k. let s = same y k in λ i. parts (s.0 i) && eqb (s.2 i) x) in
      let second = count_ext (λ y. parts (p y).kind && eqb (p y).second x) (λ y. parts (q y).kind && eqb (q y).second x) m (λ y k. let s = same y k in λ i. parts (s.0 i) && eqb (s.3 i) x) in
      λ i. eqb x 0 || eqb (first i + second i) 1

  -- a parent's children are among the m nodes
  pub nested_same : (parts (p x).kind ≡ true → ((p x).first < m) × ((p x).second < m)) → nested p x ≡ nested q x
  unfolding nested
  nested_same h = go (parts (p x).kind) refl
    where
      go : (b : Bool) → parts (p x).kind ≡ b → nested_by (p x).kind (p x).box (p (p x).first) (p (p x).second) ≡ nested_by (q x).kind (q x).box (q (q x).first) (q (q x).second)
      go true e =
          let s = same x l in
          let c = h e in
          nested_by_same (p x).kind (p x).box (q x).box (p (p x).first) (q (p x).first) (p (p x).second) (q (p x).second) s.1 (same (p x).first c.0) (same (p x).second c.1)
          ∙ λ i. nested_by (s.0 i) (q x).box (q (s.2 i)) (q (s.3 i))
      go false e =
          leaf_nested (p x).kind (p x).box (p (p x).first) (p (p x).second) e
          ∙ sym (leaf_nested (q x).kind (q x).box (q (q x).first) (q (q x).second) (sym (ap parts (same x l).0) ∙ e))
