-- What a node of a field counts: the samples at or below it, of each fibre and in all. Assumes nothing.
use Rattle.std.proofs.Common.{◌≡◌, ℕ, suc, ◌+◌, ◌<◌, Bool, true, ◌&&◌, eqb, leb, ltb, List, [], ◌∷◌, length, get_or, sum, sym, ap, ◌∙◌, arith}
use Rattle.std.proofs.lemmas.Bool.Decides.{nat_tests}
use Rattle.std.proofs.lemmas.List.{get_or_default}
use Rattle.std.proofs.lemmas.List.Sums.{sum_by-cons}
use Rattle.boxes.specs.Views.{blank}
use Rattle.boxes.specs.declared.node.Node.{Node}
use Rattle.drawing.specs.Held.{samples_of}
use Rattle.drawing.proofs.Sound.{valid_samples}
use Rattle.field.specs.Fields.{holds, node_count, tree, counts}
use Rattle.field.specs.declared.state.Field.{Field}
use Rattle.ranking.specs.Counts.{count}
use Rattle.ranking.specs.Majority.{tally}
use Rattle.ranking.proofs.Counted.{count_ext, count_none, count_split}
use Rattle.samples.specs.Slots.{held, fibre_at}
use Rattle.trees.specs.Samples.{lies}
use Rattle.trees.proofs.Lawfully.{right_says}
use Rattle.bounding.specs.Fields.{belongs_in}

-- votes by code from k on add up to those with a code from k on
sum_codes : (p : ℕ → Bool) (code : ℕ → ℕ) (n : ℕ) (xs : List ℕ) (k : ℕ) → ((f : ℕ) → f < length xs → get_or xs f 0 ≡ tally p code n (k + f)) → sum xs ≡ count (λ s. p s && (leb k (code s) && ltb (code s) (k + length xs))) n
sum_codes p code n [] k e = sym (count_none _ n (λ s l. grind (arith, nat_tests)))
sum_codes p code n (x ∷ xs) k e =
    let here : x ≡ tally p code n k = e 0 (omega arith) ∙ ap (tally p code n) (omega arith) in
    let rest = sum_codes p code n xs (suc k) (λ f l. e (suc f) (omega arith) ∙ ap (tally p code n) (omega arith)) in
    let all =
    count_split (λ s. p s && (leb k (code s) && ltb (code s) (k + suc (length xs)))) (λ s. p s && eqb (code s) k) (λ s. p s && (leb (suc k) (code s) && ltb (code s) (suc k + length xs))) n
    (λ s l. grind (arith, nat_tests))
    in
    omega (arith, sum_by-cons (λ (y : ℕ). y) x xs)

module _ (d : Field) (x : ℕ) (l : x < node_count d) where
  abbrev below : ℕ → Bool
  below s = held (holds d) s && belongs_in d x s

  -- by fibre
  counts_below : (f : ℕ) → f < 8 → counts d x f ≡ tally below (fibre_at (holds d)) 256 f
  unfolding lies
  counts_below f m =
      right_says (node_count d) (tree d) (counts d) (samples_of (holds d)) d.counts_hold x f l m
      ∙ count_ext (lies (tree d) (samples_of (holds d)) x f) (λ s. below s && eqb (fibre_at (holds d) s) f) 256 (λ s k. grind arith)

  module _ (n : Node) (is : n ≡ get_or d.nodes.items x n) (eight : length n.counts ≡ 8) where
    pub node_votes : (f : ℕ) → f < 8 → get_or n.counts f 0 ≡ tally (λ s. held (holds d) s && belongs_in d x s) (fibre_at (holds d)) 256 f
    node_votes f m = ap (λ (y : Node). get_or y.counts f 0) is ∙ ap (λ (y : Node). get_or y.counts f 0) (sym (get_or_default d.nodes.items x blank n l)) ∙ counts_below f m

    pub node_total : sum n.counts ≡ count (λ s. held (holds d) s && belongs_in d x s) 256
    node_total =
        sum_codes below (fibre_at (holds d)) 256 n.counts 0 (λ f m. node_votes f (omega arith) ∙ ap (tally below (fibre_at (holds d)) 256) (omega arith))
        ∙ count_ext (λ s. below s && (leb 0 (fibre_at (holds d) s) && ltb (fibre_at (holds d) s) (0 + length n.counts))) below 256
        (λ s k. let v : held (holds d) s ≡ true → fibre_at (holds d) s < 8 = λ h. (valid_samples d.slots s k h).0 in grind (arith, nat_tests))
