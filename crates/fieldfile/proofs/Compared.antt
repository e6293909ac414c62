-- The tree and the samples of a field, against those that a file says: the checks of the one are those of the other. Assumes nothing.
use Rattle.std.proofs.Common.{◌≡◌, ℕ, zero, suc, ◌-◌, ◌<◌, Bool, true, false, not, ◌&&◌, eqb, List, Some, None, Option, sym, refl, ap, ◌∙◌, subst, arith}
use Rattle.std.specs.Option.{option_map, option_or}
use Rattle.std.proofs.lemmas.Bool.{and_parts, and_from, not-false, eqb-true, lt-ltb}
use Rattle.std.proofs.lemmas.Bool.Decides.{nat_tests}
use Rattle.boxes.specs.Views.{entries}
use Rattle.drawing.specs.Held.{samples_of}
use Rattle.ranking.specs.Counts.{count}
use Rattle.ranking.specs.Lowest.{lowest}
use Rattle.ranking.proofs.Counted.{count_ext}
use Rattle.ranking.proofs.Found.{lowest_none}
use Rattle.samples.specs.Slots.{held, fibre_at, values_at}
use Rattle.trees.specs.Boxes.{every}
use Rattle.trees.specs.Drawing.{Is}
use Rattle.trees.specs.Lawful.{whole, sound, linked, nested, counted}
use Rattle.trees.specs.Samples.{lies}
use Rattle.trees.specs.Trees as trees
use Rattle.trees.specs.Trees.{Rules, under, reached}
use Rattle.trees.proofs.Boxed.{every_at}
use Rattle.trees.proofs.Lawfully.{rules_from_lawful, right_says}
use Rattle.field.specs.Fields.{holds, node_count, tree, counts}
use Rattle.field.specs.Flaws.{rooted, tied, flaw}
use Rattle.field.specs.declared.flaws.Flaw.TheVariants.{Links, Boxes}
use Rattle.field.specs.declared.state.Field.{Field}
use Rattle.field.proofs.Flawed.{flaw_rooted}
use Rattle.records.specs.Bytes.{IsBytes}
use Rattle.records.specs.Checks.{named_once, bad_node, bad_links, bad_boxes, bad_leaf, bad_counts}
use Rattle.records.specs.Described.{SameTree, Describes}
use Rattle.records.specs.Parts.{leaf_in, values_in}
use Rattle.records.specs.Readings.{sample_total, node_total, sample_part, tree_in, counts_in, samples_in, table_in}
use Rattle.records.proofs.Likened.{reached_same, under_same}
use Rattle.records.proofs.Loaded.{lies_upto}
use Rattle.records.proofs.Slotted.{Rises}
use Rattle.records.proofs.Tested.{lowest_same, linked_same, named_same, nested_same}
use Rattle.fieldfile.specs.Bodies.{named_leaf, same_counts}

is_same : (x y : trees.Node) → x ≡ y → Is x y.kind y.box y.first y.second
is_same x y e = (ap (λ z. z.kind) e, (ap (λ z. z.box.depth) e, λ b l. ap (λ z. z.box.corner b) e), ap (λ z. z.first) e, ap (λ z. z.second) e)

every_same : (p q : ℕ → Bool) (n : ℕ) → ((b : ℕ) → b < n → p b ≡ q b) → every p n ≡ every q n
every_same p q zero h = refl
every_same p q (suc n) h = let e = h n (omega arith) in let i = every_same p q n (λ b l. h b (omega arith)) in λ j. e j && i j

-- p is the tree that the file says
module _ (bs : List ℕ) (p : ℕ → trees.Node) (nodes : (x : ℕ) → x < node_total bs → p x ≡ tree_in bs x) where
  pub same : SameTree (node_total bs) p (tree_in bs)
  same x l = is_same (p x) (tree_in bs x) (nodes x l)

  links_same : lowest (λ x. not (tied (node_total bs) p x)) (node_total bs) ≡ lowest (bad_links bs) (node_total bs)
  unfolding bad_links
  links_same =
      lowest_same (λ x. not (tied (node_total bs) p x)) (λ x. not (linked (node_total bs) (tree_in bs) x && named_once (node_total bs) (tree_in bs) x)) (node_total bs)
      (λ x l. λ i. not (linked_same (node_total bs) p (tree_in bs) same x l i && named_same (node_total bs) p (tree_in bs) same x l i))

  tied_all : None ≡ lowest (bad_links bs) (node_total bs) → (x : ℕ) → x < node_total bs → tied (node_total bs) p x ≡ true
  tied_all h x l = not-false _ (lowest_none (λ x. not (tied (node_total bs) p x)) (node_total bs) (links_same ∙ sym h) x l)

  children_within : (x : ℕ) → tied (node_total bs) p x ≡ true → trees.parts (p x).kind ≡ true → ((p x).first < node_total bs) × ((p x).second < node_total bs)
  unfolding linked
  children_within x t e = (grind (arith, nat_tests), grind (arith, nat_tests))

  boxes_same : None ≡ lowest (bad_links bs) (node_total bs) → lowest (λ x. not (nested p x)) (node_total bs) ≡ lowest (bad_boxes bs) (node_total bs)
  unfolding bad_boxes
  boxes_same h =
      lowest_same (λ x. not (nested p x)) (λ x. not (nested (tree_in bs) x)) (node_total bs)
      (λ x l. ap not (nested_same (node_total bs) p (tree_in bs) same x l (children_within x (tied_all h x l))))

  sound_root : bad_node bs 0 ≡ false → sound (tree_in bs) 0 ≡ true
  unfolding bad_node
  sound_root h = (and_parts _ _ (not-false _ h)).1

  whole_root : sound (tree_in bs) 0 ≡ true → whole (tree_in bs 0).box ≡ true
  unfolding sound
  whole_root s = (and_parts _ _ (and_parts _ _ s).1).1

  module _ (some : 0 < node_total bs) (good : lowest (bad_node bs) (node_total bs) ≡ None) where
    root : rooted (node_total bs) p ≡ true
    root =
        let w = whole_root (sound_root (lowest_none (bad_node bs) (node_total bs) good 0 some)) in
        and_from _ _ (lt-ltb _ _ some) (ap (λ (z : trees.Node). whole z.box) (nodes 0 some) ∙ w)

    pub tree_flaw : (o : Option ℕ) → o ≡ lowest (bad_links bs) (node_total bs) → flaw (node_total bs) p ≡ option_or (option_map Links o) (option_map Boxes (lowest (bad_boxes bs) (node_total bs)))
    tree_flaw None e = flaw_rooted (node_total bs) p None root (e ∙ sym links_same) ∙ ap (option_map Boxes) (boxes_same e)
    tree_flaw (Some x) e = flaw_rooted (node_total bs) p (Some x) root (e ∙ sym links_same)

-- the field f has the tree that the file says
module _ (bs : List ℕ) (f : Field) (size : node_count f ≡ node_total bs) (nodes : (x : ℕ) → x < node_total bs → tree f x ≡ tree_in bs x) where
  rules : Rules (node_total bs) (tree f)
  rules = subst (λ m. Rules m (tree f)) size (rules_from_lawful _ _ f.rules_hold)

  pub leaves_same : lowest (λ i. not (named_leaf bs f i)) (sample_total bs) ≡ lowest (bad_leaf bs) (sample_total bs)
  unfolding bad_leaf
  leaves_same =
      lowest_same (λ i. not (named_leaf bs f i)) (λ i. not (eqb (leaf_in (sample_part bs i)) (reached (tree_in bs) (entries (values_in (sample_part bs i))) (node_total bs - 1)))) (sample_total bs)
      (λ i l. ap (λ y. not (eqb (leaf_in (sample_part bs i)) y)) (ap (λ m. reached (tree f) (entries (values_in (sample_part bs i))) (m - 1)) size ∙ alike i))
    where
      alike : (i : ℕ) → reached (tree f) (entries (values_in (sample_part bs i))) (node_total bs - 1) ≡ reached (tree_in bs) (entries (values_in (sample_part bs i))) (node_total bs - 1)
      alike i = let v = entries (values_in (sample_part bs i)) in reached_same (node_total bs) (tree f) (tree_in bs) (same bs (tree f) nodes) rules v v (λ b l. refl) (node_total bs - 1) (omega (arith, rules.some))

  -- and its samples
  module _ (samples : holds f ≡ table_in bs) (bytes : IsBytes bs) (rising : Rises bs (sample_total bs)) where
    counts_are : (x g : ℕ) → x < node_total bs → g < 8 → counts f x g ≡ count (lies (tree_in bs) (samples_in bs) x g) (sample_total bs)
    unfolding lies
    counts_are x g l k =
        right_says _ _ _ _ f.counts_hold x g (omega (arith, size)) k
        ∙ ap (λ t. count (lies (tree f) (samples_of t) x g) 256) samples
        ∙ lies_upto bs bytes (sample_total bs) rising (tree f) x g
        ∙ count_ext (lies (tree f) (samples_in bs) x g) (lies (tree_in bs) (samples_in bs) x g) (sample_total bs)
        (λ s _. let v = (samples_in bs).value s in ap (λ b. eqb ((samples_in bs).fibre s) g && b) (under_same (node_total bs) (tree f) (tree_in bs) (same bs (tree f) nodes) rules v v (λ b j. refl) x l))

    pub counts_same : lowest (λ x. not (same_counts bs f x)) (node_total bs) ≡ lowest (bad_counts bs) (node_total bs)
    unfolding bad_counts counted
    counts_same =
        lowest_same (λ x. not (same_counts bs f x)) (λ x. not (every (λ g. eqb (counts_in bs x g) (count (lies (tree_in bs) (samples_in bs) x g) (sample_total bs))) 8)) (node_total bs)
        (λ x l. ap not (every_same (λ g. eqb (counts_in bs x g) (counts f x g)) (λ g. eqb (counts_in bs x g) (count (lies (tree_in bs) (samples_in bs) x g) (sample_total bs))) 8 (λ g k. ap (eqb (counts_in bs x g)) (counts_are x g l k))))

    pub describes : lowest (λ x. not (same_counts bs f x)) (node_total bs) ≡ None → Describes bs (holds f) (node_count f) (tree f) (counts f)
    describes none = record {
      samples = record { held = λ s l. ap (λ t. held t s) samples; fibre = λ s l. ap (λ t. fibre_at t s) samples; values = λ s b l k. ap (λ t. entries (values_at t s) b) samples };
      size = size;
      nodes = λ x l. same bs (tree f) nodes x (omega (arith, size));
      counts = λ x g l k.
          let t = not-false _ (lowest_none (λ x. not (same_counts bs f x)) (node_total bs) none x (omega (arith, size))) in
          sym (eqb-true _ _ (every_at (λ g. eqb (counts_in bs x g) (counts f x g)) 8 g t k));
    }
