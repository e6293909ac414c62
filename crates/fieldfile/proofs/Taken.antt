-- A file is refused by the check that the code names, and taken as the field that it describes. Assumes nothing.
use Rattle.std.proofs.Common.{◌≡◌, ℕ, ◌<◌, Bool, true, false, cond, not, List, Some, None, Option, Ok, Err, Result, sym, refl, ap, ◌∙◌, subst, arith}
use Rattle.std.specs.Option.{option_map, option_or}
use Rattle.std.specs.Result.{IsErrAnd}
use Rattle.arrayvec.specs.ArrayVec.{ArrayVec, array_vec_len}
use Rattle.boxes.specs.Views.{node_at}
use Rattle.boxes.specs.declared.node.Node.{Node as BoxNode}
use Rattle.ranking.specs.Lowest.{lowest}
use Rattle.ranking.proofs.Found.{lowest_none}
use Rattle.trees.specs.Lawful.{lawful}
use Rattle.field.specs.Fields.{holds, node_count, tree, counts}
use Rattle.field.specs.Flaws.{flaw, Planted}
use Rattle.field.specs.declared.flaws.Flaw.{Flaw}
use Rattle.field.specs.declared.flaws.Flaw.TheVariants as flaws
use Rattle.field.specs.declared.state.Field.{Field}
use Rattle.field.proofs.Flawed.{unflawed}
use Rattle.records.specs.Bytes.{IsBytes}
use Rattle.records.specs.Checks.{marked, laid_out, bad_sample, bad_links, bad_boxes, bad_leaf, bad_counts, first_fault}
use Rattle.records.specs.Described.{Describes}
use Rattle.records.specs.Readings.{sample_total, node_total, tree_in, table_in}
use Rattle.records.specs.Rules.{Keeps}
use Rattle.records.proofs.Describing.{file_describes}
use Rattle.records.proofs.Filing.{file_keeps}
use Rattle.records.proofs.Kept.{rises_from_checks, keeps_unless_fault, no_fault}
use Rattle.records.proofs.Passed.{named_first}
use Rattle.records.proofs.Rewriting.{file_again}
use Rattle.fieldfile.specs.Bodies.{Nodes, ReadsNodes, named_leaf, same_counts}
use Rattle.fieldfile.specs.Faults.{check_number, flaw_fault, blame}
use Rattle.fieldfile.specs.Format.{file_of}
use Rattle.fieldfile.specs.Loads.{Same, Taken, Refused, Reads}
use Rattle.fieldfile.specs.Outlines.{outline_of, outline_rule}
use Rattle.fieldfile.specs.declared.body.Body.{Body}
use Rattle.fieldfile.specs.declared.faults.Check.{Check}
use Rattle.fieldfile.specs.declared.faults.Check.TheVariants.{Mark, Layout, Sample, Node, Links, Boxes, Leaf, Counts}
use Rattle.fieldfile.specs.declared.faults.Fault.{Fault}
use Rattle.fieldfile.proofs.Compared.{tree_flaw, leaves_same, counts_same, describes}
use Rattle.fieldfile.proofs.Faulted.{blamed_none, blamed_some, unmarked, ill_laid, sample_fault, node_fault, link_fault, box_fault, leaf_fault, count_fault, no_faults}
use Rattle.fieldfile.proofs.Fielded.{is_field}

-- what the exit of a `?` returns
pub refusing : (bs : List ℕ) (r : Result Field Fault) (P : Fault → Type 0) → IsErrAnd r P → ((e : Fault) → P e → Refused bs e) → Reads bs r
refusing bs (Ok f) P h k = absurd h
refusing bs (Err e) P h k = k e h

field_keeps : (bs : List ℕ) (f : Field) → file_of f ≡ bs → Keeps bs
field_keeps bs f e = subst (λ b. Keeps b) e (file_keeps (holds f) (node_count f) (tree f) (counts f) (is_field f))

pub refused : (bs : List ℕ) (e : Fault) → first_fault bs ≡ Some (check_number e.check, e.«record») → Refused bs e
refused bs e h =
    let broken : Keeps bs → ⊥ = λ k. let n = sym (no_fault bs k) ∙ h in cc in
    record { broken = broken; fault = h; lowest = (named_first bs (check_number e.check) e.«record» h).1; foreign = λ f w. broken (field_keeps bs f w) }

blames : (bs : List ℕ) (c : Check) (o : Option ℕ) (e : Fault) → Err e ≡ blame c o → ((i : ℕ) → o ≡ Some i → first_fault bs ≡ Some (check_number c, i)) → Refused bs e
blames bs c o e h k =
    let b = blamed_some c o e h in
    refused bs e (k e.«record» b.0 ∙ (λ i. Some (check_number (sym b.1 i), e.«record»)))

pub no_outline : (bs : List ℕ) (c : Check) → outline_rule bs ≡ Err c → Refused bs (record { check = c; «record» = 0 })
no_outline bs c h = refused bs _ (go (marked bs) (laid_out bs) refl refl h)
  where
    go : (a b : Bool) → marked bs ≡ a → laid_out bs ≡ b → cond a (cond b (Ok (outline_of bs)) (Err Layout)) (Err Mark) ≡ Err c → first_fault bs ≡ Some (check_number c, 0)
    go true true e f r = cc
    go true false e f r = let s : Layout ≡ c = cc in ill_laid bs e f ∙ ap (λ d. Some (check_number d, 0)) s
    go false b e f r = let s : Mark ≡ c = cc in unmarked bs e ∙ ap (λ d. Some (check_number d, 0)) s

-- two fields that a file describes are the same
same_field : (bs : List ℕ) (f g : Field) → Describes bs (holds f) (node_count f) (tree f) (counts f) → Describes bs (holds g) (node_count g) (tree g) (counts g) → Same f g
same_field bs f g a b = record {
  samples = record {
    held = λ s l. a.samples.held s l ∙ sym (b.samples.held s l);
    fibre = λ s l. a.samples.fibre s l ∙ sym (b.samples.fibre s l);
    values = λ s c l k. a.samples.values s c l k ∙ sym (b.samples.values s c l k);
  };
  size = a.size ∙ sym b.size;
  nodes = λ x l.
      let p = a.nodes x l in
      let q = b.nodes x (omega (arith, a.size, b.size)) in
      (p.0 ∙ sym q.0, (p.1.0 ∙ sym q.1.0, λ c k. p.1.1 c k ∙ sym (q.1.1 c k)), p.2 ∙ sym q.2, p.3 ∙ sym q.3);
  counts = λ x h l k. a.counts x h l k ∙ sym (b.counts x h (omega (arith, a.size, b.size)) k);
}

pub taking : (bs : List ℕ) → IsBytes bs → first_fault bs ≡ None → (f : Field) → holds f ≡ table_in bs → Describes bs (holds f) (node_count f) (tree f) (counts f) → Taken bs f
taking bs bytes none f samples d = record {
  keeps = keeps_unless_fault bs none;
  samples = samples;
  describes = d;
  written = file_again bs bytes (keeps_unless_fault bs none) (holds f) (node_count f) (tree f) (counts f) d;
  alone = λ g w. same_field bs f g d (subst (λ b. Describes b (holds g) (node_count g) (tree g) (counts g)) w (file_describes (holds g) (node_count g) (tree g) (counts g)));
}

-- the two ways in which nodes are no tree
tree_named : (bs : List ℕ) (a b : Option ℕ) (e : Flaw) → option_or (option_map flaws.Links a) (option_map flaws.Boxes b) ≡ Some e → ((x : ℕ) → a ≡ Some x → first_fault bs ≡ Some (5, x)) → ((x : ℕ) → a ≡ None → b ≡ Some x → first_fault bs ≡ Some (6, x)) → Refused bs (flaw_fault e)
tree_named bs (Some x) b e h links boxes = let s : flaws.Links x ≡ e = cc in subst (λ d. Refused bs (flaw_fault d)) s (refused bs (record { check = Links; «record» = x }) (links x refl))
tree_named bs None (Some x) e h links boxes = let s : flaws.Boxes x ≡ e = cc in subst (λ d. Refused bs (flaw_fault d)) s (refused bs (record { check = Boxes; «record» = x }) (boxes x refl refl))
tree_named bs None None e h links boxes = absurd cc

tree_none : (a b : Option ℕ) → option_or (option_map flaws.Links a) (option_map flaws.Boxes b) ≡ None → (a ≡ None) × (b ≡ None)
tree_none None None h = (refl, refl)
tree_none None (Some x) h = absurd cc
tree_none (Some x) b h = absurd cc

module _ (o : Body) where
  abbrev bs : List ℕ
  bs = o.file.now

  by_samples : (p : ℕ → Bool) (q : Option ℕ) → lowest p o.outline.samples ≡ q → lowest p (sample_total bs) ≡ q
  by_samples p q e = ap (lowest p) (sym o.samples) ∙ e

  by_nodes : (p : ℕ → Bool) (q : Option ℕ) → lowest p o.outline.nodes ≡ q → lowest p (node_total bs) ≡ q
  by_nodes p q e = ap (lowest p) (sym o.nodes) ∙ e

  pub samples_refused : (e : Fault) → Err e ≡ blame Sample (lowest (bad_sample bs) o.outline.samples) → Refused bs e
  samples_refused e h = blames bs Sample _ e h (λ i f. sample_fault bs o.marked o.laid_out i (by_samples (bad_sample bs) (Some i) f))

  module _ (s : Ok tt ≡ blame Sample (lowest (bad_sample bs) o.outline.samples)) where
    samples_good : lowest (bad_sample bs) (sample_total bs) ≡ None
    samples_good = by_samples (bad_sample bs) None (blamed_none Sample _ s)

    pub each_good : (i : ℕ) → i < o.outline.samples → bad_sample bs i ≡ false
    each_good i l = lowest_none (bad_sample bs) (sample_total bs) samples_good i (omega (arith, o.samples))

    pub nodes_refused : (e : Fault) → ReadsNodes bs (Err e) → Refused bs e
    nodes_refused e h = blames bs Node _ e h (λ x f. node_fault bs o.marked o.laid_out samples_good x f)

    module _ (w : ArrayVec BoxNode) (n : Nodes bs w) where
      tree_told : flaw (array_vec_len w) (node_at w.items) ≡ option_or (option_map flaws.Links (lowest (bad_links bs) (node_total bs))) (option_map flaws.Boxes (lowest (bad_boxes bs) (node_total bs)))
      tree_told =
          ap (λ m. flaw m (node_at w.items)) n.size
          ∙ tree_flaw bs (node_at w.items) n.nodes (omega (arith, o.nodes, o.some_nodes)) n.good (lowest (bad_links bs) (node_total bs)) refl

      pub tree_refused : (e : Flaw) → flaw (array_vec_len w) (node_at w.items) ≡ Some e → Refused bs (flaw_fault e)
      tree_refused e h =
          tree_named bs (lowest (bad_links bs) (node_total bs)) (lowest (bad_boxes bs) (node_total bs)) e (sym tree_told ∙ h)
          (λ x f. link_fault bs o.marked o.laid_out samples_good n.good x f)
          (λ x f g. box_fault bs o.marked o.laid_out samples_good n.good f x g)

      module _ (law : true ≡ lawful (array_vec_len w) (node_at w.items)) (f : Field) (p : Planted w.items f) where
        tree_good : (lowest (bad_links bs) (node_total bs) ≡ None) × (lowest (bad_boxes bs) (node_total bs) ≡ None)
        tree_good = tree_none _ _ (sym tree_told ∙ unflawed (array_vec_len w) (node_at w.items) (sym law))

        field_size : node_count f ≡ node_total bs
        field_size = p.size ∙ n.size

        field_nodes : (x : ℕ) → x < node_total bs → tree f x ≡ tree_in bs x
        field_nodes x l = p.shape x ∙ n.nodes x l

        pub leaves_refused : (e : Fault) → Err e ≡ blame Leaf (lowest (λ i. not (named_leaf bs f i)) o.outline.samples) → Refused bs e
        leaves_refused e h =
            blames bs Leaf _ e h
            (λ i k. leaf_fault bs o.marked o.laid_out samples_good n.good tree_good.0 tree_good.1 i (sym (leaves_same bs f field_size field_nodes) ∙ by_samples _ (Some i) k))

        module _ (leaves : Ok tt ≡ blame Leaf (lowest (λ i. not (named_leaf bs f i)) o.outline.samples)) (g : Field) (samples : holds g ≡ table_in bs) (size : node_count g ≡ node_count f) (shape : (x : ℕ) → tree g x ≡ tree f x) (bytes : IsBytes bs) where
          leaves_good : lowest (bad_leaf bs) (sample_total bs) ≡ None
          leaves_good = sym (leaves_same bs f field_size field_nodes) ∙ by_samples _ None (blamed_none Leaf _ leaves)

          loaded_size : node_count g ≡ node_total bs
          loaded_size = size ∙ field_size

          loaded_nodes : (x : ℕ) → x < node_total bs → tree g x ≡ tree_in bs x
          loaded_nodes x l = shape x ∙ field_nodes x l

          counts_told : lowest (λ x. not (same_counts bs g x)) (node_total bs) ≡ lowest (bad_counts bs) (node_total bs)
          counts_told = counts_same bs g loaded_size loaded_nodes samples bytes (rises_from_checks bs (sample_total bs) (λ i l. lowest_none (bad_sample bs) (sample_total bs) samples_good i l))

          pub counts_refused : (e : Fault) → Err e ≡ blame Counts (lowest (λ x. not (same_counts bs g x)) o.outline.nodes) → Refused bs e
          counts_refused e h =
              blames bs Counts _ e h
              (λ x k. count_fault bs o.marked o.laid_out samples_good n.good tree_good.0 tree_good.1 leaves_good x (sym counts_told ∙ by_nodes _ (Some x) k))

          pub taken : Ok tt ≡ blame Counts (lowest (λ x. not (same_counts bs g x)) o.outline.nodes) → Taken bs g
          taken h =
              let none = by_nodes (λ x. not (same_counts bs g x)) None (blamed_none Counts _ h) in
              taking bs bytes (no_faults bs o.marked o.laid_out samples_good n.good tree_good.0 tree_good.1 leaves_good (sym counts_told ∙ none)) g samples
              (describes bs g loaded_size loaded_nodes samples bytes (rises_from_checks bs (sample_total bs) (λ i l. lowest_none (bad_sample bs) (sample_total bs) samples_good i l)) none)
