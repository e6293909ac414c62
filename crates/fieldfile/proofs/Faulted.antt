-- The first fault of a file, check by check: a check that no record fails is passed over, one that a record fails is named. Assumes nothing.
use Rattle.std.proofs.Common.{◌≡◌, ℕ, suc, Bool, true, false, not, List, [], ◌∷◌, Some, None, Option, Ok, Err, sym, refl, ap, ◌∙◌, arith}
use Rattle.std.specs.Option.{option_map, option_or}
use Rattle.ranking.specs.Lowest.{lowest}
use Rattle.ranking.proofs.Found.{none_lowest, is_lowest}
use Rattle.records.specs.Checks.{Test, marked, laid_out, first_failed, first_fault, bad_sample, bad_node, bad_links, bad_boxes, bad_leaf, bad_counts}
use Rattle.records.specs.Readings.{sample_total, node_total}
use Rattle.fieldfile.specs.Faults.{blame}
use Rattle.fieldfile.specs.declared.faults.Check.{Check}
use Rattle.fieldfile.specs.declared.faults.Fault.{Fault}

-- what a check tells of its lowest record
pub blamed_none : (c : Check) (o : Option ℕ) → Ok tt ≡ blame c o → o ≡ None
blamed_none c None e = refl
blamed_none c (Some i) e = cc

pub blamed_some : (c : Check) (o : Option ℕ) (f : Fault) → Err f ≡ blame c o → (o ≡ Some f.«record») × (f.check ≡ c)
blamed_some c None f e = cc
blamed_some c (Some i) f e = let s : f ≡ record { check = c; «record» = i } = cc in (ap (λ (g : Fault). Some g.«record») (sym s), ap (λ (g : Fault). g.check) s)

module _ (c n : ℕ) (p : ℕ → Bool) (ks : List Test) where
  skips : lowest p n ≡ None → first_failed c ((n, p) ∷ ks) ≡ first_failed (suc c) ks
  skips e = ap (λ o. option_or (option_map (λ i. (c, i)) o) (first_failed (suc c) ks)) e

  stops : (i : ℕ) → lowest p n ≡ Some i → first_failed c ((n, p) ∷ ks) ≡ Some (c, i)
  stops i e = ap (λ o. option_or (option_map (λ i. (c, i)) o) (first_failed (suc c) ks)) e

one_fails : (b : Bool) → b ≡ false → lowest (λ i. not b) 1 ≡ Some 0
one_fails b e = sym (is_lowest (λ i. not b) 1 (Some 0) (omega arith, ap not e, λ k l. absurd (omega arith)))

one_passes : (b : Bool) → b ≡ true → lowest (λ i. not b) 1 ≡ None
one_passes b e = none_lowest (λ i. not b) 1 (λ k l. ap not e)

module _ (bs : List ℕ) where
  counts_test : List Test
  counts_test = (node_total bs, bad_counts bs) ∷ []

  leaf_tests : List Test
  leaf_tests = (sample_total bs, bad_leaf bs) ∷ (node_total bs, bad_counts bs) ∷ []

  box_tests : List Test
  box_tests = (node_total bs, bad_boxes bs) ∷ (sample_total bs, bad_leaf bs) ∷ (node_total bs, bad_counts bs) ∷ []

  link_tests : List Test
  link_tests = (node_total bs, bad_links bs) ∷ (node_total bs, bad_boxes bs) ∷ (sample_total bs, bad_leaf bs) ∷ (node_total bs, bad_counts bs) ∷ []

  node_tests : List Test
  node_tests = (node_total bs, bad_node bs) ∷ (node_total bs, bad_links bs) ∷ (node_total bs, bad_boxes bs) ∷ (sample_total bs, bad_leaf bs) ∷ (node_total bs, bad_counts bs) ∷ []

  sample_tests : List Test
  sample_tests = (sample_total bs, bad_sample bs) ∷ (node_total bs, bad_node bs) ∷ (node_total bs, bad_links bs) ∷ (node_total bs, bad_boxes bs) ∷ (sample_total bs, bad_leaf bs) ∷ (node_total bs, bad_counts bs) ∷ []

  pub unmarked : marked bs ≡ false → first_fault bs ≡ Some (1, 0)
  unfolding first_fault
  unmarked m = stops 1 1 (λ i. not (marked bs)) ((1, λ i. not (laid_out bs)) ∷ (sample_total bs, bad_sample bs) ∷ (node_total bs, bad_node bs) ∷ (node_total bs, bad_links bs) ∷ (node_total bs, bad_boxes bs) ∷ (sample_total bs, bad_leaf bs) ∷ (node_total bs, bad_counts bs) ∷ []) 0 (one_fails (marked bs) m)

  module _ (m : marked bs ≡ true) where
    from_layout : first_fault bs ≡ first_failed 2 ((1, λ i. not (laid_out bs)) ∷ (sample_total bs, bad_sample bs) ∷ (node_total bs, bad_node bs) ∷ (node_total bs, bad_links bs) ∷ (node_total bs, bad_boxes bs) ∷ (sample_total bs, bad_leaf bs) ∷ (node_total bs, bad_counts bs) ∷ [])
    unfolding first_fault
    from_layout = skips 1 1 (λ i. not (marked bs)) ((1, λ i. not (laid_out bs)) ∷ (sample_total bs, bad_sample bs) ∷ (node_total bs, bad_node bs) ∷ (node_total bs, bad_links bs) ∷ (node_total bs, bad_boxes bs) ∷ (sample_total bs, bad_leaf bs) ∷ (node_total bs, bad_counts bs) ∷ []) (one_passes (marked bs) m)

    pub ill_laid : laid_out bs ≡ false → first_fault bs ≡ Some (2, 0)
    unfolding sample_tests
    ill_laid l = from_layout ∙ stops 2 1 (λ i. not (laid_out bs)) sample_tests 0 (one_fails (laid_out bs) l)

    module _ (l : laid_out bs ≡ true) where
      from_samples : first_fault bs ≡ first_failed 3 sample_tests
      unfolding sample_tests
      from_samples = from_layout ∙ skips 2 1 (λ i. not (laid_out bs)) sample_tests (one_passes (laid_out bs) l)

      pub sample_fault : (i : ℕ) → lowest (bad_sample bs) (sample_total bs) ≡ Some i → first_fault bs ≡ Some (3, i)
      unfolding sample_tests node_tests
      sample_fault i e = from_samples ∙ stops 3 (sample_total bs) (bad_sample bs) node_tests i e

      module _ (s : lowest (bad_sample bs) (sample_total bs) ≡ None) where
        from_nodes : first_fault bs ≡ first_failed 4 node_tests
        unfolding sample_tests node_tests
        from_nodes = from_samples ∙ skips 3 (sample_total bs) (bad_sample bs) node_tests s

        pub node_fault : (x : ℕ) → lowest (bad_node bs) (node_total bs) ≡ Some x → first_fault bs ≡ Some (4, x)
        unfolding node_tests link_tests
        node_fault x e = from_nodes ∙ stops 4 (node_total bs) (bad_node bs) link_tests x e

        module _ (n : lowest (bad_node bs) (node_total bs) ≡ None) where
          from_links : first_fault bs ≡ first_failed 5 link_tests
          unfolding node_tests link_tests
          from_links = from_nodes ∙ skips 4 (node_total bs) (bad_node bs) link_tests n

          pub link_fault : (x : ℕ) → lowest (bad_links bs) (node_total bs) ≡ Some x → first_fault bs ≡ Some (5, x)
          unfolding link_tests box_tests
          link_fault x e = from_links ∙ stops 5 (node_total bs) (bad_links bs) box_tests x e

          module _ (k : lowest (bad_links bs) (node_total bs) ≡ None) where
            from_boxes : first_fault bs ≡ first_failed 6 box_tests
            unfolding link_tests box_tests
            from_boxes = from_links ∙ skips 5 (node_total bs) (bad_links bs) box_tests k

            pub box_fault : (x : ℕ) → lowest (bad_boxes bs) (node_total bs) ≡ Some x → first_fault bs ≡ Some (6, x)
            unfolding box_tests leaf_tests
            box_fault x e = from_boxes ∙ stops 6 (node_total bs) (bad_boxes bs) leaf_tests x e

            module _ (b : lowest (bad_boxes bs) (node_total bs) ≡ None) where
              from_leaves : first_fault bs ≡ first_failed 7 leaf_tests
              unfolding box_tests leaf_tests
              from_leaves = from_boxes ∙ skips 6 (node_total bs) (bad_boxes bs) leaf_tests b

              pub leaf_fault : (i : ℕ) → lowest (bad_leaf bs) (sample_total bs) ≡ Some i → first_fault bs ≡ Some (7, i)
              unfolding leaf_tests counts_test
              leaf_fault i e = from_leaves ∙ stops 7 (sample_total bs) (bad_leaf bs) counts_test i e

              module _ (f : lowest (bad_leaf bs) (sample_total bs) ≡ None) where
                from_counts : first_fault bs ≡ first_failed 8 counts_test
                unfolding leaf_tests counts_test
                from_counts = from_leaves ∙ skips 7 (sample_total bs) (bad_leaf bs) counts_test f

                pub count_fault : (x : ℕ) → lowest (bad_counts bs) (node_total bs) ≡ Some x → first_fault bs ≡ Some (8, x)
                unfolding counts_test
                count_fault x e = from_counts ∙ stops 8 (node_total bs) (bad_counts bs) [] x e

                pub no_faults : lowest (bad_counts bs) (node_total bs) ≡ None → first_fault bs ≡ None
                unfolding counts_test
                no_faults e = from_counts ∙ skips 8 (node_total bs) (bad_counts bs) [] e
