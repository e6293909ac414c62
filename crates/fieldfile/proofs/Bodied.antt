-- What the first two checks tell of a file, and its records as the code finds them. Assumes nothing.
use Rattle.std.proofs.Common.{◌≡◌, ℕ, ◌+◌, ◌-◌, ◌*◌, ◌<◌, ◌≤◌, Bool, true, false, cond, ltb, eqb, List, length, take, drop, Some, None, Ok, Err, refl, ap, ◌∙◌, arith}
use Rattle.std.proofs.lemmas.Bool.{and_parts, leb-true, eqb-true, le-leb, lt-ltb}
use Rattle.std.proofs.lemmas.Bool.Decides.{nat_tests}
use Rattle.std.specs.Option.{option_map}
use Rattle.records.specs.Bytes.{chunk}
use Rattle.records.specs.Checks.{marked, laid_out}
use Rattle.records.specs.Readings.{sample_total, node_total, sample_part, node_part}
use Rattle.fieldfile.specs.Outlines.{outline_of, outline_rule}
use Rattle.fieldfile.specs.Parts.{Part, sample, node, trailer, bytes_starting_at, part_at}
use Rattle.fieldfile.specs.declared.faults.Check.TheVariants.{Mark, Layout}
use Rattle.fieldfile.specs.declared.outline.Outline.{Outline}

module _ (bs : List ℕ) where
  pub laid_few : laid_out bs ≡ true → (sample_total bs ≤ 256) × (1 ≤ node_total bs) × (node_total bs ≤ 1021) × (length bs ≡ 20 * sample_total bs + 38 * node_total bs + 14)
  unfolding laid_out
  laid_few h =
      let p = and_parts _ _ h in
      let q = and_parts _ _ p.0 in
      let r = and_parts _ _ q.1 in
      let s = and_parts _ _ p.1 in
      (leb-true _ _ q.0, leb-true _ _ r.0, leb-true _ _ r.1, eqb-true _ _ s.1)

  pub outlined : (o : Outline) → outline_rule bs ≡ Ok o → (marked bs ≡ true) × (laid_out bs ≡ true) × (o ≡ outline_of bs)
  outlined o h = go (marked bs) (laid_out bs) refl refl h
    where
      go : (a b : Bool) → marked bs ≡ a → laid_out bs ≡ b → cond a (cond b (Ok (outline_of bs)) (Err Layout)) (Err Mark) ≡ Ok o → (marked bs ≡ true) × (laid_out bs ≡ true) × (o ≡ outline_of bs)
      go true true e f r = (e, f, cc)
      go true false e f r = cc
      go false b e f r = cc

  -- a part that is there
  part_there : (k : List ℕ → Part) (at n : ℕ) → at + n ≤ length bs → option_map k (bytes_starting_at bs at n) ≡ Some (k (chunk bs at n))
  part_there k at n l = ap (λ t. option_map k (cond t (Some (take n (drop at bs))) None)) (le-leb _ _ l)

  module _ (o : Outline) (size : length bs ≡ 20 * o.samples + 38 * o.nodes + 14) where
    pub sample_there : (i : ℕ) (b : List ℕ) → o.samples ≡ sample_total bs → i < o.samples → Some (sample b) ≡ part_at bs o i → (b ≡ sample_part bs i) × (20 * i + 20 ≤ length bs)
    unfolding sample_part
    sample_there i b s l h =
        let room : 20 * i + 20 ≤ length bs = omega arith in
        let e = h ∙ ap (λ t. cond t (option_map sample (bytes_starting_at bs (20 * i) 20)) (cond (ltb i (o.samples + o.nodes)) (option_map node (bytes_starting_at bs (20 * o.samples + 38 * (i - o.samples)) 38)) (cond (eqb i (o.samples + o.nodes)) (option_map trailer (bytes_starting_at bs (20 * o.samples + 38 * o.nodes) 14)) None))) (lt-ltb _ _ l) ∙ part_there sample (20 * i) 20 room in
        (cc, room)

    pub node_there : (x : ℕ) (b : List ℕ) → o.samples ≡ sample_total bs → x < o.nodes → Some (node b) ≡ part_at bs o (o.samples + x) → (b ≡ node_part bs x) × (20 * o.samples + 38 * x + 38 ≤ length bs)
    unfolding node_part
    node_there x b s l h =
        let room : 20 * o.samples + 38 * x + 38 ≤ length bs = omega arith in
        let i : ℕ = o.samples + x in
        let no : ltb i o.samples ≡ false = grind (arith, nat_tests) in
        let yes : ltb i (o.samples + o.nodes) ≡ true = lt-ltb _ _ (omega arith) in
        let at : 20 * o.samples + 38 * (i - o.samples) ≡ 20 * o.samples + 38 * x = omega arith in
        let e = h
        ∙ (λ j. cond (no j) (option_map sample (bytes_starting_at bs (20 * i) 20)) (cond (yes j) (option_map node (bytes_starting_at bs (at j) 38)) (cond (eqb i (o.samples + o.nodes)) (option_map trailer (bytes_starting_at bs (20 * o.samples + 38 * o.nodes) 14)) None)))
        ∙ part_there node (20 * o.samples + 38 * x) 38 room in
        let is : b ≡ chunk bs (20 * o.samples + 38 * x) 38 = cc in
        (is ∙ ap (λ n. chunk bs (20 * n + 38 * x) 38) s, room)
