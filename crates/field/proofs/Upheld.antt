-- What a field's type says is kept when its counts change along a path. Assumes nothing.
use Rattle.std.proofs.Common.{◌≡◌, ℕ, ◌+◌, ◌-◌, ◌<◌, Bool, cond, true, false, ◌&&◌, eqb, List, length, set, Some, None, refl, sym, subst, ap, ◌∙◌, arith}
use Rattle.arrayvec.specs.ArrayVec.{ArrayVec, array_vec_len, with_items}
use Rattle.arrayvec.proofs.ArrayVecLemmas.{items-with_items}
use Rattle.ranking.proofs.Counted.{count_le}
use Rattle.samples.specs.Slots.{Table, held, fibre_at, values_at}
use Rattle.trees.specs.Lawful.{lawful, right}
use Rattle.trees.specs.Samples.{lies, Right, raised, lowered}
use Rattle.trees.specs.Trees.{Rules, under}
use Rattle.trees.proofs.Lawfully.{rules_from_lawful, right_says, right_from}
use Rattle.boxes.specs.Views.{entries, node_at, counts_at}
use Rattle.boxes.specs.declared.node.Node.{Node}
use Rattle.drawing.specs.Held.{samples_of}
use Rattle.field.specs.Fields.{Change}
use Rattle.field.proofs.Refreshed.{right_admitted, right_withdrawn}

-- the counts of fibre f were changed by op on the path of v, and the others are as they were
changed_from : (op : ℕ → ℕ) (os ns : List Node) (f : ℕ) (v : ℕ → ℕ) → ((x : ℕ) → under (node_at os) v x ≡ true → counts_at ns x f ≡ op (counts_at os x f)) → ((x g : ℕ) → (eqb f g && under (node_at os) v x) ≡ false → counts_at ns x g ≡ counts_at os x g) → (x g : ℕ) → counts_at ns x g ≡ cond (eqb f g && under (node_at os) v x) (op (counts_at os x g)) (counts_at os x g)
changed_from op os ns f v changed kept x g = go (eqb f g && under (node_at os) v x) refl
  where
    go : (b : Bool) → (eqb f g && under (node_at os) v x) ≡ b → counts_at ns x g ≡ cond b (op (counts_at os x g)) (counts_at os x g)
    go true e = let s : f ≡ g = grind arith in let h = changed x (grind arith) in rw s at h
    go false e = kept x g e

module _ (os ns : List Node) (f : ℕ) (v : ℕ → ℕ) (kept : (x g : ℕ) → (eqb f g && under (node_at os) v x) ≡ false → counts_at ns x g ≡ counts_at os x g) where
  pub raised_from : ((x : ℕ) → under (node_at os) v x ≡ true → counts_at ns x f ≡ counts_at os x f + 1) → (x g : ℕ) → counts_at ns x g ≡ raised (node_at os) (counts_at os) f v x g
  unfolding raised
  raised_from up x g = let h = changed_from (λ n. n + 1) os ns f v up kept x g in grind arith

  pub lowered_from : ((x : ℕ) → under (node_at os) v x ≡ true → counts_at ns x f ≡ counts_at os x f - 1) → (x g : ℕ) → counts_at ns x g ≡ lowered (node_at os) (counts_at os) f v x g
  unfolding lowered
  lowered_from down x g = let h = changed_from (λ n. n - 1) os ns f v down kept x g in grind arith

-- the nodes w became z, of the same shape, with the counts changed by c
pub record Recounted (c : Change) (f : ℕ) (v : ℕ → ℕ) (w z : ArrayVec Node) : Type 0 where
  pub size : array_vec_len z ≡ array_vec_len w
  pub shape : (x : ℕ) → node_at z.items x ≡ node_at w.items x
  pub counts : (x g : ℕ) → counts_at z.items x g ≡ c (node_at w.items) (counts_at w.items) f v x g

-- the nodes w as a slice os
module _ (w : ArrayVec Node) (os : List Node) (is : os ≡ w.items) where
  pub rules_seen : lawful (array_vec_len w) (node_at w.items) ≡ true → Rules (length os) (node_at os)
  rules_seen h = subst (λ l. Rules (length l) (node_at l)) (sym is) (rules_from_lawful _ _ h)

  -- no node counts more samples than there are slots
  pub few_seen : (t : Table) → right (array_vec_len w) (node_at w.items) (counts_at w.items) (samples_of t) ≡ true → (f : ℕ) → f < 8 → (x : ℕ) → x < length os → counts_at os x f < 65535
  few_seen t h f k x l =
      let r = subst (λ l. Right (length l) (node_at l) (counts_at l) (samples_of t)) (sym is) (right_says _ _ _ _ h) in
      let few = count_le (lies (node_at os) (samples_of t) x f) 256 in
      omega (arith, r x f l k)

  -- the slice was written over with ns
  pub written : (c : Change) (f : ℕ) (v : ℕ → ℕ) (ns : List Node) → length ns ≡ length os → ((x : ℕ) → node_at ns x ≡ node_at os x) → ((x g : ℕ) → counts_at ns x g ≡ c (node_at os) (counts_at os) f v x g) → Recounted c f v w (with_items w ns)
  written c f v ns long shape counts =
      let e : (with_items w ns).items ≡ ns = items-with_items w ns (long ∙ ap length is) in
      record {
        size = ap length e ∙ long ∙ ap length is;
        shape = λ x. ap (λ l. node_at l x) e ∙ shape x ∙ ap (λ l. node_at l x) is;
        counts = λ x g. ap (λ l. counts_at l x g) e ∙ counts x g ∙ ap (λ l. c (node_at l) (counts_at l) f v x g) is;
      }

module _ (c : Change) (f : ℕ) (v : ℕ → ℕ) (w z : ArrayVec Node) (h : Recounted c f v w z) where
  same : node_at z.items ≡ node_at w.items
  same = λ i x. h.shape x i

  pub rules_upheld : lawful (array_vec_len w) (node_at w.items) ≡ true → lawful (array_vec_len z) (node_at z.items) ≡ true
  rules_upheld was = (λ i. lawful (h.size i) (same i)) ∙ was

  pub counts_upheld : (u : Table) → Right (array_vec_len w) (node_at w.items) (counts_at z.items) (samples_of u) → right (array_vec_len z) (node_at z.items) (counts_at z.items) (samples_of u) ≡ true
  counts_upheld u r = (λ i. right (h.size i) (same i) (counts_at z.items) (samples_of u)) ∙ right_from (array_vec_len w) (node_at w.items) (counts_at z.items) (samples_of u) r

module _ (w z : ArrayVec Node) (t u : Table) (s : ℕ) (was : right (array_vec_len w) (node_at w.items) (counts_at w.items) (samples_of t) ≡ true) (l : s < 256) (long : length t ≡ 256) where
  pub admit_upheld : (f : ℕ) (vs : List ℕ) → held t s ≡ false → u ≡ set t s (Some (record { fibre = f; values = vs })) → Recounted raised f (entries vs) w z → right (array_vec_len z) (node_at z.items) (counts_at z.items) (samples_of u) ≡ true
  admit_upheld f vs empty e h =
      let r = right_admitted (array_vec_len w) (node_at w.items) (counts_at w.items) t s (right_says _ _ _ _ was) l long f vs empty (counts_at z.items) h.counts in
      counts_upheld raised f (entries vs) w z h u (subst (λ a. Right (array_vec_len w) (node_at w.items) (counts_at z.items) (samples_of a)) (sym e) r)

  pub withdraw_upheld : held t s ≡ true → u ≡ set t s None → Recounted lowered (fibre_at t s) (entries (values_at t s)) w z → right (array_vec_len z) (node_at z.items) (counts_at z.items) (samples_of u) ≡ true
  withdraw_upheld full e h =
      let r = right_withdrawn (array_vec_len w) (node_at w.items) (counts_at w.items) t s (right_says _ _ _ _ was) l long full (counts_at z.items) h.counts in
      counts_upheld lowered (fibre_at t s) (entries (values_at t s)) w z h u (subst (λ a. Right (array_vec_len w) (node_at w.items) (counts_at z.items) (samples_of a)) (sym e) r)
