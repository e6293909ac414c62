-- A list parted in place: what passes a test moves to the front, slot by slot. Assumes nothing.
use Rattle.std.proofs.Common.{◌≡◌, ℕ, ◌+◌, ◌<◌, ◌≤◌, Bool, true, false, not, cond, ◌&&◌, List, length, get_or, take, drop, count_by, sym, ap, ◌∙◌, subst, ⊎_elim, arith, length-drop, length-take}
use Rattle.std.specs.List.{AllWithin, SwappedAt}
use Rattle.std.specs.List.Sorted.{IsPermutation}
use Rattle.std.proofs.lemmas.Bool.{cases_eq}
use Rattle.std.proofs.lemmas.List.{get_or-take, get_or-drop, get_or_default}
use Rattle.std.proofs.lemmas.List.Sorted.{IsPermutation-trans, sum_by-IsPermutation}
use Rattle.std.proofs.lemmas.List.Sums.{sum_by-take-drop}
use Rattle.drawing.specs.Runs.{Parted}
use Rattle.drawing.proofs.Running.{count_by_ext, count_by_none}

-- ys is xs reordered: of its first i slots the first m pass p, and the others do not
pub record Parting (p : ℕ → Bool) (xs ys : List ℕ) (m i : ℕ) : Type 0 where
  pub moved : IsPermutation xs ys
  pub behind : m ≤ i
  pub passes : AllWithin (λ s. p s ≡ true) ys 0 m
  pub fails : AllWithin (λ s. p s ≡ false) ys m i

module _ (p : ℕ → Bool) (xs : List ℕ) where
  pub parting_skip : (ys : List ℕ) (m i : ℕ) → Parting p xs ys m i → i < length ys → p (get_or ys i 0) ≡ false → Parting p xs ys m (i + 1)
  parting_skip ys m i h l e = record {
    moved = h.moved;
    behind = omega (arith, h.behind);
    passes = h.passes;
    fails = λ k d b c. ⊎_elim (λ (s : k ≡ i). ap (λ n. p (get_or ys n d)) s ∙ (ap p (get_or_default ys i d 0 l) ∙ e)) (λ n. h.fails k d b (omega arith)) (cases_eq k i);
  }

  pub parting_swap : (ys zs : List ℕ) (m i : ℕ) → Parting p xs ys m i → i < length ys → p (get_or ys i 0) ≡ true → IsPermutation ys zs → SwappedAt ys zs m i → Parting p xs zs (m + 1) (i + 1)
  parting_swap ys zs m i h l e shuffled places = record {
    moved = IsPermutation-trans xs ys zs h.moved shuffled;
    behind = omega (arith, h.behind);
    passes = λ k d b c.
        let behind = h.behind in
        ⊎_elim
        (λ (s : k ≡ m). ap (λ n. p (get_or zs n d)) s ∙ (ap p (places.0 d) ∙ (ap p (get_or_default ys i d 0 l) ∙ e)))
        (λ n. ap p (places.2 k d n (λ s. absurd (omega arith))) ∙ h.passes k d b (omega arith))
        (cases_eq k m);
    fails = λ k d b c.
        ⊎_elim
        (λ (s : k ≡ i). ap (λ n. p (get_or zs n d)) s ∙ (ap p (places.1 d) ∙ h.fails m d (omega arith) (omega arith)))
        (λ n. ap p (places.2 k d (λ s. absurd (omega arith)) n) ∙ h.fails k d (omega arith) (omega arith))
        (cases_eq k i);
  }

  pub parting_all : (ys : List ℕ) (m i : ℕ) → Parting p xs ys m i → i ≡ length ys → Parted p xs ys m
  parting_all ys m i h end = record {
    moved = h.moved;
    within = omega (arith, h.behind);
    parted = (h.passes, λ k d b c. h.fails k d b (omega arith));
  }

  -- the two parts, by how many of them pass another test
  module _ (ys : List ℕ) (m : ℕ) (h : Parted p xs ys m) where
    in_front : (k : ℕ) → k < length (take m ys) → p (get_or (take m ys) k 0) ≡ true
    in_front k l =
        let n : k < m = omega (arith, length-take m ys) in
        ap p (get_or-take m ys k 0 n) ∙ h.parted.0 k 0 (omega arith) n

    in_rest : (k : ℕ) → k < length (drop m ys) → p (get_or (drop m ys) k 0) ≡ false
    in_rest k l = ap p (get_or-drop m ys k 0) ∙ h.parted.1 (m + k) 0 (omega arith) (omega (arith, length-drop m ys))

    pub front_counts : (q : ℕ → Bool) → count_by q (take m ys) ≡ count_by (λ s. p s && q s) xs
    front_counts q =
        let a = count_by_ext q (λ s. p s && q s) (take m ys) (λ k l. let e = in_front k l in grind arith) in
        let b = count_by_none (λ s. p s && q s) (drop m ys) (λ k l. let e = in_rest k l in grind arith) in
        let c = sum_by-take-drop (λ s. cond (p s && q s) 1 0) ys m in
        let d = sum_by-IsPermutation (λ s. cond (p s && q s) 1 0) xs ys h.moved in
        omega arith

    pub rest_counts : (q : ℕ → Bool) → count_by q (drop m ys) ≡ count_by (λ s. not (p s) && q s) xs
    rest_counts q =
        let a = count_by_ext q (λ s. not (p s) && q s) (drop m ys) (λ k l. let e = in_rest k l in grind arith) in
        let b = count_by_none (λ s. not (p s) && q s) (take m ys) (λ k l. let e = in_front k l in grind arith) in
        let c = sum_by-take-drop (λ s. cond (not (p s) && q s) 1 0) ys m in
        let d = sum_by-IsPermutation (λ s. cond (not (p s) && q s) 1 0) xs ys h.moved in
        omega arith

pub parting_at : {p : ℕ → Bool} {xs ys zs : List ℕ} {m n i : ℕ} → zs ≡ ys → n ≡ m → Parting p xs ys m i → Parting p xs zs n i
parting_at {p} {xs} {ys} {zs} {m} {n} {i} same at h =
    subst (λ (l : List ℕ). Parting p xs l n i) (sym same) (subst (λ (k : ℕ). Parting p xs ys k i) (sym at) h)
