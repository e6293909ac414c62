-- The list filled from a heap, place by place, and what it is of a view. Assumes nothing.
use Rattle.std.proofs.Common.{◌≡◌, ℕ, ◌+◌, ◌<◌, ◌≤◌, ◌≢◌, min, Bool, true, false, [], ◌∷◌, ◌++◌, replicate, length-set, ◌&&◌, eqb, nat_lt, List, length, get_or, set, Option, Some, get_or-set_same, get_or-set_other, sym, refl, ap, ◌∙◌, subst, ⊎_elim, arith}
use Rattle.std.specs.List.Sorted.{IsPermutation}
use Rattle.std.proofs.lemmas.Bool.{both_ways, cases_eq}
use Rattle.std.proofs.lemmas.Bool.Decides.{nat_tests}
use Rattle.heap.specs.Order.{ahead, Heaped}
use Rattle.ranking.specs.Counts.{count}
use Rattle.ranking.specs.Majority.{tally}
use Rattle.ranking.specs.Ranks.{nearer, rank, first}
use Rattle.ranking.proofs.Counted.{count_ext, count_some}
use Rattle.ranking.proofs.Leading.{leader_same}
use Rattle.ranking.proofs.Ranked.{nearer_strict, rank_below, rank_one}
use Rattle.samples.specs.Candidates.{Holds, by_weight, candidate}
use Rattle.samples.specs.declared.candidate.Candidate.{Candidate}
use Rattle.samples.proofs.Picking.{Picked, picked, picking_some}
use Rattle.samples.proofs.Voting.{Voting, voting_begins, voting_steps}
use Rattle.entries.specs.Singles.{reaches, Last}
use Rattle.entries.proofs.Commonest.{reached_is}
use Rattle.field.specs.Fields.{holds}
use Rattle.field.specs.declared.state.Field.{Field}
use Rattle.samples.specs.Slots.{held, fibre_at}
use Rattle.walk.proofs.Begun.{zeros_at}
use Rattle.walks.specs.Views.{View, pick, active, left, listed, place_of}
use Rattle.walks.proofs.Same.{pick_finds}
use Rattle.walk.specs.Lists.{Lists}
use Rattle.walk.specs.Moments.{Ranked, Fills, wants}
use Rattle.walk.specs.declared.moment.Wanted.TheVariants.{Listed}
use Rattle.walk.specs.declared.nearby.List.{List as Found}

-- one vote more
pub small_more : (vs : List ℕ) (n i : ℕ) → n < length vs → ((f : ℕ) → get_or vs f 0 ≤ i) → (f : ℕ) → get_or (set vs n (get_or vs n 0 + 1)) f 0 ≤ i + 1
small_more vs n i l small f =
    ⊎_elim (λ (e : f ≡ n). rw e (omega (arith, get_or-set_same vs n (get_or vs n 0 + 1) 0 l, small n))) (λ (ne : f ≢ n). omega (arith, get_or-set_other vs n f (get_or vs n 0 + 1) 0 ne, small f))
    (cases_eq f n)

module _ (w : ℕ → ℕ) (p : ℕ → Bool) (code : ℕ → ℕ) where
  pub filled_more : (i : ℕ) (xs ys : List Candidate) (vs ss : List ℕ) (s : ℕ) → Voting w p code i xs vs → ((j : ℕ) → j < i → Ranked w p j (get_or ss j 0)) → Picked w p i ys s → Heaped (ahead by_weight) ys → code s < 8 → i < length ss →
      Voting w p code (i + 1) ys (set vs (code s) (get_or vs (code s) 0 + 1)) × ((j : ℕ) → j < i + 1 → Ranked w p j (get_or (set ss i s) j 0))
  filled_more i xs ys vs ss s voting before picked heaped low long = (
    voting_steps w p code i xs ys vs s voting picked heaped low,
    λ j l.
        ⊎_elim
        (λ (e : j ≡ i).
        let at : get_or (set ss i s) j 0 ≡ s = ap (λ n. get_or (set ss i s) n 0) e ∙ get_or-set_same ss i s 0 long in
        subst (λ n. Ranked w p j n) (sym at) (record { slot = picked.slot; passes = picked.held; ranked = picked.ranked ∙ sym e }))
        (λ (ne : j ≢ i). subst (λ n. Ranked w p j n) (sym (get_or-set_other ss i j s 0 ne)) (before j (omega arith)))
        (cases_eq j i),
  )

-- the list after i places, where xs remain of the heap that had start, with the votes vs
pub record Filling (d : Field) (k : ℕ) (start : List Candidate) (i : ℕ) (xs : List Candidate) (ss vs : List ℕ) : Type 0 where
  pub heaped : Heaped (ahead by_weight) xs
  pub small : (f : ℕ) → get_or vs f 0 ≤ i
  pub size : length vs ≡ 8
  pub long : length ss ≡ 32
  pub filled : (w : ℕ → ℕ) (p : ℕ → Bool) → Holds start w p 256 → k ≤ count p 256 → ((s : ℕ) → s < 256 → p s ≡ true → held (holds d) s ≡ true) → Voting w p (fibre_at (holds d)) i xs vs × ((j : ℕ) → j < i → Ranked w p j (get_or ss j 0))

pub filling_begins : (d : Field) (k : ℕ) (start : List Candidate) → Heaped (ahead by_weight) start → (ss : List ℕ) → length ss ≡ 32 → Filling d k start 0 start ss (replicate 8 0)
filling_begins d k start heaped ss long = record {
  heaped = heaped;
  small = λ f. let z = zeros_at 8 f in omega arith;
  size = refl;
  long = long;
  filled = λ w p has enough known. (voting_begins w p (fibre_at (holds d)) start (replicate 8 0) has heaped refl (λ f l. zeros_at 8 f), λ i l. absurd (omega arith));
}

module _ (d : Field) (k : ℕ) (start : List Candidate) (i : ℕ) (xs ys : List Candidate) (ss vs : List ℕ) (was : Filling d k start i xs ss vs) (more : i < k) (most : k ≤ 32) (heaped : Heaped (ahead by_weight) ys) where
  -- the candidate x came out of the heap
  module _ (x : Candidate) (out : IsPermutation xs (ys ++ x ∷ [])) (none : (e : Candidate) (n : ℕ) → n < length xs → ahead by_weight (get_or xs n e) x ≡ false) where
    picks : (w : ℕ → ℕ) (p : ℕ → Bool) → Holds start w p 256 → k ≤ count p 256 → ((s : ℕ) → s < 256 → p s ≡ true → held (holds d) s ≡ true) → Picked w p i ys x.slot
    picks w p has enough known = picked w p i (omega arith) xs (was.filled w p has enough known).0.holds ys x out none

    pub filling_some : (n : ℕ) → (held (holds d) x.slot ≡ true → fibre_at (holds d) x.slot ≡ n) → n < 8 → Filling d k start (i + 1) ys (set ss i x.slot) (set vs n (get_or vs n 0 + 1))
    filling_some n code low = record {
      heaped = heaped;
      small = small_more vs n i (omega (arith, was.size)) was.small;
      size = length-set vs n _ ∙ was.size;
      long = length-set ss i _ ∙ was.long;
      filled = λ w p has enough known.
          let f = was.filled w p has enough known in
          let pick = picks w p has enough known in
          let of = code (known x.slot pick.slot pick.held) in
          let m = filled_more w p (fibre_at (holds d)) i xs ys vs ss x.slot f.0 f.1 pick heaped (omega arith) (omega (arith, was.long)) in
          (subst (λ n. Voting w p (fibre_at (holds d)) (i + 1) ys (set vs n (get_or vs n 0 + 1))) of m.0, m.1);
    }

    -- its slot holds a sample
    pub filling_held : held (holds d) x.slot ≡ false → Filling d k start (i + 1) ys (set ss i x.slot) vs
    filling_held out = record {
      heaped = heaped;
      small = λ f. omega (arith, was.small f);
      size = was.size;
      long = length-set ss i _ ∙ was.long;
      filled = λ w p has enough known. let pick = picks w p has enough known in absurd (both_ways (held (holds d) x.slot) out (known x.slot pick.slot pick.held));
    }

  -- the heap is not empty
  pub filling_none : xs ≡ [] → Filling d k start (i + 1) ys ss vs
  filling_none empty = record {
    heaped = heaped;
    small = λ f. omega (arith, was.small f);
    size = was.size;
    long = was.long;
    filled = λ w p has enough known. absurd (picking_some w p i (omega arith) xs (was.filled w p has enough known).0.holds empty);
  }

-- the slots that are wanted by weight are the listed ones
module _ (v : View) (k : ℕ) (whole : v.slots ≡ 256) (r : Option Candidate) (last : Last v.near (active v k) (min (left v k) (count (active v k) 256)) r) where
  pub wants_listed : (s : ℕ) → s < 256 → wants (Listed r) v k s ≡ listed v k s
  unfolding listed
  wants_listed s l =
      let a = reached_is v.near (active v k) (left v k) r last s l in
      let e = ap (λ n. rank (active v k) (nearer v.near) n s) whole in
      let b : active v k s ≡ true → reaches r (Some (candidate v.near s)) ≡ nat_lt (rank (active v k) (nearer v.near) v.slots s) (left v k) = λ h. a h ∙ ap (λ n. nat_lt n (left v k)) (sym e) in
      grind arith

  module _ (many : count (listed v k) v.slots ≡ k) where
    pub wants_count : count (wants (Listed r) v k) 256 ≡ k
    wants_count = count_ext (wants (Listed r) v k) (listed v k) 256 wants_listed ∙ ap (count (listed v k)) (sym whole) ∙ many

    ranks_same : (s : ℕ) → rank (wants (Listed r) v k) (nearer v.weight) 256 s ≡ rank (listed v k) (nearer v.weight) v.slots s
    ranks_same s =
        count_ext (λ t. wants (Listed r) v k t && nearer v.weight t s) (λ t. listed v k t && nearer v.weight t s) 256 (λ t l. ap (λ b. b && nearer v.weight t s) (wants_listed t l))
        ∙ ap (λ n. rank (listed v k) (nearer v.weight) n s) (sym whole)

    all_first : (s : ℕ) → s < 256 → first (wants (Listed r) v k) (nearer v.weight) 256 k s ≡ listed v k s
    all_first s l =
        let a = wants_listed s l in
        let c = wants_count in
        let b = rank_below (nearer v.weight) (nearer_strict v.weight) (wants (Listed r) v k) 256 s l in
        grind (arith, nat_tests)

    place_says : (i s : ℕ) → place_of v k i s ≡ true → (listed v k s ≡ true) × (rank (listed v k) (nearer v.weight) v.slots s ≡ i)
    unfolding place_of
    place_says i s h = (grind arith, grind (arith, nat_tests))

    place_is : (i s : ℕ) → s < 256 → place_of v k i s ≡ (listed v k s && eqb (rank (listed v k) (nearer v.weight) v.slots s) i)
    unfolding place_of
    place_is i s l = refl

    pub fills_lists : (f : Found) → Fills v.weight (wants (Listed r) v k) v.fibre k f → Lists v k f
    fills_lists f fills = record {
      fibre = fills.fibre ∙ leader_same _ _ 8 (λ j l.
          count_ext (λ s. first (wants (Listed r) v k) (nearer v.weight) 256 k s && eqb (v.fibre s) j) (λ s. listed v k s && eqb (v.fibre s) j) 256 (λ s m. ap (λ b. b && eqb (v.fibre s) j) (all_first s m))
          ∙ ap (λ n. tally (listed v k) v.fibre n j) (sym whole));
      slots = λ i l.
          let a = fills.slots i l in
          let s = get_or f.slots i 0 in
          let there : place_of v k i s ≡ true =
          let b = wants_listed s a.slot in let c = ranks_same s in let d = place_is i s a.slot in let e = a.passes in let g = a.ranked in grind (arith, nat_tests)
          in
          let found = pick_finds (place_of v k i) v.slots (count_some (place_of v k i) v.slots s (omega (arith, a.slot)) there) in
          let n = pick (place_of v k i) v.slots in
          let x = place_says i s there in
          let y = place_says i n found.1 in
          rank_one (nearer v.weight) (nearer_strict v.weight) (listed v k) v.slots s n (omega (arith, a.slot)) found.0 x.0 y.0 (x.1 ∙ sym y.1);
    }
