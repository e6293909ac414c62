-- The active node of least depth, and lowest number of these, is the one that a walk opens. Assumes nothing.
use Rattle.std.proofs.Common.{◌≡◌, ℕ, ◌<◌, Bool, true, false, ◌&&◌, ◌||◌, not, List, length, get_or, Some, is_some, refl, sym, ap, ◌∙◌, ⊎_elim, arith}
use Rattle.std.specs.List.{list_all}
use Rattle.std.proofs.lemmas.Bool.{cases_Bool, both_ways}
use Rattle.std.proofs.lemmas.Bool.Decides.{nat_tests}
use Rattle.ranking.specs.Counts.{count}
use Rattle.ranking.specs.Ranks.{lower, nearer}
use Rattle.ranking.proofs.Counted.{count_none, count_some, count_find}
use Rattle.walks.specs.Scenes.{Scene}
use Rattle.walks.specs.Views.{active, is_counted}
use Rattle.walks.specs.Walk.{Place, is_within, is_node, view, is_active, opens}
use Rattle.entries.specs.OpenNodes.{node_in, open_node, sooner}
use Rattle.entries.specs.Shows.{is_alone, members, Bounded, Shows}
use Rattle.entries.specs.Spans.{Spans}
use Rattle.entries.specs.declared.entry.Entry.{Entry}
use Rattle.entries.specs.declared.entry.Of.{Of}
use Rattle.entries.specs.declared.entry.Of.TheVariants.{Node, Sample}
use Rattle.entries.specs.declared.open.OpenNode.{OpenNode}
use Rattle.entries.specs.Sums.{passes}
use Rattle.entries.specs.declared.part.Part.TheVariants.{Active}
use Rattle.entries.specs.declared.span.Span.{Span}
use Rattle.walks.proofs.Every.{every_ext}
use Rattle.entries.proofs.Everywhere.{everywhere}
use Rattle.entries.proofs.Firsts.{open_is}
use Rattle.entries.proofs.Opened.{opened_at}
use Rattle.entries.proofs.Queueing.{blank}
use Rattle.entries.proofs.Shown.{within_is}
use Rattle.entries.proofs.Summed.{sum_find}

-- a slot that passes, where some are counted
pub counted_find : (q : ℕ → Bool) (n : ℕ) → 0 < count q n → (s : ℕ) × (s < n) × (q s ≡ true)
counted_find q n h =
    let none = count_none (λ _. false) n (λ _ _. refl) in
    let r = count_find (λ _. false) q n (omega arith) in
    (r.0, r.1, r.3)

module _ (c : Scene) (p : ℕ → Place) where
  -- only a node has samples within it
  is_entry_of : (o : Of) (y s : ℕ) → is_within (p s) y ≡ true → members c p o s ≡ true → (t : ℕ) × (o ≡ Node y t)
  is_entry_of (Node x t) y s w m =
      let a = within_is (p s) y w in
      let b = within_is (p s) x (grind arith) in
      let same : x ≡ y = cc in
      (t, ap (λ n. Node n t) same)
  is_entry_of (Sample r) y s w m = let a = ap is_alone (within_is (p s) y w) in absurd (both_ways (is_alone (p s)) a (grind arith))

  depth_is : (o : Of) (e : Entry) (x t : ℕ) → Bounded c o e → o ≡ Node x t → (x < c.nodes) × (t ≡ c.depth x)
  depth_is (Node x t) e y u b same = let n : x ≡ y = cc in let d : t ≡ u = cc in let depth = ap c.depth n in (omega (arith, b.0), sym d ∙ b.1 ∙ depth)
  depth_is (Sample r) e y u b same = absurd (cc)

  some_is : (o : Of) (y t : ℕ) (b : Bool) → is_some (node_in o b) ≡ true → o ≡ Node y t → t ≡ c.depth y → node_in o b ≡ Some (record { depth = c.depth y; number = y })
  some_is (Node x u) y t true h same depth = let n : x ≡ y = cc in let d : u ≡ c.depth y = cc in ap (λ m. Some (record { depth = u; number = m })) n ∙ ap (λ m. Some (record { depth = m; number = y })) d
  some_is (Node x u) y t false h same depth = cc
  some_is (Sample r) y t b h same depth = cc

  module _ (k : ℕ) (z : Span) (spans : Spans (view c p) k z) (es : List Entry) (shows : Shows c p es) where
    -- an open node is an active one
    active_if : (i : ℕ) (d : Entry) (x : OpenNode) → i < length es → open_node z (get_or es i d) ≡ Some x → is_active c k p x.number ≡ true
    unfolding is_active
    active_if i d x l e =
        let y = get_or es i d in
        let f = shows.faithful i d l in
        let r = counted_find (members c p y.of) c.slots (omega (arith, f.some, f.counts)) in
        let node = open_is z y x e in
        let o = opened_at c p k z spans y r.0 f r.2 in
        let some = ap is_some e in
        let m : members c p (Node x.number x.depth) r.0 ≡ true = ap (λ u. members c p u r.0) (sym node) ∙ r.2 in
        let more = count_some (λ s. active (view c p) k s && is_within (p s) x.number) c.slots r.0 r.1 (grind arith) in
        grind (arith, nat_tests)

    -- the entry of an active node
    entry_if : (y : ℕ) → is_active c k p y ≡ true → (i : ℕ) × (i < length es) × (open_node z (get_or es i blank) ≡ Some (record { depth = c.depth y; number = y }))
    unfolding is_active
    entry_if y a =
        let r = counted_find (λ s. active (view c p) k s && is_within (p s) y) c.slots (grind (arith, nat_tests)) in
        let s = r.0 in
        let inside = r.2 in
        let w : is_within (p s) y ≡ true = grind arith in
        let once = shows.once s r.1 in
        let entered : (view c p).entered s ≡ true = grind arith in
        let e = sum_find (λ u. members c p u.of s) es (grind arith) in
        let x = get_or es e.0 blank in
        let f = shows.faithful e.0 blank e.1 in
        let m = e.2 blank in
        let o = opened_at c p k z spans x s f m in
        let node = is_entry_of x.of y s w m in
        let depth = depth_is x.of x y node.0 f.bounds node.1 in
        let here = ap is_node (within_is (p s) y w) in
        let is : is_some (open_node z x) ≡ true = grind arith in
        (e.0, e.1, some_is x.of y node.0 (passes (Active z) x) is node.1 depth.1)

    -- where no active node comes before it
    pub opens_if : (i : ℕ) (d : Entry) (x : OpenNode) → i < length es → open_node z (get_or es i d) ≡ Some x → ((j : ℕ) (u : Entry) (y : OpenNode) → j < length es → open_node z (get_or es j u) ≡ Some y → sooner y x ≡ false) → opens c k p x.number ≡ true
    unfolding opens nearer
    opens_if i d x l e least =
        let a = active_if i d x l e in
        let depth = depth_is (get_or es i d).of (get_or es i d) x.number x.depth (shows.faithful i d l).bounds (open_is z (get_or es i d) x e) in
        let none =
        count_none (λ y. is_active c k p y && nearer c.depth y x.number) c.nodes
        (λ y m.
        ⊎_elim
        (λ h.
        let there = entry_if y h in
        let s = least there.0 blank (record { depth = c.depth y; number = y }) there.1 there.2 in
        let t : lower (c.depth y) y (c.depth x.number) x.number ≡ false = ap (λ n. lower (c.depth y) y n x.number) (sym depth.1) ∙ s in
        grind arith)
        (λ h. grind arith)
        (cases_Bool (is_active c k p y)))
        in
        grind (arith, nat_tests)

    -- no entry is an open node where no sample stands in an active one
    pub counted_is : list_all (λ e. not (is_some (open_node z e))) es ≡ is_counted (view c p) k
    unfolding is_counted
    counted_is =
        let v = view c p in
        let q = λ (e : Entry). not (is_some (open_node z e)) in
        let qs = λ (s : ℕ). not (active v k s && v.in_node s) in
        everywhere c p es shows q qs (λ s l i d m h. ap not (opened_at c p k z spans (get_or es i d) s (shows.faithful i d m) h)) ∙ every_ext (λ s. not (v.entered s) || qs s) qs c.slots (λ s l. grind arith)
