-- What writing a node does to the nodes of a plan and to their counts. Assumes nothing.
use Rattle.std.proofs.Common.{◌≡◌, ℕ, suc, ◌+◌, ◌<◌, ◌≤◌, ◌≢◌, List, length, get_or, take, set, sym, refl, ap, ◌∙◌, subst, arith, Bor, ◌++◌, [], ◌∷◌, length-append, length-set, get_or-set_other, get_or-set_same}
use Rattle.std.proofs.Math.Seq.{get_or-append_seam, take-append_seam}
use Rattle.std.proofs.lemmas.List.{get_or_default, get_or-take, take-take, take-set-le}
use Rattle.std.specs.List.{refill}
use Rattle.arrayvec.proofs.ArrayVecLemmas.{items-with_items}
use Rattle.boxes.specs.Views.{kind_of, links_of, box_of, node_of, node_at, counts_at, blank}
use Rattle.boxes.specs.declared.node.Node.{Node}
use Rattle.boxes.specs.declared.bounds.Bounds.{Bounds}
use Rattle.boxes.specs.declared.node.Kind.{Kind}
use Rattle.boxes.specs.declared.node.Kind.TheVariants.{Leaf, Split, Shrink}
use Rattle.trees.specs.Boxes.{Box, lower, upper}
use Rattle.trees.specs.Trees as trees
use Rattle.trees.specs.Drawing.{Plan, stop, halve, focus, size, Is, Numbered, Tallied, plan, of_fibre}
use Rattle.trees.specs.Samples.{Samples}
use Rattle.trees.proofs.Numbering.{numbered_ext}
use Rattle.drawing.specs.Builds.{over, nodes_of, Ready, Follows, Built, Draws}
use Rattle.drawing.specs.Held.{held_in}
use Rattle.drawing.specs.Runs.{Run, of_code}
use Rattle.drawing.specs.declared.build.Builder.{Builder}
use Rattle.drawing.proofs.Lodging.{run_code}
use Rattle.samples.specs.declared.slots.Slots.{Slots}

module _ (a : Samples) where
  -- counts speak of their own nodes alone
  tallied_ext : (c d : ℕ → ℕ → ℕ) (p : Plan) (k : Box) (n : ℕ) → ((x f : ℕ) → n ≤ x → x < n + size p → d x f ≡ c x f) → Tallied a c p k n → Tallied a d p k n
  tallied_ext c d stop k n h i = λ f l. h n f (omega arith) (omega arith) ∙ i f l
  tallied_ext c d (halve p q) k n h i = (
    λ f l. h n f (omega arith) (omega arith) ∙ i.0 f l,
    tallied_ext c d p (lower k) (suc n) (λ x f l m. h x f (omega arith) (omega arith)) i.1,
    tallied_ext c d q (upper k) (suc n + size p) (λ x f l m. h x f (omega arith) (omega arith)) i.2,
  )
  tallied_ext c d (focus j p) k n h i = (
    λ f l. h n f (omega arith) (omega arith) ∙ i.0 f l,
    tallied_ext c d p j (suc n) (λ x f l m. h x f (omega arith) (omega arith)) i.1,
    λ f l. h (suc n + size p) f (omega arith) (omega arith) ∙ i.2 f l,
  )

  -- x is a node of this kind, box and children, with these counts
  pub record Reads (x : Node) (t : trees.Kind) (k : Box) (f s : ℕ) (c : ℕ → ℕ) : Type 0 where
    pub kind : kind_of x.kind ≡ t
    pub box : box_of x.bounds ≡ k
    pub first : (links_of x.kind).0 ≡ f
    pub second : (links_of x.kind).1 ≡ s
    pub counts : (g : ℕ) → g < 8 → get_or x.counts g 0 ≡ c g

  -- a leaf's node
  abbrev pub leaf_of : Bounds → List ℕ → Node
  leaf_of k cs = record { kind = Leaf; bounds = k; counts = cs }

  pub leaf_reads : (k : Bounds) (cs : List ℕ) (c : ℕ → ℕ) → ((g : ℕ) → g < 8 → get_or cs g 0 ≡ c g) → Reads (leaf_of k cs) trees.leaf (box_of k) 0 0 c
  leaf_reads k cs c h = record { kind = refl; box = refl; first = refl; second = refl; counts = h }

  -- a leaf whose counts are those of a run of its box
  pub run_leaf : (k : Bounds) (xs cs : List ℕ) → Run a (box_of k) xs → ((f : ℕ) → f < 8 → get_or cs f 0 ≡ of_code a xs f) → Reads (leaf_of k cs) trees.leaf (box_of k) 0 0 (of_fibre a (box_of k))
  run_leaf k xs cs r h = leaf_reads k cs (of_fibre a (box_of k)) (λ f l. h f l ∙ run_code a (box_of k) xs r f)

  is_reads : (l : List Node) (n : ℕ) (x : Node) (t : trees.Kind) (k : Box) (f s : ℕ) (c : ℕ → ℕ) → get_or l n blank ≡ x → Reads x t k f s c → Is (node_at l n) t k f s
  is_reads l n x t k f s c e r = (
    ap (λ (y : Node). kind_of y.kind) e ∙ r.kind,
    (
      ap (λ (y : Node). y.bounds.depth) e ∙ ap (λ (j : Box). j.depth) r.box,
      λ b m. ap (λ (y : Node). (box_of y.bounds).corner b) e ∙ ap (λ (j : Box). j.corner b) r.box,
    ),
    ap (λ (y : Node). (links_of y.kind).0) e ∙ r.first,
    ap (λ (y : Node). (links_of y.kind).1) e ∙ r.second,
  )

  reads_counts : (l : List Node) (n : ℕ) (x : Node) (t : trees.Kind) (k : Box) (f s : ℕ) (c : ℕ → ℕ) → get_or l n blank ≡ x → Reads x t k f s c → (g : ℕ) → g < 8 → counts_at l n g ≡ c g
  reads_counts l n x t k f s c e r g m = ap (λ (y : Node). get_or y.counts g 0) e ∙ r.counts g m

  -- a part stays where only nodes outside it change
  abbrev Same : ℕ → ℕ → List Node → List Node → Type 0
  Same n r old new = (x : ℕ) → n ≤ x → x < r → get_or new x blank ≡ get_or old x blank

  keep : (p : Plan) (k : Box) (n : ℕ) (old new : List Node) → Same n (n + size p) old new → Numbered (node_at old) p k n → Numbered (node_at new) p k n
  keep p k n old new h i = numbered_ext (node_at old) (node_at new) p k n (λ x l m. ap node_of (sym (h x l m))) i

  keep_counts : (p : Plan) (k : Box) (n : ℕ) (old new : List Node) → Same n (n + size p) old new → Tallied a (counts_at old) p k n → Tallied a (counts_at new) p k n
  keep_counts p k n old new h i = tallied_ext (counts_at old) (counts_at new) p k n (λ x f l m. ap (λ (y : Node). get_or y.counts f 0) (h x l m)) i

  -- a part at another number, in another box
  move : (p : Plan) (j k : Box) (m n : ℕ) (l : List Node) → j ≡ k → m ≡ n → Numbered (node_at l) p j m → Numbered (node_at l) p k n
  move p j k m n l e o i = subst (λ (t : ℕ). Numbered (node_at l) p k t) o (subst (λ (b : Box). Numbered (node_at l) p b m) e i)

  move_counts : (p : Plan) (j k : Box) (m n : ℕ) (l : List Node) → j ≡ k → m ≡ n → Tallied a (counts_at l) p j m → Tallied a (counts_at l) p k n
  move_counts p j k m n l e o i = subst (λ (t : ℕ). Tallied a (counts_at l) p k t) o (subst (λ (b : Box). Tallied a (counts_at l) p b m) e i)

  -- what stays at the front
  module _ (old new : List Node) (b : take (length old) new ≡ old) where
    still : (m : ℕ) → m < length old → get_or new m blank ≡ get_or old m blank
    still m l = sym (get_or-take (length old) new m blank l) ∙ ap (λ (ns : List Node). get_or ns m blank) b

    stays : (n : ℕ) → n ≤ length old → take n new ≡ take n old
    stays n l = sym (take-take n (length old) new l) ∙ ap (take n) b

  -- one node more
  module _ (old new : List Node) (x : Node) (e : new ≡ old ++ x ∷ []) where
    pushed_at : get_or new (length old) blank ≡ x
    pushed_at = ap (λ (l : List Node). get_or l (length old) blank) e ∙ get_or-append_seam old x [] blank

    pushed_before : take (length old) new ≡ old
    pushed_before = ap (take (length old)) e ∙ take-append_seam old (x ∷ [])

    pub pushed_long : length new ≡ length old + 1
    pushed_long = ap length e ∙ length-append old (x ∷ [])

    pub leaf_built : (k : Box) → Reads x trees.leaf k 0 0 (of_fibre a k) → Built a stop k old new
    leaf_built k r = record {
      long = pushed_long;
      numbered = is_reads new (length old) x trees.leaf k 0 0 (of_fibre a k) pushed_at r;
      tallied = reads_counts new (length old) x trees.leaf k 0 0 (of_fibre a k) pushed_at r;
      before = pushed_before;
    }

  -- another kind for node n of l
  abbrev given : Node → Kind → Node
  given x t = record { kind = t; bounds = x.bounds; counts = x.counts }

  module _ (l : List Node) (n : ℕ) (t : Kind) (d : Node) where
    abbrev with_kind : List Node
    with_kind = refill (length l) l (set l n (given (get_or l n d) t))

    now : Node
    now = given (get_or l n d) t

    is_set : with_kind ≡ set l n now
    unfolding now
    is_set = items-with_items (record { items = l }) (set l n now) (length-set l n now)

    set_long : length with_kind ≡ length l
    set_long = ap length is_set ∙ length-set l n now

    set_here : n < length l → get_or with_kind n blank ≡ given (get_or l n blank) t
    unfolding now
    set_here h =
        ap (λ (ns : List Node). get_or ns n blank) is_set
        ∙ (get_or-set_same l n now blank h ∙ ap (λ (y : Node). given y t) (get_or_default l n d blank h))

    set_there : (m : ℕ) → m ≢ n → get_or with_kind m blank ≡ get_or l m blank
    set_there m h = ap (λ (ns : List Node). get_or ns m blank) is_set ∙ get_or-set_other l n m now blank h

  -- a parent x comes behind old, then the nodes up to w, and then its kind is written
  module _ (k : Box) (old u w : List Node) (x d : Node) (n : ℕ) (t : Kind) (r : Reads x trees.leaf k 0 0 (of_fibre a k)) (e : u ≡ old ++ x ∷ []) (h : n ≡ length old)
      (more : length u ≤ length w) (b : take (length u) w ≡ u) where
    long_u : length u ≡ length old + 1
    long_u = pushed_long old u x e

    parent : get_or (with_kind w n t d) (length old) blank ≡ given x t
    parent =
        let long = long_u in
        ap (λ (m : ℕ). get_or (with_kind w n t d) m blank) (sym h)
        ∙ (set_here w n t d (omega arith)
        ∙ ap (λ (y : Node). given y t) (ap (λ (m : ℕ). get_or w m blank) h ∙ (still u w b (length old) (omega arith) ∙ pushed_at old u x e)))

    parent_reads : (c : trees.Kind) (f s : ℕ) → kind_of t ≡ c → (links_of t).0 ≡ f → (links_of t).1 ≡ s → Reads (given x t) c k f s (of_fibre a k)
    parent_reads c f s p q z = record { kind = p; box = r.box; first = q; second = z; counts = r.counts }

    before_parent : take (length old) (with_kind w n t d) ≡ old
    before_parent =
        let long = long_u in
        ap (take (length old)) (is_set w n t d)
        ∙ (take-set-le (length old) w n (now w n t d) (omega arith)
        ∙ (stays u w b (length old) (omega arith) ∙ pushed_before old u x e))

    behind_parent : (m : ℕ) → length old < m → get_or (with_kind w n t d) m blank ≡ get_or w m blank
    behind_parent m l = set_there w n t d m (omega arith)

  pub split_built : (p q : Plan) (k j i : Box) (old u v w : List Node) (x d : Node) (n s : ℕ) → j ≡ lower k → i ≡ upper k → Reads x trees.leaf k 0 0 (of_fibre a k) → u ≡ old ++ x ∷ [] → n ≡ length old
      → Built a p j u v → Built a q i v w → s ≡ length v → Built a (halve p q) k old (with_kind w n (Split (n + 1) s) d)
  split_built p q k j i old u v w x d n s hj hi r e h one two hs =
      let long = pushed_long old u x e in
      let y = one.long in
      let z = two.long in
      let t = Split (n + 1) s in
      let new = with_kind w n t d in
      let o : length u ≡ suc (length old) = omega arith in
      let o' : length v ≡ suc (length old) + size p = omega arith in
      let b : take (length u) w ≡ u = stays v w two.before (length u) (omega arith) ∙ one.before in
      let more : length u ≤ length w = omega arith in
      let c = of_fibre a k in
      let here = parent k old u w x d n t r e h more b in
      let reads = parent_reads k old u w x d n t r e h more b trees.split (suc (length old)) (suc (length old) + size p) refl (omega arith) (omega arith) in
      let behind = behind_parent k old u w x d n t r e h more b in
      let low : Same (suc (length old)) (suc (length old) + size p) v new = λ m f g. behind m (omega arith) ∙ still v w two.before m (omega arith) in
      let high : Same (suc (length old) + size p) (suc (length old) + size p + size q) w new = λ m f g. behind m (omega arith) in
      record {
        long = set_long w n t d ∙ omega arith;
        numbered = (
          is_reads new (length old) (given x t) trees.split k _ _ c here reads,
          keep p (lower k) (suc (length old)) v new low (move p j (lower k) (length u) (suc (length old)) v hj o one.numbered),
          keep q (upper k) (suc (length old) + size p) w new high (move q i (upper k) (length v) (suc (length old) + size p) w hi o' two.numbered),
        );
        tallied = (
          reads_counts new (length old) (given x t) trees.split k _ _ c here reads,
          keep_counts p (lower k) (suc (length old)) v new low (move_counts p j (lower k) (length u) (suc (length old)) v hj o one.tallied),
          keep_counts q (upper k) (suc (length old) + size p) w new high (move_counts q i (upper k) (length v) (suc (length old) + size p) w hi o' two.tallied),
        );
        before = before_parent k old u w x d n t r e h more b;
      }

  pub shrink_built : (p : Plan) (k j i : Box) (old u v w : List Node) (x y d : Node) (n s : ℕ) → i ≡ j → Reads x trees.leaf k 0 0 (of_fibre a k) → u ≡ old ++ x ∷ [] → n ≡ length old
      → Built a p i u v → Reads y trees.leaf k 0 0 (λ f. 0) → w ≡ v ++ y ∷ [] → s ≡ length v → Built a (focus j p) k old (with_kind w n (Shrink (n + 1) s) d)
  shrink_built p k j i old u v w x y d n s hj r e h one ry e' hs =
      let long = pushed_long old u x e in
      let long' = pushed_long v w y e' in
      let z = one.long in
      let t = Shrink (n + 1) s in
      let new = with_kind w n t d in
      let o : length u ≡ suc (length old) = omega arith in
      let o' : length v ≡ suc (length old) + size p = omega arith in
      let b : take (length u) w ≡ u = stays v w (pushed_before v w y e') (length u) (omega arith) ∙ one.before in
      let more : length u ≤ length w = omega arith in
      let c = of_fibre a k in
      let here = parent k old u w x d n t r e h more b in
      let reads = parent_reads k old u w x d n t r e h more b trees.shrink (suc (length old)) (suc (length old) + size p) refl (omega arith) (omega arith) in
      let behind = behind_parent k old u w x d n t r e h more b in
      let low : Same (suc (length old)) (suc (length old) + size p) v new = λ m f g. behind m (omega arith) ∙ still v w (pushed_before v w y e') m (omega arith) in
      let rim : get_or new (suc (length old) + size p) blank ≡ y = behind (suc (length old) + size p) (omega arith) ∙ (ap (λ (m : ℕ). get_or w m blank) (sym o') ∙ pushed_at v w y e') in
      record {
        long = set_long w n t d ∙ omega arith;
        numbered = (
          is_reads new (length old) (given x t) trees.shrink k _ _ c here reads,
          keep p j (suc (length old)) v new low (move p i j (length u) (suc (length old)) v hj o one.numbered),
          is_reads new (suc (length old) + size p) y trees.leaf k 0 0 (λ f. 0) rim ry,
        );
        tallied = (
          reads_counts new (length old) (given x t) trees.shrink k _ _ c here reads,
          keep_counts p j (suc (length old)) v new low (move_counts p i j (length u) (suc (length old)) v hj o one.tallied),
          reads_counts new (suc (length old) + size p) y trees.leaf k 0 0 (λ f. 0) rim ry,
        );
        before = before_parent k old u w x d n t r e h more b;
      }

  pub as_plan : {P Q : Plan} {k : Box} {old new : List Node} → P ≡ Q → Built a Q k old new → Built a P k old new
  as_plan {P} {Q} {k} {old} {new} e b = subst (λ (p : Plan). Built a p k old new) (sym e) b

-- a builder c that follows the builder b asks and draws what b would with c's nodes
module _ (b c : Builder) (f : Follows b c) (k : Bounds) where
  pub ready_after : (xs : List ℕ) → Run (over b) (box_of k) xs → length (nodes_of c) + size (plan (over b) (box_of k)) ≤ 1021 → Ready c k xs
  ready_after xs r m =
      let e : over b ≡ over c = ap (λ (s : Bor Slots). held_in s.now) (sym f.slots) in
      record {
        run = subst (λ (a : Samples). Run a (box_of k) xs) e r;
        room = subst (λ (a : Samples). length (nodes_of c) + size (plan a (box_of k)) ≤ 1021) e m;
      }

  module _ (d : Builder) (h : Draws c k d) where
    pub follows_after : Follows b d
    follows_after = record { slots = h.same.slots ∙ f.slots; nodes = h.same.nodes ∙ f.nodes }

    pub drawn_after : Built (over b) (plan (over b) (box_of k)) (box_of k) (nodes_of c) (nodes_of d)
    drawn_after = subst (λ (s : Bor Slots). Built (held_in s.now) (plan (held_in s.now) (box_of k)) (box_of k) (nodes_of c) (nodes_of d)) f.slots h.drawn
