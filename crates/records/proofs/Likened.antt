-- Two trees of the same nodes keep the same rules, have the same paths, and the same counts are right. Assumes nothing.
use Rattle.std.proofs.Common.{◌≡◌, ℕ, zero, suc, ◌+◌, ◌%◌, ◌<◌, Bool, true, false, cond, ◌&&◌, ◌||◌, eqb, leb, ltb, sym, refl, ap, ◌∙◌, arith}
use Rattle.ranking.proofs.Counted.{count_ext}
use Rattle.trees.specs.Boxes.{every, side, Box, spans, covers, cut, lower, upper, Alike, Inside}
use Rattle.trees.specs.Trees.{leaf, split, shrink, Node, parts, names, Rules, choice, next, reached, under}
use Rattle.trees.proofs.Pathed.{reached_le}
use Rattle.records.specs.Described.{SameTree}

pub alike_back : (j k : Box) → Alike j k → Alike k j
alike_back j k a = (sym a.0, λ b l. sym (a.1 b l))

alike_through : (j k l : Box) → Alike j k → Alike k l → Alike j l
alike_through j k l a b = (a.0 ∙ b.0, λ c m. a.1 c m ∙ b.1 c m)

pub alike_lower : (j k : Box) → Alike j k → Alike (lower j) (lower k)
unfolding lower
alike_lower j k a = (ap suc a.0, a.1)

pub alike_upper : (j k : Box) → Alike j k → Alike (upper j) (upper k)
unfolding upper
alike_upper j k a = (ap suc a.0, λ b l i. a.1 b l i + cond (eqb b (cut (a.0 i))) (side (suc (a.0 i)) b) 0)

inside_alike : (j k l m : Box) → Alike j k → Alike l m → Inside j l → Inside k m
inside_alike j k l m a b i = (
  omega (arith, a.0, b.0, i.0),
  λ c h.
      let d = i.1 c h in
      let e = a.1 c h in
      let f = b.1 c h in
      let g : side j.depth c ≡ side k.depth c = ap (λ t. side t c) a.0 in
      let o : side l.depth c ≡ side m.depth c = ap (λ t. side t c) b.0 in
      (omega arith, omega arith),
)

pub every_ext : (p q : ℕ → Bool) (n : ℕ) → ((b : ℕ) → b < n → p b ≡ q b) → every p n ≡ every q n
every_ext p q zero h = refl
every_ext p q (suc n) h = λ i. h n (omega arith) i && every_ext p q n (λ b l. h b (omega arith)) i

covers_same : (j k : Box) (v w : ℕ → ℕ) → Alike j k → ((b : ℕ) → b < 8 → v b ≡ w b) → covers j v ≡ covers k w
unfolding covers spans
covers_same j k v w a h =
    every_ext (λ b. spans j b (v b)) (λ b. spans k b (w b)) 8
    (λ b l. (λ i. leb (a.1 b l i) (h b l i) && ltb (h b l i) (a.1 b l i + side (a.0 i) b)))

module _ (m : ℕ) (p q : ℕ → Node) (same : SameTree m p q) (rules : Rules m p) where
  names_same : (y x : ℕ) → x < m → names p x y ≡ names q x y
  unfolding names
  names_same y x l = let s = same x l in λ i. parts (s.0 i) && (eqb (s.2 i) y || eqb (s.3 i) y)

  -- the box of a child
  child_alike : (c d : ℕ) → c < m → c ≡ d → Alike (p c).box (q d).box
  child_alike c d l e = rw (← e) (same c l).1

  pub rules_same : Rules m q
  rules_same = record {
    some = rules.some;
    depths = λ x l. omega (arith, (same x l).1.0, rules.depths x l);
    corners = λ x b l k. let s = (same x l).1 in let r = rules.corners x b l k in (omega (arith, s.1 b k, r.0), (λ i. sym (s.1 b k) i % side (sym s.0 i) b) ∙ r.1);
    root = let s = (same 0 rules.some).1 in (sym s.0 ∙ rules.root.0, λ b l. sym (s.1 b l) ∙ rules.root.1 b l);
    leaves = λ x l e. let s = same x l in let r = rules.leaves x l (s.0 ∙ e) in (sym s.2 ∙ r.0, sym s.3 ∙ r.1);
    links = λ x l e. let s = same x l in let r = rules.links x l (ap parts s.0 ∙ e) in (omega (arith, s.2, r.0), omega (arith, s.2, r.1), omega (arith, s.3, r.2), omega (arith, s.3, r.3));
    twice = λ x l e f. let s = same x l in rules.twice x l (ap parts s.0 ∙ e) (s.2 ∙ f ∙ sym s.3);
    once = λ y l k. sym (count_ext (λ x. names p x y) (λ x. names q x y) m (names_same y)) ∙ rules.once y l k;
    splits = splits_same;
    shrinks = shrinks_same;
  }
    where
      splits_same : (x : ℕ) → x < m → (q x).kind ≡ split → ((q x).box.depth < 80) × Alike (q (q x).first).box (lower (q x).box) × Alike (q (q x).second).box (upper (q x).box)
      splits_same x l e =
          let s = same x l in
          let k = s.0 ∙ e in
          let r = rules.splits x l k in
          let c = rules.links x l (ap parts k) in
          let f = alike_back _ _ (child_alike (p x).first (q x).first c.1 s.2) in
          let g = alike_back _ _ (child_alike (p x).second (q x).second c.3 s.3) in (
            omega (arith, s.1.0, r.0),
            alike_through _ _ _ f (alike_through _ _ _ r.1 (alike_lower _ _ s.1)),
            alike_through _ _ _ g (alike_through _ _ _ r.2 (alike_upper _ _ s.1)),
          )

      shrinks_same : (x : ℕ) → x < m → (q x).kind ≡ shrink → Inside (q (q x).first).box (q x).box × ((q (q x).second).kind ≡ leaf) × Alike (q (q x).second).box (q x).box
      shrinks_same x l e =
          let s = same x l in
          let k = s.0 ∙ e in
          let r = rules.shrinks x l k in
          let c = rules.links x l (ap parts k) in
          let g = alike_back _ _ (child_alike (p x).second (q x).second c.3 s.3) in (
            inside_alike _ _ _ _ (child_alike (p x).first (q x).first c.1 s.2) s.1 r.0,
            rw (← s.3) (sym (same (p x).second c.3).0 ∙ r.1),
            alike_through _ _ _ g (alike_through _ _ _ r.2 s.1),
          )

  module _ (v w : ℕ → ℕ) (values : (b : ℕ) → b < 8 → v b ≡ w b) where
    next_same : (x y : ℕ) → x < m → next p v x y ≡ next q w x y
    unfolding next choice
    next_same x y l = go (parts (p x).kind) refl
      where
        go : (b : Bool) → parts (p x).kind ≡ b → (parts (p x).kind && eqb (cond (covers (p (p x).first).box v) (p x).first (p x).second) y) ≡ (parts (q x).kind && eqb (cond (covers (q (q x).first).box w) (q x).first (q x).second) y)
        go true e =
            let s = same x l in
            let c = rules.links x l e in
            let f = covers_same _ _ v w (child_alike (p x).first (q x).first c.1 s.2) values in
            λ i. parts (s.0 i) && eqb (cond (f i) (s.2 i) (s.3 i)) y
        go false e = let k : parts (q x).kind ≡ false = sym (ap parts (same x l).0) ∙ e in grind arith

    pub reached_same : (x : ℕ) → x < m → reached p v x ≡ reached q w x
    unfolding reached
    reached_same zero l = refl
    reached_same (suc x) l =
        let i = reached_same x (omega arith) in
        let n = next_same (reached p v x) (suc x) (omega (arith, reached_le p v x)) in
        let e : next q w (reached p v x) (suc x) ≡ next q w (reached q w x) (suc x) = ap (λ y. next q w y (suc x)) i in
        λ j. cond ((n ∙ e) j) (suc x) (i j)

    pub under_same : (x : ℕ) → x < m → under p v x ≡ under q w x
    unfolding under
    under_same x l = ap (λ y. eqb y x) (reached_same x l)
