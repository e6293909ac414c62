-- Counts that were right stay right when a sample is admitted and when one is withdrawn. Assumes nothing.
use Rattle.std.proofs.Common.{◌≡◌, ℕ, ◌<◌, Bool, ◌&&◌, eqb, true, false, List, [], length, set, is_some, Some, None, Option, unwrap_or, ap, ◌∙◌, ⊎_elim, arith}
use Rattle.std.specs.Option.{option_map}
use Rattle.std.proofs.lemmas.List.{get_or-set_same, get_or-set_other}
use Rattle.std.proofs.lemmas.Bool.{cases_eq, eq-eqb, ne_eqb}
use Rattle.ranking.proofs.Counted.{count_ext}
use Rattle.samples.specs.Slots.{Point, Table, at, held, fibre_at, values_at}
use Rattle.trees.specs.Samples.{lies, Right, filled, emptied, raised, lowered}
use Rattle.trees.specs.Trees.{Node, under}
use Rattle.trees.proofs.Counting.{admit_right, withdraw_right}
use Rattle.boxes.specs.Views.{entries}
use Rattle.drawing.specs.Held.{samples_of}

-- whether what a slot holds is a sample of fibre g that belongs at or below node x
abbrev lain : (ℕ → Node) → ℕ → ℕ → Option Point → Bool
lain node x g o = is_some o && (eqb (unwrap_or (option_map (λ p. p.fibre) o) 0) g && under node (entries (unwrap_or (option_map (λ p. p.values) o) [])) x)

module _ (m : ℕ) (node : ℕ → Node) (counts : ℕ → ℕ → ℕ) (t : Table) (z : ℕ) (right : Right m node counts (samples_of t)) (l : z < 256) (long : length t ≡ 256) where
  module _ (f : ℕ) (vs : List ℕ) (empty : held t z ≡ false) where
    new : Table
    new = set t z (Some (record { fibre = f; values = vs }))

    lies_filled : (x g u : ℕ) → lies node (filled (samples_of t) z f (entries vs)) x g u ≡ lies node (samples_of new) x g u
    unfolding lies filled new
    lies_filled x g u =
        ⊎_elim
        (λ (e : u ≡ z).
        let k : lies node (samples_of new) x g u ≡ (eqb f g && under node (entries vs) x) = ap (lain node x g) (ap (at new) e ∙ get_or-set_same t z _ None (omega arith)) in
        let q = eq-eqb u z e in
        grind arith)
        (λ ne.
        let k : lies node (samples_of new) x g u ≡ lies node (samples_of t) x g u = ap (lain node x g) (get_or-set_other t z u _ None ne) in
        let q = ne_eqb u z ne in
        grind arith)
        (cases_eq u z)

    pub right_admitted : (after : ℕ → ℕ → ℕ) → ((x g : ℕ) → after x g ≡ raised node counts f (entries vs) x g) → Right m node after (samples_of (set t z (Some (record { fibre = f; values = vs }))))
    unfolding new filled
    right_admitted after h x g b k =
        let was = admit_right node m counts (samples_of t) z f (entries vs) right l empty x g b k in
        let same = count_ext (lies node (filled (samples_of t) z f (entries vs)) x g) (lies node (samples_of new) x g) 256 (λ u _. lies_filled x g u) in
        h x g ∙ was ∙ same

  module _ (full : held t z ≡ true) where
    gone : Table
    gone = set t z None

    lies_emptied : (x g u : ℕ) → lies node (emptied (samples_of t) z) x g u ≡ lies node (samples_of gone) x g u
    unfolding lies emptied gone
    lies_emptied x g u =
        ⊎_elim
        (λ (e : u ≡ z).
        let k : lies node (samples_of gone) x g u ≡ false = ap (lain node x g) (ap (at gone) e ∙ get_or-set_same t z None None (omega arith)) in
        let q = eq-eqb u z e in
        grind arith)
        (λ ne.
        let k : lies node (samples_of gone) x g u ≡ lies node (samples_of t) x g u = ap (lain node x g) (get_or-set_other t z u None None ne) in
        let q = ne_eqb u z ne in
        grind arith)
        (cases_eq u z)

    pub right_withdrawn : (after : ℕ → ℕ → ℕ) → ((x g : ℕ) → after x g ≡ lowered node counts (fibre_at t z) (entries (values_at t z)) x g) → Right m node after (samples_of (set t z None))
    unfolding gone emptied
    right_withdrawn after h x g b k =
        let was = withdraw_right node m counts (samples_of t) z right l full x g b k in
        let same = count_ext (lies node (emptied (samples_of t) z) x g) (lies node (samples_of gone) x g) 256 (λ u _. lies_emptied x g u) in
        h x g ∙ was ∙ same
