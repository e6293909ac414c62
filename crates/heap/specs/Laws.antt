-- What a total order says of which item comes first: of two that differ exactly one does, of two that are equal
-- neither, and coming first carries over from item to item. Assumes nothing.
use Rattle.std.specs.Prelude.{◌≡◌, true, false, ◌≢◌, refl}
use Rattle.std.specs.Ordering.{is_lt, ordering_reverse}
use Rattle.std.specs.declared.cmp.Ordering.{Ordering}
use Rattle.std.specs.declared.cmp.Ordering.TheVariants.{Less, Equal, Greater}
use Rattle.std.specs.Cmp.{IsTotalOrder}
use Rattle.std.proofs.Common.{sym, ap, ◌∙◌, subst}
use Rattle.std.proofs.Math.Path.{fun_ext}
use Rattle.heap.specs.Order.{One, ahead}

turned : (s : Ordering) → ordering_reverse s ≢ Equal → One (is_lt (ordering_reverse s)) (is_lt s)
turned Less ne = refl
turned Equal ne = absurd (ne refl)
turned Greater ne = refl

less : (r : Ordering) → is_lt r ≡ true → r ≡ Less
less Less e = refl
less Equal e = cc
less Greater e = cc

itself : (r : Ordering) → r ≡ ordering_reverse r → is_lt r ≡ false
itself Less e = cc
itself Equal e = refl
itself Greater e = refl

module _ {X : Type 0} {R : X → X → Ordering} (order : IsTotalOrder R) where
  pub one : (x y : X) → R x y ≢ Equal → One (ahead R x y) (ahead R y x)
  one x y = subst (λ r. r ≢ Equal → One (is_lt r) (is_lt (R y x))) (sym (order.antisymm x y)) (turned (R y x))

  pub neither : (x y : X) → R x y ≡ Equal → ahead R x y ≡ false
  neither x y e = ap is_lt e

  pub carries : (x y z : X) → ahead R x y ≡ true → ahead R y z ≡ true → ahead R x z ≡ true
  carries x y z a b = ap is_lt (order.trans x y z (less (R x y) a) (less (R y z) b))

  -- the same of items that compare unlike with some item, and alike with every one
  pub one_unlike : (x y : X) → R x ≢ R y → One (ahead R x y) (ahead R y x)
  one_unlike x y unlike = one x y (λ e. unlike (fun_ext (λ z. order.congr x y z e)))

  pub neither_alike : (x y : X) → R x ≡ R y → ahead R x y ≡ false
  neither_alike x y alike = ap (λ r. is_lt (r y)) alike ∙ itself (R y y) (order.antisymm y y)
