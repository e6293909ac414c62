-- The tests of an end, in their order. Assumes nothing.
use Rattle.std.proofs.Common.{◌≡◌, ℕ, Bool, true, false, refl}
use Rattle.walks.specs.Walk.{going, settled, nearby, counted, end_by}
use Rattle.walks.specs.Scenes.{Scene}

module _ (c : Scene) (k : ℕ) (f l : ℕ) where
  pub is_settled_end : (a b d : Bool) → a ≡ true → settled f ≡ end_by c k a b d f l
  is_settled_end true b d x = refl
  is_settled_end false b d x = cc

  pub is_nearby_end : (a b d : Bool) → a ≡ false → b ≡ true → nearby l ≡ end_by c k a b d f l
  is_nearby_end true b d x y = cc
  is_nearby_end false true d x y = refl
  is_nearby_end false false d x y = cc

  pub is_counted_end : (a b d : Bool) → a ≡ false → b ≡ false → d ≡ true → counted l ≡ end_by c k a b d f l
  is_counted_end true b d x y h = cc
  is_counted_end false true d x y h = cc
  is_counted_end false false true x y h = refl
  is_counted_end false false false x y h = cc

  pub is_going : (a b d : Bool) → a ≡ false → b ≡ false → d ≡ false → going ≡ end_by c k a b d f l
  is_going true b d x y h = cc
  is_going false true d x y h = cc
  is_going false false true x y h = cc
  is_going false false false x y h = refl
