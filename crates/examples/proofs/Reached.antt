-- Where the samples of a walk stand, step by step, found on a scene of plain numbers that agrees with its own. Assumes nothing.
use Rattle.std.proofs.Common.{◌≡◌, ℕ, zero, suc, ◌<◌, ◌≤◌, Bool, true, refl, ◌∙◌}
use Rattle.ranking.specs.Counts.{count}
use Rattle.walks.specs.Scenes.{Scene, Fair}
use Rattle.walks.specs.Views.{place_of}
use Rattle.walks.specs.Walk.{Place, within, view, dropping, opening, walk, End, end}
use Rattle.walks.proofs.Agreeing.{Agree, dropping_agree, opening_agree, end_agree, views_alike}
use Rattle.walks.proofs.Alike.{place_of_alike}
use Rattle.walks.proofs.Walked.{root_walked, opening_walked, walked}

module _ (c e : Scene) (a : Agree c e) (u : ℕ → ℕ → Bool) (k : ℕ) (fair : Fair c u) (positive : 0 < k) (many : k ≤ count c.held c.slots) where
  -- two ways to say where the samples held stand
  abbrev pub Stand : (ℕ → Place) → (ℕ → Place) → Type 0
  Stand p q = (s : ℕ) → s < c.slots → c.held s ≡ true → p s ≡ q s

  pub begins : (q : ℕ → Place) → Stand (dropping e k (λ s. within 0)) q → Stand (walk c k 0) q
  unfolding walk
  begins q drops s l h =
      dropping_agree c e a u k (λ s. within 0) (λ s. within 0) (root_walked c u k fair positive many) (λ s l h. refl) positive s l h ∙ drops s l h

  pub steps : (i : ℕ) (q o r : ℕ → Place) → Stand (walk c k i) q → Stand (opening e k q) o → Stand (dropping e k o) r → Stand (walk c k (suc i)) r
  unfolding walk
  steps i q o r at opens drops s l h =
      let w = walked c u k fair positive many i in
      dropping_agree c e a u k (opening c k (walk c k i)) o (opening_walked c u k fair (walk c k i) w)
      (λ s l h. opening_agree c e a u k (walk c k i) q w at positive s l h ∙ opens s l h) positive s l h
      ∙ drops s l h

  pub ends_so : (i : ℕ) (q : ℕ → Place) → Stand (walk c k i) q → (n d : ℕ) → end c k n d (walk c k i) ≡ end e k n d q
  ends_so i q at n d = end_agree c e a u k (walk c k i) q (walked c u k fair positive many i) at positive n d

  pub places_so : (i : ℕ) (q : ℕ → Place) → Stand (walk c k i) q → (p s : ℕ) → s < c.slots → place_of (view c (walk c k i)) k p s ≡ place_of (view e q) k p s
  places_so i q at p s l =
      let w = walked c u k fair positive many i in
      place_of_alike (view c (walk c k i)) (view e q) (views_alike c e a u k (walk c k i) q w at) k positive w.enough p s l
