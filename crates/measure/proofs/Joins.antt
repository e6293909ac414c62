-- The joined weights as a fold over the bands behind the first; and that they never fall as the gaps grow. Assumes nothing.
use Rattle.std.proofs.Common.{◌≡◌, ℕ, zero, suc, ◌+◌, ◌<◌, ◌≤◌, List, [], ◌∷◌, length, get_or, take, drop, take_all, ap, ◌∙◌, add-one, arith}
use Rattle.std.specs.List.{fold, range_with_len, zip}
use Rattle.measure.specs.Weight.{join_to, Monotone}

-- the gaps xs of the bands above b, joined to the weight up to b
join_rest : (w j : ℕ → ℕ → ℕ) (g : ℕ → ℕ) (xs : List ℕ) (b : ℕ) → ((i : ℕ) → i < length xs → get_or xs i 0 ≡ g (b + 1 + i)) → fold (λ u p. j u (w p.0 p.1)) (join_to w j g b) (zip (range_with_len (b + 1) (length xs)) xs) ≡ join_to w j g (b + length xs)
unfolding join_to
join_rest w j g [] b e = ap (join_to w j g) (omega arith)
join_rest w j g (x ∷ xs) b e =
    let here : x ≡ g (b + 1) = e 0 (omega arith) ∙ ap g (omega arith) in
    let next = join_rest w j g xs (b + 1) (λ i l. e (suc i) (omega arith) ∙ ap g (omega arith)) in
    let one = ap (join_to w j g) (add-one b) in
    let step : j (join_to w j g b) (w (b + 1) x) ≡ join_to w j g (b + 1) = grind arith in
    rw (step, fold) (next ∙ ap (join_to w j g) (omega arith))

-- of eight gaps, that of band 0 and then the other seven
pub join_all : (w j : ℕ → ℕ → ℕ) (gs : List ℕ) (u : ℕ) → length gs ≡ 8 → u ≡ w 0 (get_or gs 0 0) → fold (λ u p. j u (w p.0 p.1)) u (zip (range_with_len 1 7) (take 7 (drop 1 gs))) ≡ join_to w j (λ b. get_or gs b 0) 7
unfolding join_to
join_all w j [] u n e = absurd (omega arith)
join_all w j (x ∷ xs) u n e =
    let all : take 7 xs ≡ xs = take_all 7 xs (omega arith) in
    let seven : length xs ≡ 7 = omega arith in
    let joined = join_rest w j (λ b. get_or (x ∷ xs) b 0) xs 0 (λ i l. let at : suc i ≡ 0 + 1 + i = omega arith in ap (λ k. get_or (x ∷ xs) k 0) at) in
    rw (all, e) (rw seven at joined)

module _ (w j : ℕ → ℕ → ℕ) (weigh_rises : (b g h : ℕ) → g ≤ h → w b g ≤ w b h)
    (join_rises : (u v s t : ℕ) → u ≤ s → v ≤ t → j u v ≤ j s t) where
  joins_rise : (g h : ℕ → ℕ) (n : ℕ) → ((b : ℕ) → b ≤ n → g b ≤ h b) → join_to w j g n ≤ join_to w j h n
  unfolding join_to
  joins_rise g h zero le = weigh_rises 0 _ _ (le 0 (omega arith))
  joins_rise g h (suc n) le =
      join_rises _ _ _ _ (joins_rise g h n (λ b k. le b (omega arith))) (weigh_rises (suc n) _ _ (le (suc n) (omega arith)))

  pub monotone : Monotone w j
  monotone g h le = joins_rise g h 7 (λ b k. le b (omega arith))
