-- A call that is out of its place. Assumes nothing.
use Rattle.std.proofs.Common.{◌≡◌, ℕ, true, false, List, ◌⊎◌, Bor, ap, ⊎_elim}
use Rattle.histories.specs.Calls.{of_query}
use Rattle.histories.specs.declared.Call.{Call}
use Rattle.histories.specs.declared.Call.TheVariants.{Load, Write, Admit, Withdraw, Rebuild, Open, Step, Finish, Span, Witness, Close}

pub is_of_query : (c : Call) → (c ≡ Step) ⊎ ((c ≡ Finish) ⊎ ((c ≡ Span) ⊎ (((x : ℕ) × (c ≡ Witness x)) ⊎ (c ≡ Close)))) → of_query c ≡ true
is_of_query c h =
    ⊎_elim (λ e. ap of_query e)
    (λ h. ⊎_elim (λ e. ap of_query e) (λ h. ⊎_elim (λ e. ap of_query e) (λ h. ⊎_elim (λ e. ap of_query e.1) (λ e. ap of_query e) h) h) h) h

pub is_of_reader : (c : Call) → ((x : Bor (List ℕ)) × (c ≡ Load x)) ⊎ (((x : ℕ) × (c ≡ Write x)) ⊎ (((x : ℕ) × (y : ℕ) × (z : List ℕ) × (c ≡ Admit x y z)) ⊎ (((x : ℕ) × (c ≡ Withdraw x)) ⊎ ((c ≡ Rebuild) ⊎ ((x : List ℕ) × (y : ℕ) × (z : ℕ) × (v : ℕ) × (c ≡ Open x y z v)))))) → of_query c ≡ false
is_of_reader c h =
    ⊎_elim (λ e. ap of_query e.1)
    (λ h. ⊎_elim (λ e. ap of_query e.1)
    (λ h. ⊎_elim (λ e. ap of_query e.3) (λ h. ⊎_elim (λ e. ap of_query e.1) (λ h. ⊎_elim (λ e. ap of_query e) (λ e. ap of_query e.4) h) h) h) h) h
