use Rattle.std.proofs.Common.{◌≡◌, ℕ, ◌<◌, ◌≤◌, true, false, sym, refl, subst, arith, rules}
use Rattle.std.specs.Option.{option_map}
use Rattle.samples.specs.Slots.{table, held, point, NextHeld}
use Rattle.samples.proofs.Rising.{first_up, at_none, at_some}
use Rattle.samples.proofs.Tabled.{is_some_mapped}
use Rattle.samples.proofs.slots.held.HeldIterator.next.Goals as goal

pub returns-in_err-slot-clause-steps : goal.returns-in_err-slot-clause-steps
returns-in_err-slot-clause-steps c =
    let t = table c.args.self.now.slots.now in
    let h = first_up c.new.result _ _ c.find.result (λ i. held t i ≡ true) (λ i. held t i ≡ false) c.new.ensures.exhausted c.find.ensures.ran (λ x q k. search (rules, is_some_mapped)) (λ x q k. search (rules, is_some_mapped)) in
    let start : c.new.result.start ≡ c.args.self.now.from = search rules in
    let none : (i : ℕ) → c.args.self.now.from ≤ i → i < 256 → held t i ≡ false = λ i a b. at_none _ _ c.in_err-slot.was h i (omega (arith, start)) (omega arith) in
    (subst (λ r. NextHeld t c.args.self.now.from (option_map (λ x. (x.0, point x.1.now)) r) c.args.self.now.from) (sym c.from_residual-in_err-slot.ensures) none, refl)

pub returns-clause-steps : goal.returns-clause-steps
returns-clause-steps c =
    let t = table c.args.self.now.slots.now in
    let h = first_up c.new.result _ _ c.find.result (λ i. held t i ≡ true) (λ i. held t i ≡ false) c.new.ensures.exhausted c.find.ensures.ran (λ x q k. search (rules, is_some_mapped)) (λ x q k. search (rules, is_some_mapped)) in
    let found = at_some _ _ c.in_ok-slot.was h in
    let start : c.new.result.start ≡ c.args.self.now.from = search rules in
    ((omega (arith, start, found.0), omega arith, λ i a b. found.3 i (omega (arith, start)) (omega arith), sym c.in_ok-get.ensures, omega arith), refl)
