use Rattle.std.proofs.Common.{◌≡◌, ℕ, ◌+◌, Bool, true, false, cond, List, length, take, drop, Some, None, Ok, Err, Option, refl, ap, ◌∙◌, add-zero, arith}
use Rattle.std.proofs.lemmas.Grind.{common_steps}
use Rattle.std.specs.Int.{w16, w32, from_le_bytes}
use Rattle.std.specs.Bool.{then_some}
use Rattle.std.specs.Option.{option_map, ok_or}
use denote.Bor.{Bor}
use Rattle.fieldfile.specs.declared.faults.Check.{Check}
use Rattle.fieldfile.specs.declared.faults.Check.TheVariants.{Layout}
use Rattle.fieldfile.specs.declared.outline.Outline.{Outline}
use Rattle.records.specs.Bytes.{two, four}
use Rattle.records.specs.Checks.{agreed, laid_out}
use Rattle.records.specs.Readings.{end}
use Rattle.fieldfile.specs.Outlines.{outline_of}
use Rattle.fieldfile.proofs.outline.read_outline.Goals as goal

-- the numbers that were read from a trailer
module _ (bs t : List ℕ) (last : t ≡ drop (end bs) bs) where
  two_said : (k n : ℕ) (b : List ℕ) → b ≡ take 2 (drop k t) → n ≡ from_le_bytes w16 b → n ≡ two bs (end bs + k)
  two_said k n b c e = grind (arith, common_steps)

  four_said : (k n : ℕ) (b : List ℕ) → b ≡ take 4 (drop k t) → n ≡ from_le_bytes w32 b → n ≡ four bs (end bs + k)
  four_said k n b c e = grind (arith, common_steps)

-- what a trailer tells of its file
trailing : (m : Bool) (o : Option (Bor (List ℕ))) (t : Bor (List ℕ)) (xs : List ℕ) → option_map (λ x. x.now) o ≡ cond m (Some xs) None → o ≡ Some t → (m ≡ true) × (t.now ≡ xs)
trailing true o t xs h e = (refl, cc)
trailing false o t xs h e = cc

if_some : (b : Bool) (o : Outline) (e : Check) → ok_or (then_some b o) e ≡ cond b (Ok o) (Err e)
if_some true o e = refl
if_some false o e = refl

pub returns : goal.returns
unfolding laid_out
returns c =
    let bs = c.args.file.now in
    let said = trailing _ _ _ _ c.trailer_of.ensures c.in_ok-trailer.ensures.ok_part in
    let n : c.from_le_bytes.result ≡ two bs (end bs) = two_said bs _ said.1 0 _ _ c.bytes_at.ensures c.from_le_bytes.ensures ∙ ap (two bs) (add-zero (end bs)) in
    let m = two_said bs _ said.1 2 _ _ c.bytes_at-2.ensures c.from_le_bytes-2.ensures in
    let a = four_said bs _ said.1 4 _ _ c.bytes_at-3.ensures c.from_le_bytes-to_nodes.ensures in
    let b = four_said bs _ said.1 8 _ _ c.bytes_at-4.ensures c.from_le_bytes-to_samples.ensures in
    let o : record { samples = c.from_le_bytes.result; nodes = c.from_le_bytes-2.result } ≡ outline_of bs = λ i. record { samples = n i; nodes = m i } in
    let test : c.agrees.result ≡ laid_out bs = c.agrees.ensures ∙ λ i. agreed (n i) (m i) (a i) (b i) (length bs) in
    rw said.0
    (c.ok_or-2.ensures.value
    ∙ (λ i. ok_or {E = Check} (c.then_some.ensures i) Layout) ∙ (λ i. ok_or {E = Check} (then_some (test i) (o i)) Layout)
    ∙ if_some (laid_out bs) (outline_of bs) Layout)
