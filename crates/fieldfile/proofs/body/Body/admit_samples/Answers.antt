use Rattle.std.proofs.Common.{◌≡◌, ◌+◌, Ok, Result, sym, refl, ap, ◌∙◌, subst, arith, rules}
use Rattle.field.specs.Fields.{holds, Moves, Recounts}
use Rattle.boxes.specs.Views.{entries}
use Rattle.std.specs.Result.{IsOk}
use Rattle.samples.specs.Slots.{Table, admit_rule}
use Rattle.samples.specs.declared.refusal.Refusal.{Refusal}
use Rattle.trees.specs.Samples.{raised}
use Rattle.records.specs.Readings.{table_upto}
use Rattle.records.proofs.Slotted.{upto_none}
use Rattle.fieldfile.proofs.Admitted.{admits}
use Rattle.fieldfile.proofs.body.Body.admit_samples.Goals as goal
use Rattle.fieldfile.proofs.body.Body.admit_samples.Goals.{After-admit}

pub loop-i-init : goal.loop-i-init
loop-i-init c = record { samples = c.requires.empty ∙ sym (upto_none c.args.self.now.file.now); size = refl; shape = λ x. refl }

-- the sample is taken
takes : (c : After-admit) → ◌≡◌ {A = Table × Result (Unit {0}) Refusal} (holds c.admit.new.self, c.admit.result) (table_upto c.args.self.now.file.now (c.loop-i.i + 1), Ok tt)
takes c =
    let f = c.args.self.now in
    let e = c.entry-entry in
    let s = e.ensures in
    c.admit.ensures.samples ∙ ap (λ t. admit_rule t c.from.result c.from-in-loop-i.result e.result.values) c.loop-i.invariant.samples
    ∙ admits f.file.now (λ i l. c.requires.good i (omega (arith, f.samples))) c.loop-i.i c.from.result c.from-in-loop-i.result e.result.values (omega (arith, f.samples)) (omega (arith, c.from.ensures, s.byte)) (c.from.ensures ∙ s.slot) (c.from-in-loop-i.ensures ∙ s.fibre) s.values

pub unwrap-requires : goal.unwrap-requires
unwrap-requires c = let e : c.admit.result ≡ Ok tt = ap (λ (p : Table × Result (Unit {0}) Refusal). p.1) (takes c) in subst (λ r. IsOk r) (sym e) (search rules)

pub loop-i-preserved : goal.loop-i-preserved
loop-i-preserved c =
    let d = takes (goal.at.loop-i-preserved c).After-admit in
    let e : c.admit.result ≡ Ok tt = ap (λ (p : Table × Result (Unit {0}) Refusal). p.1) d in
    let was = c.loop-i.invariant in
    let m : Moves raised c.from-in-loop-i.result (entries c.entry-entry.result.values) c.loop-i.field c.admit.new.self =
    subst (λ r. Recounts raised c.from-in-loop-i.result (entries c.entry-entry.result.values) c.loop-i.field c.admit.new.self r) e c.admit.ensures.tree in
    record {
      samples = ap (λ (p : Table × Result (Unit {0}) Refusal). p.0) d;
      size = m.size ∙ was.size;
      shape = λ x. m.shape x ∙ was.shape x;
    }
