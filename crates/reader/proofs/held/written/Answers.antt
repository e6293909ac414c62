use Rattle.std.proofs.Common.{◌≡◌, ℕ, ◌∙◌, List, length, replicate, Vec, Result, sym, subst, arith}
use Rattle.std.proofs.lemmas.List.{with_items_is}
use Rattle.std.specs.Vec.{with_items}
use Rattle.std.specs.declared.alloc.Global.{Global}
use Rattle.samples.specs.declared.refusal.Refusal.{Refusal}
use Rattle.field.specs.declared.state.Field.{Field}
use Rattle.fieldfile.specs.Format.{file_of, Writes}
use Rattle.histories.specs.Calls.{resting, AtRest, writes}
use Rattle.histories.specs.declared.Answer.TheVariants.{Written}
use Rattle.histories.specs.declared.Call.TheVariants.{Write}
use Rattle.reader.specs.Views.{field_in}
use Rattle.reader.proofs.held.written.Goals as goal

-- a buffer of n zeros is written over
wrote : (w j : ℕ → ℕ → ℕ) (f : Field) (n : ℕ) (v : Vec ℕ Global) (new : List ℕ) (r : Result ℕ Refusal) → length new ≡ v.len → Writes (file_of f) (replicate n 0) new r → AtRest w j f (Write n) (Written r (with_items v new)) (resting f)
wrote w j f n v new r long h =
    writes {v = with_items v new} (subst (λ l. Writes (file_of f) (replicate n 0) l r) (sym (with_items_is v new long)) h)

pub returns : goal.returns
returns g c =
    let f = field_in c.args.reader.now in
    let zeros = c.deref_mut.ensures.value ∙ c.in_ok-out.ensures.items_if_clones_equal (λ y e. e) in
    let new = c.write-len.new.out in
    wrote _ _ f c.args.room c.in_ok-out.out new c.write-len.result (omega (arith, c.write-len.auto.out, c.deref_mut.ensures.len))
    (subst (λ l. Writes (file_of f) l new c.write-len.result) zeros c.write-len.ensures)
