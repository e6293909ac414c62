use Rattle.std.proofs.Common.{sym, ap, ◌∙◌, arith}
use Rattle.std.proofs.lemmas.Bool.Decides.{nat_tests}
use Rattle.records.specs.Bytes.{two}
use Rattle.fieldfile.proofs.Noded.{is_kind, kind_leaf, kind_split, kind_shrink, kind_of_record}
use Rattle.fieldfile.proofs.body.reading.kind_in.Goals as goal

pub returns-in-0-eq0-eq0-clause-test : goal.returns-in-0-eq0-eq0-clause-test
returns-in-0-eq0-eq0-clause-test c =
    let r = c.args.bytes.now in
    let a = c.in-0-eq0-eq0 in
    sym (kind_of_record r ∙ (λ i. is_kind (a.is-0 i) ((sym c.u16_at.ensures ∙ a.is-1) i) ((sym c.u16_at-2.ensures ∙ a.is-2) i)))

pub returns-in-1-default-default-clause-test : goal.returns-in-1-default-default-clause-test
returns-in-1-default-default-clause-test c =
    let r = c.args.bytes.now in
    sym (kind_of_record r ∙ ap (λ k. is_kind k (two r 2) (two r 4)) c.in-1-default-default.is-0 ∙ kind_split (two r 2) (two r 4))

pub returns-in-2-default-default-clause-test : goal.returns-in-2-default-default-clause-test
returns-in-2-default-default-clause-test c =
    let r = c.args.bytes.now in
    sym (kind_of_record r ∙ ap (λ k. is_kind k (two r 2) (two r 4)) c.in-2-default-default.is-0 ∙ kind_shrink (two r 2) (two r 4))

pub returns-in_default-clause-test : goal.returns-in_default-clause-test
returns-in_default-clause-test c =
    let r = c.args.bytes.now in
    let e = kind_of_record r ∙ ap (λ k. is_kind k (two r 2) (two r 4)) c.in_default.is-0 ∙ kind_leaf (two r 2) (two r 4) in
    let n = c.in_default.is-2.1 in
    grind (arith, nat_tests)

pub returns-in_default-2-clause-test : goal.returns-in_default-2-clause-test
returns-in_default-2-clause-test c =
    let r = c.args.bytes.now in
    let e = kind_of_record r ∙ ap (λ k. is_kind k (two r 2) (two r 4)) c.in_default.is-0 ∙ kind_leaf (two r 2) (two r 4) in
    let n = c.in_default.is-1.1 in
    grind (arith, nat_tests)
