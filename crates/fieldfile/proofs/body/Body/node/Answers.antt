use Rattle.std.proofs.Common.{is_some, refl, ap, ◌∙◌, arith}
use Rattle.std.proofs.lemmas.Bool.Decides.{nat_tests}
use Rattle.records.specs.Bytes.{row_in}
use Rattle.fieldfile.proofs.Noded.{passes_read, node_read}
use Rattle.fieldfile.proofs.body.Body.node.Goals as goal
use Rattle.fieldfile.proofs.body.Body.node.Goals.{else-x-eq0-via-then-x-eq0+else-depth-gt0, else-x-eq0-via-else-x-eq0}

pub returns-in_err-kind-clause-test : goal.returns-in_err-kind-clause-test
returns-in_err-kind-clause-test c =
    let b = c.node_bytes-bytes in
    let p = passes_read c.args.self.now.file.now c.args.x b.result.now b.ensures.value (row_in b.result.now 6) refl in
    let t = c.in_err-kind.ensures.test in
    ap is_some c.from_residual.ensures ∙ grind arith

pub returns-in_err-bounds-clause-test : goal.returns-in_err-bounds-clause-test
returns-in_err-bounds-clause-test c =
    let b = c.node_bytes-bytes in
    let p = passes_read c.args.self.now.file.now c.args.x b.result.now b.ensures.value c.row_at.result c.row_at.ensures in
    let t = c.in_err-bounds.ensures.test in
    ap is_some c.from_residual-in_err-bounds.ensures ∙ grind arith

pub returns-then-depth-gt0-clause-test : goal.returns-then-depth-gt0-clause-test
returns-then-depth-gt0-clause-test c =
    let b = c.node_bytes-bytes in
    let p = passes_read c.args.self.now.file.now c.args.x b.result.now b.ensures.value c.row_at.result c.row_at.ensures in
    let d = c.in_ok-bounds.ensures.value.0 in
    grind (arith, nat_tests)

pub returns-clause-test : goal.returns-clause-test
returns-clause-test c =
    let b = c.node_bytes-bytes in
    let p = passes_read c.args.self.now.file.now c.args.x b.result.now b.ensures.value c.row_at.result c.row_at.ensures in
    let t = c.in_ok-kind.ensures.test in
    let g = c.in_ok-bounds.ensures.test in
    let d = c.in_ok-bounds.ensures.value.0 in
    elim c.else-x-eq0.branch [ else-x-eq0-via-then-x-eq0+else-depth-gt0 w ↦ let v = w.depth.ensures.value in grind (arith, nat_tests) | else-x-eq0-via-else-x-eq0 w ↦ grind (arith, nat_tests) ]

pub returns-clause-value : goal.returns-clause-value
returns-clause-value c =
    let b = c.node_bytes-bytes in
    let k = c.in_ok-kind.ensures.value in
    let v = c.in_ok-bounds.ensures.value in
    node_read c.args.self.now.file.now c.args.x b.result.now b.ensures.value c.row_at.result c.row_at.ensures (record { kind = c.in_ok-kind.kind; bounds = c.in_ok-bounds.bounds; counts = c.row_at-2.result }) k.0 k.1 v.0 v.1
