use Rattle.std.proofs.Common.{sym, subst, rules}
use Rattle.records.specs.Bytes.{IsBytes}
use Rattle.fieldfile.specs.Loads.{Refused, Taken}
use Rattle.fieldfile.proofs.Taken.{refusing, no_outline, samples_refused, each_good, nodes_refused, tree_refused, leaves_refused, counts_refused, taken}
use Rattle.fieldfile.proofs.loading.read.Goals as goal

pub returns-in_err-body : goal.returns-in_err-body
returns-in_err-body c =
    refusing c.args.file.now _ _ c.from_residual.ensures.1 (λ e p. subst (λ d. Refused c.args.file.now d) (sym p) (no_outline c.args.file.now c.in_err-body.field-0.0 c.in_err-body.ensures))

pub returns-in_err-check_samples : goal.returns-in_err-check_samples
returns-in_err-check_samples c =
    refusing c.args.file.now _ _ c.from_residual-in_err-check_samples.ensures.1
    (λ e p. subst (λ b. Refused b e) c.in_ok-body.ensures (subst (λ d. Refused c.in_ok-body.body.file.now d) (sym p) (samples_refused c.in_ok-body.body c.in_err-check_samples.field-0.0 c.in_err-check_samples.ensures)))

pub returns-in_err-nodes : goal.returns-in_err-nodes
returns-in_err-nodes c =
    refusing c.args.file.now _ _ c.from_residual-in_err-nodes.ensures.1
    (λ e p. subst (λ b. Refused b e) c.in_ok-body.ensures (subst (λ d. Refused c.in_ok-body.body.file.now d) (sym p) (nodes_refused c.in_ok-body.body c.in_ok-check_samples.ensures c.in_err-nodes.field-0.0 c.in_err-nodes.ensures)))

pub returns-in_err-field : goal.returns-in_err-field
returns-in_err-field c =
    refusing c.args.file.now _ _ c.from_residual-in_err-field.ensures.1
    (λ e p. subst (λ b. Refused b e) c.in_ok-body.ensures (subst (λ d. Refused c.in_ok-body.body.file.now d) (sym p) (tree_refused c.in_ok-body.body c.in_ok-check_samples.ensures c.in_ok-nodes.nodes c.in_ok-nodes.ensures c.in_err-field.field-0.0 c.in_err-field.ensures.value)))

pub returns-in_err-check_leaves : goal.returns-in_err-check_leaves
returns-in_err-check_leaves c =
    refusing c.args.file.now _ _ c.from_residual-in_err-check_leaves.ensures.1
    (λ e p. subst (λ b. Refused b e) c.in_ok-body.ensures (subst (λ d. Refused c.in_ok-body.body.file.now d) (sym p) (leaves_refused c.in_ok-body.body c.in_ok-check_samples.ensures c.in_ok-nodes.nodes c.in_ok-nodes.ensures c.in_ok-field.ensures.test c.in_ok-field.field c.in_ok-field.ensures.value c.in_err-check_leaves.field-0.0 c.in_err-check_leaves.ensures)))

pub admit_samples-requires-clause-good : goal.admit_samples-requires-clause-good
admit_samples-requires-clause-good c = each_good c.in_ok-body.body c.in_ok-check_samples.ensures

pub returns-in_err-check_counts : goal.returns-in_err-check_counts
returns-in_err-check_counts c =
    let told : IsBytes c.args.file.now = λ i. let h = c.type_inv.file i in search rules in
    let bytes : IsBytes c.in_ok-body.body.file.now = subst (λ b. IsBytes b) (sym c.in_ok-body.ensures) told in
    let d = c.admit_samples.ensures in
    refusing c.args.file.now _ _ c.from_residual-in_err-check_counts.ensures.1
    (λ e p. subst (λ b. Refused b e) c.in_ok-body.ensures (subst (λ d. Refused c.in_ok-body.body.file.now d) (sym p) (counts_refused c.in_ok-body.body c.in_ok-check_samples.ensures c.in_ok-nodes.nodes c.in_ok-nodes.ensures c.in_ok-field.ensures.test c.in_ok-field.field c.in_ok-field.ensures.value c.in_ok-check_leaves.ensures c.admit_samples.new.field d.samples d.size d.shape bytes c.in_err-check_counts.field-0.0 c.in_err-check_counts.ensures)))

pub returns : goal.returns
returns c =
    let told : IsBytes c.args.file.now = λ i. let h = c.type_inv.file i in search rules in
    let bytes : IsBytes c.in_ok-body.body.file.now = subst (λ b. IsBytes b) (sym c.in_ok-body.ensures) told in
    let d = c.admit_samples.ensures in
    subst (λ b. Taken b c.admit_samples.new.field) c.in_ok-body.ensures (taken c.in_ok-body.body c.in_ok-check_samples.ensures c.in_ok-nodes.nodes c.in_ok-nodes.ensures c.in_ok-field.ensures.test c.in_ok-field.field c.in_ok-field.ensures.value c.in_ok-check_leaves.ensures c.admit_samples.new.field d.samples d.size d.shape bytes c.in_ok-check_counts.ensures)
