use Rattle.std.proofs.Common.{◌++◌, length, refl, ap, ◌∙◌, arith, rules}
use Rattle.field.specs.Fields.{holds, tree, counts, node_count}
use Rattle.records.specs.Format.{samples_bytes, nodes_bytes, trailer_bytes, file}
use Rattle.fieldfile.proofs.Adding.{adds_as, adds_front, adds_then}
use Rattle.records.proofs.Filing.{file_keeps}
use Rattle.fieldfile.proofs.Fielded.{is_field}
use Rattle.records.proofs.Lengths.{length_samples, length_nodes, length_file}
use Rattle.fieldfile.proofs.file.write.Goals as goal

pub returns-then-out-len-clause-bytes : goal.returns-then-out-len-clause-bytes
returns-then-out-len-clause-bytes c =
    let f = c.args.field.now in
    let long = length_file (holds f) (node_count f) (tree f) (counts f) in (refl, omega arith, refl)

pub put_nodes-requires : goal.put_nodes-requires
put_nodes-requires c =
    let f = c.args.field.now in
    let a = length_samples (holds f) (node_count f) (tree f) 256 in
    let same = ap length c.new-file.ensures.bytes in
    omega arith

pub put_trailer-requires : goal.put_trailer-requires
put_trailer-requires c =
    let f = c.args.field.now in
    let a = length_samples (holds f) (node_count f) (tree f) 256 in
    let b = length_nodes (tree f) (counts f) (node_count f) in
    let same = ap length c.new-file.ensures.bytes in
    omega arith

pub returns-clause-bytes : goal.returns-clause-bytes
unfolding file
returns-clause-bytes c =
    let f = c.args.field.now in
    let long = length_file (holds f) (node_count f) (tree f) (counts f) in
    let parts = adds_then c.put_samples.ensures (adds_then c.put_nodes.ensures c.put_trailer.ensures) in
    let all = adds_as parts (λ i. samples_bytes (holds f) (node_count f) (tree f) 256 ++ (nodes_bytes (tree f) (counts f) (node_count f) ++ trailer_bytes (c.of-outline.ensures.samples i) (c.of-outline.ensures.nodes i))) in
    let written = adds_front c.new-file.ensures.bytes c.new-file.ensures.at all in
    let same_buffer = all.buffer ∙ c.new-file.ensures.buffer in
    (omega arith, omega arith, search rules ∙ written)

pub returns-then-out-len-clause-rules : goal.returns-then-out-len-clause-rules
returns-then-out-len-clause-rules c = let f = c.args.field.now in file_keeps (holds f) (node_count f) (tree f) (counts f) (is_field f)

pub returns-clause-rules : goal.returns-clause-rules
returns-clause-rules c = let f = c.args.field.now in file_keeps (holds f) (node_count f) (tree f) (counts f) (is_field f)
