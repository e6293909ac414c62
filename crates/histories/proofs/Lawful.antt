-- What the crates below have shown of walks, fields and files, as the promise needs it. Assumes nothing.
use Rattle.std.proofs.Common.{ℕ, ◌≤◌}
use Rattle.field.specs.Fields.{holds, node_count, tree, counts}
use Rattle.fieldfile.proofs.Fielded.{is_field}
use Rattle.records.proofs.Describing.{file_describes}
use Rattle.records.proofs.Filing.{file_keeps}
use Rattle.records.proofs.Kept.{no_fault}
use Rattle.walks.proofs.Sound.{walks_sound}
use Rattle.bounding.proofs.Seen.{fair_field}
use Rattle.histories.proofs.Agreed.{Known}

pub known_of : (w j : ℕ → ℕ → ℕ) → ((b g h : ℕ) → g ≤ h → w b g ≤ w b h) → ((u v s t : ℕ) → u ≤ s → v ≤ t → j u v ≤ j s t) → Known w j
known_of w j weigh_rises join_rises = record {
  fair = fair_field w j weigh_rises join_rises;
  walks = walks_sound;
  keeping = no_fault;
  written = λ f. (file_keeps (holds f) (node_count f) (tree f) (counts f) (is_field f), file_describes (holds f) (node_count f) (tree f) (counts f));
}
