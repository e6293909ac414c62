use Rattle.records.proofs.Describing.{file_describes}
use Rattle.records.proofs.Filing.{file_keeps}
use Rattle.records.proofs.Kept.{keeps_unless_fault, no_fault}
use Rattle.records.proofs.Loaded.{keeps_field}
use Rattle.records.proofs.Passed.{named_first}
use Rattle.records.proofs.Rewriting.{file_again}
use Rattle.records.proofs.laws_hold.Goals as goal

pub returns : goal.returns
returns c = record {
  kept = λ bs. (no_fault bs, keeps_unless_fault bs);
  named = named_first;
  described = file_describes;
  filed = file_keeps;
  fielded = keeps_field;
  rewritten = file_again;
}
