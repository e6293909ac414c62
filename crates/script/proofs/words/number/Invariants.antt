use Rattle.std.proofs.Common.{◌<◌}
use Rattle.script.proofs.Numbered.{ReadSoFar}
use Rattle.script.proofs.words.number.Given as goal

abbrev pub invariant-loop-byte : goal.invariant-loop-byte
invariant-loop-byte l = ReadSoFar l.word l.byte-index l.value × (l.value < 65536)
