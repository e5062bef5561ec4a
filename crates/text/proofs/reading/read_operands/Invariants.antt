use Rattle.std.proofs.Common.{length}
use Rattle.text.proofs.Operands.{ReadSoFar}
use Rattle.text.proofs.reading.read_operands.Given as goal

abbrev pub invariant-loop-rest : goal.invariant-loop-rest
invariant-loop-rest l = ReadSoFar l.text l.rest l.operands.items

abbrev pub decreases-loop-rest : goal.decreases-loop-rest
decreases-loop-rest l = length l.rest
