use Rattle.std.proofs.Common.{◌≡◌, length}
use Rattle.text.specs.Numbers.{worth, after_digits}
use Rattle.text.proofs.Decimals.{worth_after}
use Rattle.text.proofs.numbers.digits.Given as goal

abbrev pub invariant-loop-rest : goal.invariant-loop-rest
invariant-loop-rest l = (worth_after l.n l.rest ≡ worth l.text) × (after_digits l.rest ≡ after_digits l.text)

abbrev pub decreases-loop-rest : goal.decreases-loop-rest
decreases-loop-rest l = length l.rest
