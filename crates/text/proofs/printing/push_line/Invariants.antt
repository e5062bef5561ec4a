use Rattle.std.proofs.Common.{◌++◌, take, Ok}
use Rattle.text.specs.Numbers.{spaced}
use Rattle.text.specs.Printed.{Appends}
use Rattle.text.proofs.printing.push_line.Given as goal

abbrev pub invariant-loop-v : goal.invariant-loop-v
invariant-loop-v l = Appends {X = Unit {0}} l.fn.out l.out (l.word ++ spaced (take l.v-index l.values)) (Ok tt)
