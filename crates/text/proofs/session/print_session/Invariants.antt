use Rattle.std.proofs.Common.{◌≡◌, ◌++◌, take, vec_items}
use Rattle.text.specs.Sessions.{printed_lines}
use Rattle.text.proofs.session.print_session.Given as goal

abbrev pub invariant-loop-outcome : goal.invariant-loop-outcome
invariant-loop-outcome l = vec_items l.out ≡ vec_items l.initial.out ++ printed_lines (take l.outcome-index l.outcomes)
