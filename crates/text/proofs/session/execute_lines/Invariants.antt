use Rattle.std.proofs.Common.{◌+◌, ◌≤◌, List, ◌++◌, length, vec_items}
use Rattle.engine.specs.Hosts.{Host, hosted}
use Rattle.text.specs.Outcomes.{LineOutcome}
use Rattle.text.specs.Lines.{lines_of}
use Rattle.text.specs.Sessions.{Runs}
use Rattle.text.proofs.session.execute_lines.Given as goal

-- whatever the lines that remain come to, the outcomes so far and theirs are those of the whole input
abbrev pub invariant-loop-rest : goal.invariant-loop-rest
invariant-loop-rest g l =
    (l.number + length l.rest ≤ length l.input)
    × ((os : List LineOutcome) (after : Host g.row.K.Denot)
    → Runs g.K.Kind.zero_content g.K.Kind.image_of g.K.Kind.content_of g.K.Kind.sum_of
    (hosted l.engine.machine l.slots (g.S.Store.meaning l.store)) (lines_of l.rest) (l.number + 1) os after
    → Runs g.K.Kind.zero_content g.K.Kind.image_of g.K.Kind.content_of g.K.Kind.sum_of
    (hosted l.initial.engine.machine l.initial.slots (g.S.Store.meaning l.initial.store)) (lines_of l.input) 1 (vec_items l.outcomes ++ os) after)

abbrev pub decreases-loop-rest : goal.decreases-loop-rest
decreases-loop-rest g l = length l.rest
