use Rattle.std.proofs.Common.{◌≡◌, ◌∷◌, length, get_or, arith, ltb-false, ltb-true}
use Rattle.std.proofs.lemmas.Slice.{first_rest}
use Rattle.std.specs.List.{between}
use Rattle.text.proofs.Spelled.{apart, read_as}
use Rattle.text.proofs.reading.read_line.Goals as goal

pub returns-in_default-clause-apart : goal.returns-in_default-clause-apart
returns-in_default-clause-apart c = apart

pub returns-in_err-read_operands-clause-apart : goal.returns-in_err-read_operands-clause-apart
returns-in_err-read_operands-clause-apart c = apart

pub returns-clause-apart : goal.returns-clause-apart
returns-clause-apart c = apart

pub returns-clause-spelled : goal.returns-clause-spelled
returns-clause-spelled c =
    let s = c.args.line.now in
    let d = between 1 (length s) s in
    let first : s ≡ get_or s 0 0 ∷ d = first_rest s 0 (omega (arith, ltb-true, ltb-false)) in
    let o = c.in_ok-read_operands.ensures in
    let ns = c.in_ok-read_operands.field-0.items in
    read_as s d ns (get_or s 0 0) c.instruction.result first o.0 o.1 (rw c.deref.ensures.0 at c.instruction.ensures)
