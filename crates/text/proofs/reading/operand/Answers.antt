use Rattle.std.proofs.Common.{length, ap, ◌∙◌, ◌∷◌, arith, rules, ltb-true, ltb-false}
use Rattle.std.proofs.lemmas.Slice.{first_rest}
use Rattle.std.specs.List.{between}
use Rattle.text.proofs.Operands.{no_operand, operand_is}
use Rattle.text.proofs.reading.operand.Goals as goal
use Rattle.text.proofs.reading.operand.Goals.{in_default-via-then-text-lt1, in_default-via-else-text-lt1+in_default-1}

pub returns-in_default : goal.returns-in_default
returns-in_default c = no_operand c.args.text.now (elim c.in_default.branch [
  | in_default-via-then-text-lt1 w ↦ λ some space. omega (arith, ltb-true)
  | in_default-via-else-text-lt1+in_default-1 w ↦ λ some space. omega (arith, ltb-true, ltb-false)
])

pub returns-in-32 : goal.returns-in-32
returns-in-32 c =
    let s = c.args.text.now in
    operand_is s (between 1 (length s) s) c.number.result (first_rest s 0 (search rules) ∙ ap (λ b. b ∷ between 1 (length s) s) (search rules)) c.number.ensures
