use Rattle.std.proofs.Common.{◌≡◌, [], ◌∷◌, ◌++◌, rules, arith}
use Rattle.std.proofs.lemmas.Grind.{common_steps}
use Rattle.text.proofs.Operands.{read_more, read_stop}
use Rattle.text.proofs.reading.read_operands.Goals as goal

pub returns-in_err-n : goal.returns-in_err-n
returns-in_err-n c = rw c.from_residual.ensures (λ ns few all e. read_stop c.loop-rest.invariant (search rules) c.in_err-n.ensures ns all e)

pub loop-rest-preserved : goal.loop-rest-preserved
loop-rest-preserved c =
    let pushed : c.try_push.new.self.items ≡ c.loop-rest.operands.items ++ (c.in_ok-n.n ∷ []) = grind (arith, common_steps) in
    rw pushed (read_more c.loop-rest.invariant (search rules) c.in_ok-n.ensures)
