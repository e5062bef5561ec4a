use Rattle.std.proofs.Common.{◌≡◌, ◌+◌, ◌-◌, ◌*◌, true, None, length, get_or, take, drop, sym, ap, ◌∙◌, rules, arith, ltb-false, ltb-true}
use Rattle.text.specs.Numbers.{begins_with_digit}
use Rattle.text.proofs.Decimals.{begins, worth_after, worth_step, after_step, worth_grows}
use Rattle.text.proofs.numbers.digits.Goals as goal

pub returns-in_err-n : goal.returns-in_err-n
returns-in_err-n c =
    let s = c.loop-rest.rest.now in
    let digit : begins_with_digit s ≡ true = begins s (omega (arith, ltb-false)) (omega (arith, ltb-true, ltb-false)) (omega (arith, ltb-true)) in
    let none : c.grown.result ≡ None = search rules in
    let over = rw none at c.grown.ensures in
    rw c.from_residual.ensures (omega (arith, over, worth_step c.loop-rest.n s digit, worth_grows (c.loop-rest.n * 10 + (get_or s 0 0 - 48)) (take (length s - 1) (drop 1 s)), c.loop-rest.invariant.0))

pub loop-rest-preserved : goal.loop-rest-preserved
loop-rest-preserved c =
    let s = c.loop-rest.rest.now in
    let digit : begins_with_digit s ≡ true = begins s (omega (arith, ltb-false)) (omega (arith, ltb-true, ltb-false)) (omega (arith, ltb-true)) in
    let more : c.in_ok-n.n ≡ c.loop-rest.n * 10 + (get_or s 0 0 - 48) = search rules in
    (ap (λ m. worth_after m (take (length s - 1) (drop 1 s))) more ∙ sym (worth_step c.loop-rest.n s digit) ∙ c.loop-rest.invariant.0, sym (after_step s digit) ∙ c.loop-rest.invariant.1)
