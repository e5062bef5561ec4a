use Rattle.std.proofs.Common.{◌≡◌, ◌-◌, ◌++◌, length, vec_items, ap, ◌∙◌, rules, arith}
use Rattle.std.proofs.lemmas.List.{take_all}
use Rattle.text.specs.Sessions.{printed_lines, granted_in}
use Rattle.text.proofs.SessionRuns.{all_counted, printed_whole}
use Rattle.text.proofs.session.print_session.Goals as goal

pub returns : goal.returns
returns c =
    let os = c.args.outcomes.now in
    let granted : c.count-granted.result ≡ granted_in os = search rules in
    let lines = c.loop-outcome.invariant ∙ ap (λ x. vec_items c.args.out.now ++ printed_lines x) (take_all c.loop-outcome.outcome-index os c.loop-outcome-test.false) in
    printed_whole (vec_items c.args.out.now) os c.loop-outcome.out c.push_end.new.out c.count-granted.result
    (length os - c.count-granted.result) c.push_end.result lines granted (omega (arith, all_counted os, granted)) c.push_end.ensures
