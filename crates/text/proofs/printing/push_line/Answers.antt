use Rattle.std.proofs.Common.{[], ◌∷◌, ◌++◌, ◌+◌, drop, is_ok, refl, ap}
use Rattle.std.proofs.lemmas.Result.{err_from_is_err_and}
use Rattle.text.specs.Numbers.{spaced}
use Rattle.text.proofs.Appended.{appends_as, appends_failed, appends_then, spaced_rest}
use Rattle.text.proofs.printing.push_line.Goals as goal

pub returns-in_err-push_value : goal.returns-in_err-push_value
returns-in_err-push_value c =
    let p = err_from_is_err_and c.from_residual-in_err-push_value.result c.from_residual-in_err-push_value.ensures.1 in
    let ns = c.args.values.now in
    let i = c.loop-v.v-index in
    appends_as (spaced_rest c.args.word.now ns i c.loop-v-test.true)
    (appends_failed (spaced (drop (i + 1) ns) ++ (10 ∷ [])) (appends_then c.loop-v.invariant refl c.push_value.ensures)
    (ap is_ok c.in_err-push_value.was) (ap is_ok p.1))
