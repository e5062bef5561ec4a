use Rattle.std.proofs.Common.{◌≡◌, ◌-◌, ◌<◌, true, false, sym, refl, ap, ◌∙◌, subst, arith}
use Rattle.std.proofs.lemmas.Result.{err_from_is_err_and}
use Rattle.store.specs.Rules.{is_open}
use Rattle.moves.specs.declared.state.Movement.TheVariants.{Spill}
use Rattle.moves.specs.Steps.{asked_at, ask_of}
use Rattle.moves.proofs.Runs.{granted_open, refused_shut, ask_more, ask_stop}
use Rattle.moves.specs.Asks.{spills_asked}
use Rattle.moves.proofs.Asked.{Spills, spills_told}
use Rattle.moves.proofs.state.Cursor.ask_spills.Goals as goal

pub loop-word-preserved : goal.loop-word-preserved
loop-word-preserved g c =
    let m = g.S.Store.meaning c.args.store.now in
    let at = c.args.self.now in
    let w = c.loop-word.word in
    let lt : w < c.args.end = omega arith in
    let o : is_open m w ≡ true = granted_open _ _ (sym c.in_ok-ask.was ∙ c.ask.ensures) in
    ask_more m c.args.self.now.context at.start c.args.end w lt o ∙ c.loop-word.invariant

pub returns-in_err-ask : goal.returns-in_err-ask
returns-in_err-ask g c =
    let m = g.S.Store.meaning c.args.store.now in
    let at = c.args.self.now in
    let w = c.loop-word.word in
    let lt : w < c.args.end = omega arith in
    let p = err_from_is_err_and c.from_residual.result c.from_residual.ensures.1 in
    let o : is_open m w ≡ false = refused_shut _ _ _ (sym c.in_err-ask.was ∙ c.ask.ensures) in
    let answer : c.from_residual.result ≡ spills_asked m c.args.self.now.context at.start (c.args.end - at.bspstore) at.bspstore = rw (p.1, p.2)
    (sym c.in_err-ask.was ∙ c.ask.ensures ∙ ap (asked_at m w) c.place.ensures ∙ ap (ask_of m w Spill at.context) c.positions_below-position.ensures
    ∙ sym (ask_stop m c.args.self.now.context at.start c.args.end w lt o) ∙ c.loop-word.invariant) in
    let told = subst (Spills m c.args.self.now.context at.start at.bspstore c.args.end) (sym answer)
    (spills_told m c.args.self.now.context at.start (c.args.end - at.bspstore) at.bspstore c.args.end refl) in
    record { answer = answer; told = told.0; lowest = told.1 }

pub returns : goal.returns
returns g c =
    let m = g.S.Store.meaning c.args.store.now in
    let at = c.args.self.now in
    let e : 0 ≡ c.args.end - c.loop-word.word = omega arith in
    let answer = ap (λ n. spills_asked m c.args.self.now.context at.start n c.loop-word.word) e ∙ c.loop-word.invariant in
    let told = subst (Spills m c.args.self.now.context at.start at.bspstore c.args.end) (sym answer)
    (spills_told m c.args.self.now.context at.start (c.args.end - at.bspstore) at.bspstore c.args.end refl) in
    record { answer = answer; told = told.0; lowest = told.1 }
