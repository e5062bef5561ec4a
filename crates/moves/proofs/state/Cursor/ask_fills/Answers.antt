use Rattle.std.proofs.Common.{◌≡◌, ◌-◌, ◌<◌, true, false, sym, refl, ap, ◌∙◌, subst, arith}
use Rattle.std.proofs.lemmas.Result.{err_from_is_err_and}
use Rattle.moves.specs.Fills.{fill_open}
use Rattle.moves.proofs.Runs.{granted_open, refused_shut, asks_more, asks_stop}
use Rattle.moves.specs.Asks.{fills_asked}
use Rattle.moves.proofs.Asked.{Fills, fills_told}
use Rattle.moves.proofs.state.Cursor.ask_fills.Goals as goal

pub loop-position-preserved : goal.loop-position-preserved
loop-position-preserved g c =
    let m = g.S.Store.meaning c.args.store.now in
    let at = c.args.self.now in
    let q = c.loop-position.position in
    let lt : q < c.args.high = omega arith in
    let o : fill_open at m q ≡ true = granted_open _ _ (sym c.in_ok-ask_fill.was ∙ c.ask_fill.ensures) in
    asks_more m c.args.self.now.context at c.args.high q lt o ∙ c.loop-position.invariant

pub returns-in_err-ask_fill : goal.returns-in_err-ask_fill
returns-in_err-ask_fill g c =
    let m = g.S.Store.meaning c.args.store.now in
    let at = c.args.self.now in
    let q = c.loop-position.position in
    let lt : q < c.args.high = omega arith in
    let p = err_from_is_err_and c.from_residual.result c.from_residual.ensures.1 in
    let o : fill_open at m q ≡ false = refused_shut _ _ _ (sym c.in_err-ask_fill.was ∙ c.ask_fill.ensures) in
    let answer : c.from_residual.result ≡ fills_asked m c.args.self.now.context at (c.args.high - c.args.low) c.args.low = rw (p.1, p.2)
    (sym c.in_err-ask_fill.was ∙ c.ask_fill.ensures ∙ sym (asks_stop m c.args.self.now.context at c.args.high q lt o) ∙ c.loop-position.invariant) in
    let told = subst (Fills m c.args.self.now.context at c.args.low c.args.high) (sym answer)
    (fills_told m c.args.self.now.context at (c.args.high - c.args.low) c.args.low c.args.high refl) in
    record { answer = answer; told = told.0; lowest = told.1 }

pub returns : goal.returns
returns g c =
    let m = g.S.Store.meaning c.args.store.now in
    let at = c.args.self.now in
    let e : 0 ≡ c.args.high - c.loop-position.position = omega arith in
    let answer = ap (λ n. fills_asked m c.args.self.now.context at n c.loop-position.position) e ∙ c.loop-position.invariant in
    let told = subst (Fills m c.args.self.now.context at c.args.low c.args.high) (sym answer)
    (fills_told m c.args.self.now.context at (c.args.high - c.args.low) c.args.low c.args.high refl) in
    record { answer = answer; told = told.0; lowest = told.1 }
