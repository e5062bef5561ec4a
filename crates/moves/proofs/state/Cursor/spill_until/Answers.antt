use Rattle.std.proofs.Common.{◌≡◌, ◌-◌, ◌<◌, true, false, cond, sym, ap, ◌∙◌, arith}
use Rattle.std.proofs.lemmas.Result.{err_from_is_err_and}
use Rattle.store.specs.Rules.{is_open}
use Rattle.moves.specs.Spills.{spill_answer, spill_past, spill_value, spill_run}
use Rattle.moves.proofs.Runs.{granted_open, refused_shut, unwritten, spill_more, spill_stop}
use Rattle.moves.proofs.Stores.{step_context, spill_shows}
use Rattle.moves.proofs.state.Cursor.spill_until.Goals as goal

pub loop-word-preserved : goal.loop-word-preserved
loop-word-preserved g c =
    let nought = g.K.Kind.zero_content in
    let image = g.K.Kind.image_of in
    let slots = c.args.slots.now in
    let m = g.S.Store.meaning c.loop-word.store in
    let at = c.loop-word.self in
    let lt : c.loop-word._word < c.args.end = omega arith in
    let o : is_open m at.bspstore ≡ true = granted_open _ _ (sym c.in_ok-spill_step.was ∙ c.spill_step.ensures.answer) in (
      step_context nought image slots c.args.self.now.context _ at c.spill_step.new.self c.spill_step.ensures.cursor ∙ c.loop-word.invariant.0,
      spill_more nought image slots c.args.self.now.context c.args.end c.loop-word._word at c.spill_step.new.self m (g.S.Store.meaning c.spill_step.new.store) lt o
          c.spill_step.ensures.cursor c.spill_step.ensures.words
          ∙ c.loop-word.invariant.1,
    )

pub returns-in_err-spill_step : goal.returns-in_err-spill_step
returns-in_err-spill_step g c =
    let nought = g.K.Kind.zero_content in
    let image = g.K.Kind.image_of in
    let slots = c.args.slots.now in
    let first = c.args.self.now in
    let store = g.S.Store.meaning c.args.store.now in
    let run = spill_run nought image slots c.args.self.now.context (c.args.end - first.bspstore) first store in
    let m = g.S.Store.meaning c.loop-word.store in
    let at = c.loop-word.self in
    let lt : c.loop-word._word < c.args.end = omega arith in
    let p = err_from_is_err_and c.from_residual.result c.from_residual.ensures.1 in
    let o : is_open m at.bspstore ≡ false = refused_shut _ _ _ (sym c.in_err-spill_step.was ∙ c.spill_step.ensures.answer) in
    let whole = sym (spill_stop nought image slots c.args.self.now.context c.args.end c.loop-word._word at m lt o) ∙ c.loop-word.invariant.1 in
    let answer : c.from_residual.result ≡ run.answer = rw (p.1, p.2) (sym c.in_err-spill_step.was ∙ c.spill_step.ensures.answer ∙ ap (λ k. spill_answer m k at) c.loop-word.invariant.0 ∙ ap (λ e. e.answer) whole) in
    let words : g.S.Store.meaning c.spill_step.new.store ≡ run.meaning = c.spill_step.ensures.words ∙ unwritten m at.bspstore (spill_value nought image slots at) o
    ∙ ap (λ e. e.meaning) whole in
    let cursor : c.spill_step.new.self ≡ run.cursor = c.spill_step.ensures.cursor ∙ ap (λ b. cond b (spill_past nought slots at) at) o ∙ ap (λ e. e.cursor) whole in
    record {
      answer = answer;
      words = words;
      cursor = cursor;
      closed = spill_shows nought image slots c.args.self.now.context c.args.end first c.spill_step.new.self store (g.S.Store.meaning c.spill_step.new.store)
          c.from_residual.result answer words cursor;
    }

pub returns : goal.returns
returns g c =
    let nought = g.K.Kind.zero_content in
    let image = g.K.Kind.image_of in
    let slots = c.args.slots.now in
    let first = c.args.self.now in
    let store = g.S.Store.meaning c.args.store.now in
    let m = g.S.Store.meaning c.loop-word.store in
    let at = c.loop-word.self in
    let e : 0 ≡ c.args.end - c.loop-word._word = omega arith in
    let whole = ap (λ n. spill_run nought image slots c.args.self.now.context n at m) e ∙ c.loop-word.invariant.1 in
    let answer = ap (λ e. e.answer) whole in
    let words = ap (λ e. e.meaning) whole in
    let cursor = ap (λ e. e.cursor) whole in
    record {
      answer = answer;
      words = words;
      cursor = cursor;
      closed = spill_shows nought image slots c.args.self.now.context c.args.end first at store m _ answer words cursor;
    }
