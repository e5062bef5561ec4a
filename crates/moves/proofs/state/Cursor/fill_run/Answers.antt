use Rattle.std.proofs.Common.{◌≡◌, ◌-◌, ◌<◌, true, false, cond, sym, ap, ◌∙◌, arith}
use Rattle.std.proofs.lemmas.Result.{err_from_is_err_and}
use Rattle.register.specs.Slots.{register_put}
use Rattle.moves.specs.Steps.{read_more}
use Rattle.moves.specs.Fills.{fill_open, fill_answer, fill_reads, filled, fill_run}
use Rattle.moves.proofs.Runs.{granted_open, refused_shut, fill_context, fill_more, fill_stop}
use Rattle.moves.proofs.Refills.{fill_shows}
use Rattle.moves.proofs.state.Cursor.fill_run.Goals as goal

pub loop-position-preserved : goal.loop-position-preserved
loop-position-preserved g c =
    let content = g.K.Kind.content_of in
    let m = g.S.Store.meaning c.args.store.now in
    let at = c.loop-position.self in
    let slots = c.loop-position.slots in
    let q = c.loop-position.position in
    let lt : q < c.args.high = omega arith in
    let o : fill_open at m q ≡ true = granted_open _ _ (sym c.in_ok-fill.was ∙ c.fill.ensures.answer) in (
      fill_context _ _ at c.fill.new.self c.fill.ensures.cursor ∙ c.loop-position.invariant.0,
      fill_more content m c.args.self.now.context c.args.high q at c.fill.new.self slots c.fill.new.slots lt o c.fill.ensures.cursor c.fill.ensures.file
          ∙ c.loop-position.invariant.1,
    )

pub returns-in_err-fill : goal.returns-in_err-fill
returns-in_err-fill g c =
    let content = g.K.Kind.content_of in
    let m = g.S.Store.meaning c.args.store.now in
    let first = c.args.self.now in
    let ring = c.args.slots.now in
    let run = fill_run content m c.args.self.now.context (c.args.high - c.args.low) c.args.low first ring in
    let at = c.loop-position.self in
    let slots = c.loop-position.slots in
    let q = c.loop-position.position in
    let lt : q < c.args.high = omega arith in
    let p = err_from_is_err_and c.from_residual.result c.from_residual.ensures.1 in
    let o : fill_open at m q ≡ false = refused_shut _ _ _ (sym c.in_err-fill.was ∙ c.fill.ensures.answer) in
    let whole = sym (fill_stop content m c.args.self.now.context c.args.high q at slots lt o) ∙ c.loop-position.invariant.1 in
    let answer : c.from_residual.result ≡ run.answer = rw (p.1, p.2) (sym c.in_err-fill.was ∙ c.fill.ensures.answer ∙ ap (λ k. fill_answer m k at q) c.loop-position.invariant.0 ∙ ap (λ e. e.answer) whole) in
    let file : c.fill.new.slots ≡ run.file = c.fill.ensures.file ∙ ap (λ b. cond b (register_put slots q (filled content at m q)) slots) o ∙ ap (λ e. e.file) whole in
    let cursor : c.fill.new.self ≡ run.cursor = c.fill.ensures.cursor ∙ ap (λ b. cond b (read_more (fill_reads at q) at) at) o ∙ ap (λ e. e.cursor) whole in
    record {
      answer = answer;
      file = file;
      cursor = cursor;
      closed = fill_shows g.K.Kind.zero_content content m c.args.self.now.context c.args.low c.args.high first c.fill.new.self ring c.fill.new.slots
          c.from_residual.result answer file cursor;
    }

pub returns : goal.returns
returns g c =
    let content = g.K.Kind.content_of in
    let m = g.S.Store.meaning c.args.store.now in
    let first = c.args.self.now in
    let ring = c.args.slots.now in
    let at = c.loop-position.self in
    let slots = c.loop-position.slots in
    let q = c.loop-position.position in
    let e : 0 ≡ c.args.high - q = omega arith in
    let whole = ap (λ n. fill_run content m c.args.self.now.context n q at slots) e ∙ c.loop-position.invariant.1 in
    let answer = ap (λ e. e.answer) whole in
    let file = ap (λ e. e.file) whole in
    let cursor = ap (λ e. e.cursor) whole in
    record {
      answer = answer;
      file = file;
      cursor = cursor;
      closed = fill_shows g.K.Kind.zero_content content m c.args.self.now.context c.args.low c.args.high first at ring slots _ answer file cursor;
    }
