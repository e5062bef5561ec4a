use Rattle.std.proofs.Common.{◌≡◌, min, Err, ap, ◌∙◌}
use Rattle.std.proofs.lemmas.Result.{err_from_is_err_and}
use Rattle.address.specs.Addresses.{positions_below}
use Rattle.moves.specs.RoundTrips.{run_low, run_high}
use Rattle.moves.proofs.RoundTrips.{refused_trip, granted_trip}
use Rattle.moves.proofs.state.Cursor.spill_and_refill.Goals as goal

pub returns-in_err-spill_until : goal.returns-in_err-spill_until
returns-in_err-spill_until g c =
    let nought = g.K.Kind.zero_content in
    let p = err_from_is_err_and c.from_residual.result c.from_residual.ensures.1 in
    let spilled = c.spill_until.ensures in
    let t = refused_trip nought g.K.Kind.image_of g.K.Kind.content_of g.met.K.Kind.restored c.args.slots.now c.args.self.now.context c.args.end c.from-end.result
    c.args.self.now c.spill_until.new.self (g.S.Store.meaning c.args.store.now) (g.S.Store.meaning c.spill_until.new.store) c.spill_until.result
    c.from-end.ensures spilled.answer spilled.words spilled.cursor _ c.from_residual.result c.in_err-spill_until.was (p.1 ∙ ap Err p.2)
    in
    record { answer = t.answer; file = t.file; cursor = t.cursor; words = t.words; back = t.back }

pub returns : goal.returns
returns g c =
    let nought = g.K.Kind.zero_content in
    let at = c.args.self.now in
    let spilled = c.spill_until.ensures in
    let refilled = c.refill.ensures in
    let low : c.positions_below-low.result ≡ run_low at c.args.end = c.positions_below-low.ensures
    ∙ ap (positions_below at.start) (c.min.ensures ∙ ap (min at.bspstore) c.from-end.ensures) in
    let high : c.positions_below-high.result ≡ run_high at c.args.end = c.positions_below-high.ensures ∙ ap (positions_below at.start) c.from-end.ensures in
    let t = granted_trip nought g.K.Kind.image_of g.K.Kind.content_of g.met.K.Kind.restored c.args.slots.now c.args.self.now.context c.args.end c.from-end.result
    at c.spill_until.new.self (g.S.Store.meaning c.args.store.now) (g.S.Store.meaning c.spill_until.new.store) c.spill_until.result
    c.from-end.ensures spilled.answer spilled.words spilled.cursor c.spill_until.new.self.context c.positions_below-low.result c.positions_below-high.result c.refill.result
    c.refill.new.self c.refill.new.slots
    spilled.closed.owner c.in_ok-spill_until.was low high refilled.answer refilled.file refilled.cursor
    in
    record { answer = t.answer; file = t.file; cursor = t.cursor; words = t.words; back = t.back }
