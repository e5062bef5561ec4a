use Rattle.std.proofs.Common.{◌≡◌, true, length, sym, ap, ◌∙◌, subst}
use Rattle.context.specs.Scenes.{seen}
use Rattle.context.specs.Sound.{Closed}
use Rattle.std.proofs.lemmas.Bool.{both_ways}
use Rattle.context.specs.Spilling.{early_fill_after}
use Rattle.context.proofs.SoundSpills.{early_fill_sound, early_fill_status, early_fill_closed}
use Rattle.engine.specs.Invariants.{is_flushed, is_current_entry, Fits}
use Rattle.engine.proofs.Invariants.{driven_in, begins_sound, recount, closed_in, fits_in}
use Rattle.engine.proofs.sound.Engine.early_fill.Goals as goal

pub put-requires : goal.put-requires
put-requires g c =
    let content = g.K.Kind.content_of in
    let e = c.args.self.now in
    let m = e.machine in
    let r = driven_in e in
    let from : c.context-context.result.stack ≡ r = c.context-context.ensures.stack in
    let len : length c.args.slots.now ≡ m.slots = c.requires.file in
    let s = seen c.context-context.result c.args.slots.now (g.S.Store.meaning c.args.store.now) in
    let start = begins_sound e (length c.args.slots.now) s.stack len from in
    let left = (early_fill_after content s).stack in
    let after : c.early_fill-filled.new.self.stack ≡ left = ap (λ x. x.stack) c.early_fill-filled.ensures.after in
    let status = early_fill_status content s ∙ ap (λ x. x.status) from in
    subst (λ x. Fits m x) (sym after)
    (fits_in m left (recount left len (early_fill_sound content s start.1)) (subst (λ x. is_current_entry x ≡ true) (sym status) (e.awake c.requires.driven))
    (λ t. early_fill_closed content s (subst Closed (sym from) (closed_in e t)))
    (λ t. absurd (both_ways (is_flushed m.state) c.requires.state t)))
