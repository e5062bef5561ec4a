use Rattle.std.proofs.Common.{◌≡◌, true, sym, refl, ap, ◌∙◌, subst}
use Rattle.context.specs.Scenes.{seen}
use Rattle.context.specs.Sound.{Closed}
use Rattle.std.proofs.lemmas.Bool.{both_ways}
use Rattle.context.specs.Spilling.{early_spill_after}
use Rattle.context.proofs.SoundSpills.{early_spill_sound, early_spill_status, early_spill_closed}
use Rattle.engine.specs.Invariants.{is_flushed, is_current_entry, Fits}
use Rattle.engine.proofs.Invariants.{driven_in, begins_sound, closed_in, fits_in}
use Rattle.engine.proofs.sound.Engine.early_spill.Goals as goal

pub put-requires : goal.put-requires
put-requires g c =
    let nought = g.K.Kind.zero_content in
    let image = g.K.Kind.image_of in
    let e = c.args.self.now in
    let m = e.machine in
    let r = driven_in e in
    let from : c.context-context.result.stack ≡ r = c.context-context.ensures.stack in
    let s = seen c.context-context.result c.args.slots.now (g.S.Store.meaning c.args.store.now) in
    let start = begins_sound e m.slots s.stack refl from in
    let left = (early_spill_after nought image s).stack in
    let after : c.early_spill-spilled.new.self.stack ≡ left = ap (λ x. x.stack) c.early_spill-spilled.ensures.after in
    let status = early_spill_status nought image s ∙ ap (λ x. x.status) from in
    subst (λ x. Fits m x) (sym after)
    (fits_in m _ (early_spill_sound nought image s m.slots start.1) (subst (λ x. is_current_entry x ≡ true) (sym status) (e.awake c.requires.driven))
    (λ t. early_spill_closed nought image s (subst Closed (sym from) (closed_in e t)))
    (λ t. absurd (both_ways (is_flushed m.state) c.requires.state t)))
