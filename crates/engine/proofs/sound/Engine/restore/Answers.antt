use Rattle.std.proofs.Common.{◌≡◌, true, length, sym, refl, ap, ◌∙◌, subst}
use Rattle.context.specs.Scenes.{seen}
use Rattle.context.specs.Sound.{Closed}
use Rattle.context.specs.Returns.{back_to, restore_base}
use Rattle.context.proofs.SoundReturns.{restore_sound, restore_stopped, back_status}
use Rattle.frame.specs.Markers.{lawful_word}
use Rattle.engine.specs.Hosts.{in_state}
use Rattle.engine.specs.declared.machine.State.TheVariants.{Running}
use Rattle.engine.proofs.Invariants.{closed_awake}
use Rattle.engine.specs.Invariants.{Fits}
use Rattle.engine.proofs.Invariants.{driven_in, sound_at, begins_sound, recount, closed_in, fits_in, fits_next, fits_entered}
use Rattle.engine.proofs.sound.Engine.restore.Goals as goal

pub enter-requires : goal.enter-requires
enter-requires g c =
    let nought = g.K.Kind.zero_content in
    let image = g.K.Kind.image_of in
    let content = g.K.Kind.content_of in
    let e = c.args.self.now in
    let m = e.machine in
    let r = driven_in e in
    let from : c.context-context.result.stack ≡ r = c.context-context.ensures.stack in
    let len : length c.args.slots.now ≡ m.slots = c.requires.file in
    let s = seen c.context-context.result c.args.slots.now (g.S.Store.meaning c.args.store.now) in
    let start = begins_sound e (length c.args.slots.now) s.stack len from in
    let left = (back_to nought image content s (restore_base s.stack) s.stack.saved).stack in
    let after : c.restore-answer.new.self.stack ≡ left = ap (λ x. x.stack) c.restore-answer.ensures.after in
    let current = e.awake (closed_awake m.state c.requires.state) in
    fits_entered m _ Running _
    (λ v ok.
    let law : lawful_word s.stack.saved ≡ true = c.context-context.result.saving in
    let sound = restore_sound nought image content s law start.0 start.1 in
    fits_next (in_state m Running) r left _ refl current
    (back_status nought image content s (restore_base s.stack) s.stack.saved ∙ ap (λ x. x.status) from) (recount left len sound) after)
    (λ x err.
    let closed : Closed s.stack = subst Closed (sym from) (closed_in e c.requires.state) in
    let same : c.restore-answer.new.self.stack ≡ r = after ∙ restore_stopped nought image content s closed start.1 x (sym c.restore-answer.ensures.answer ∙ err) ∙ from in
    subst (λ x. Fits m x) (sym same) (fits_in m r (sound_at e m.current) current (closed_in e) e.flushed))
