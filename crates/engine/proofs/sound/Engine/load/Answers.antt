use Rattle.std.proofs.Common.{◌≡◌, true, length, sym, ap, ◌∙◌, subst}
use Rattle.context.specs.Scenes.{seen}
use Rattle.context.specs.Sound.{Closed}
use Rattle.std.proofs.lemmas.Bool.{false≢true}
use Rattle.context.specs.Returns.{load_after}
use Rattle.context.proofs.SoundLoads.{load_sound, load_closed, load_status, load_stopped}
use Rattle.engine.specs.Invariants.{is_idle}
use Rattle.engine.specs.Hosts.{in_state}
use Rattle.engine.specs.declared.machine.State.TheVariants.{Covered}
use Rattle.engine.specs.Invariants.{is_closed, is_current_entry, Fits}
use Rattle.engine.proofs.Invariants.{driven_in, sound_at, begins_sound, recount, closed_in, fits_in, fits_entered}
use Rattle.engine.proofs.sound.Engine.load.Goals as goal

pub enter-requires : goal.enter-requires
enter-requires g c =
    let content = g.K.Kind.content_of in
    let e = c.args.self.now in
    let m = e.machine in
    let r = driven_in e in
    let from : c.context-context.result.stack ≡ r = c.context-context.ensures.stack in
    let len : length c.args.slots.now ≡ m.slots = c.requires.file in
    let s = seen c.context-context.result c.args.slots.now (g.S.Store.meaning c.args.store.now) in
    let start = begins_sound e (length c.args.slots.now) s.stack len from in
    let left = (load_after content s c.args.words).stack in
    let after : c.load-answer.new.self.stack ≡ left = ap (λ x. x.stack) c.load-answer.ensures.after in
    let current = e.awake (ap is_idle c.requires.state) in
    fits_entered m _ Covered _
    (λ v ok.
    let closed : Closed s.stack = subst Closed (sym from) (closed_in e (ap is_closed c.requires.state)) in
    let sound = load_sound content s c.args.words start.0 closed start.1 in
    let status = load_status content s c.args.words ∙ ap (λ x. x.status) from in
    subst (λ x. Fits (in_state m Covered) x) (sym after)
    (fits_in (in_state m Covered) left (recount left len sound) (subst (λ x. is_current_entry x ≡ true) (sym status) current)
    (λ _. load_closed content s c.args.words closed) (λ t. absurd (false≢true t))))
    (λ x err.
    let same : c.load-answer.new.self.stack ≡ r = after ∙ load_stopped content s c.args.words x (sym c.load-answer.ensures.answer ∙ err) ∙ from in
    subst (λ x. Fits m x) (sym same) (fits_in m r (sound_at e m.current) current (closed_in e) e.flushed))
