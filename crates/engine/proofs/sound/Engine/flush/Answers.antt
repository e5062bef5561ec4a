use Rattle.std.proofs.Common.{◌≡◌, true, sym, refl, ap, ◌∙◌, subst}
use Rattle.context.specs.Scenes.{seen}
use Rattle.context.specs.Sound.{Closed}
use Rattle.std.proofs.lemmas.Bool.{both_ways}
use Rattle.context.specs.Scenes.{spilled}
use Rattle.context.specs.Spilling.{flush_run}
use Rattle.context.proofs.SoundSpills.{flushed_sound, flushed_stored, flush_granted}
use Rattle.engine.specs.Hosts.{in_state}
use Rattle.engine.specs.Running.{after_flush}
use Rattle.engine.specs.Invariants.{is_flushed, is_current_entry, Fits}
use Rattle.engine.proofs.Invariants.{driven_in, begins_sound, closed_in, fits_in, fits_entered, flush_closes}
use Rattle.engine.proofs.sound.Engine.flush.Goals as goal

pub enter-requires : goal.enter-requires
enter-requires g c =
    let nought = g.K.Kind.zero_content in
    let image = g.K.Kind.image_of in
    let e = c.args.self.now in
    let m = e.machine in
    let r = driven_in e in
    let from : c.context-context.result.stack ≡ r = c.context-context.ensures.stack in
    let s = seen c.context-context.result c.args.slots.now (g.S.Store.meaning c.args.store.now) in
    let start = begins_sound e m.slots s.stack refl from in
    let run = flush_run nought image s in
    let left = (spilled s run).stack in
    let after : c.flush-answer.new.self.stack ≡ left = ap (λ x. x.stack) c.flush-answer.ensures.after in
    let sound = flushed_sound nought image s m.slots start.1 in
    let current : is_current_entry s.stack.status ≡ true = subst (λ x. is_current_entry x.status ≡ true) (sym from) (e.awake c.requires.driven) in
    fits_entered m _ c.after_flush.result _
    (λ v ok.
    let went = flush_granted nought image s v (sym c.flush-answer.ensures.answer ∙ ok) in
    let fits : Fits (in_state m (after_flush m.state)) left = fits_in (in_state m (after_flush m.state)) _ sound current
    (λ t. let closed = subst Closed (sym from) (closed_in e (flush_closes m.state t)) in record { empty = closed.empty; below = closed.below })
    (λ t. flushed_stored nought image s m.slots start.1 went) in
    subst (λ st. Fits (in_state m st) c.flush-answer.new.self.stack) (sym c.after_flush.ensures) (subst (λ x. Fits (in_state m (after_flush m.state)) x) (sym after) fits))
    (λ x err.
    subst (λ x. Fits m x) (sym after)
    (fits_in m _ sound current
    (λ t. let closed = subst Closed (sym from) (closed_in e t) in record { empty = closed.empty; below = closed.below })
    (λ t. absurd (both_ways (is_flushed m.state) c.requires.state t))))
