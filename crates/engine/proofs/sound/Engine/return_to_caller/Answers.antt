use Rattle.std.proofs.Common.{◌≡◌, true, length, ap, ◌∙◌}
use Rattle.context.specs.Scenes.{seen}
use Rattle.context.specs.Returns.{back_to, return_base}
use Rattle.context.proofs.SoundReturns.{return_sound, back_status}
use Rattle.frame.specs.Markers.{lawful_word}
use Rattle.engine.specs.Invariants.{is_idle}
use Rattle.engine.proofs.Invariants.{driven_in, begins_sound, recount, fits_next}
use Rattle.engine.proofs.sound.Engine.return_to_caller.Goals as goal

pub put-requires : goal.put-requires
put-requires g c =
    let nought = g.K.Kind.zero_content in
    let image = g.K.Kind.image_of in
    let content = g.K.Kind.content_of in
    let e = c.args.self.now in
    let m = e.machine in
    let r = driven_in e in
    let from : c.context-context.result.stack ≡ r = c.context-context.ensures.stack in
    let len : length c.args.slots.now ≡ m.slots = c.requires.file in
    let s = seen c.context-context.result c.args.slots.now (g.S.Store.meaning c.args.store.now) in
    let start = begins_sound e (length c.args.slots.now) s.stack len from in
    let k = c.return_to_caller-returned in
    let left = (back_to nought image content s (return_base s.stack) s.stack.previous).stack in
    let after : k.new.self.stack ≡ left = ap (λ x. x.stack) k.ensures.after in
    let law : lawful_word s.stack.previous ≡ true = c.context-context.result.previously in
    let sound = return_sound nought image content s law start.0 start.1 in
    fits_next m r left _ c.requires.state (e.awake (ap is_idle c.requires.state))
    (back_status nought image content s (return_base s.stack) s.stack.previous ∙ ap (λ x. x.status) from) (recount left len sound) after
