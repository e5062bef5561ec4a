use Rattle.std.proofs.Common.{◌≡◌, length, ap, ◌∙◌}
use Rattle.context.specs.Scenes.{seen}
use Rattle.context.specs.Spilling.{alloc_after}
use Rattle.context.proofs.SoundSpills.{alloc_sound, alloc_status}
use Rattle.engine.specs.Invariants.{is_idle}
use Rattle.engine.proofs.Invariants.{driven_in, begins_sound, recount, fits_next}
use Rattle.engine.proofs.sound.Engine.alloc.Goals as goal

pub put-requires : goal.put-requires
put-requires g c =
    let nought = g.K.Kind.zero_content in
    let image = g.K.Kind.image_of in
    let e = c.args.self.now in
    let m = e.machine in
    let r = driven_in e in
    let from : c.context-context.result.stack ≡ r = c.context-context.ensures.stack in
    let len : length c.args.slots.now ≡ m.slots = c.requires.file in
    let s = seen c.context-context.result c.args.slots.now (g.S.Store.meaning c.args.store.now) in
    let start = begins_sound e (length c.args.slots.now) s.stack len from in
    let left = (alloc_after nought image s c.args.sof c.args.sol c.args.sor).stack in
    let after : c.alloc-previous.new.self.stack ≡ left = ap (λ x. x.stack) c.alloc-previous.ensures.after in
    let sound = alloc_sound nought image s c.args.sof c.args.sol c.args.sor start.0 start.1 in
    fits_next m r left _ c.requires.state (e.awake (ap is_idle c.requires.state))
    (alloc_status nought image s c.args.sof c.args.sol c.args.sor ∙ ap (λ x. x.status) from) (recount left len sound) after
