use Rattle.std.proofs.Common.{◌≡◌, refl, ap, rules}
use Rattle.context.specs.Frames.{previous_set}
use Rattle.context.proofs.SoundFrames.{previous_sound, previous_status}
use Rattle.engine.specs.declared.machine.State.TheVariants.{Running}
use Rattle.engine.specs.Hosts.{in_state}
use Rattle.engine.specs.Invariants.{is_idle}
use Rattle.engine.proofs.Invariants.{driven_in, sound_at, fits_next}
use Rattle.engine.proofs.sound.Engine.set_previous.Goals as goal

pub change-requires-clause-fits : goal.change-requires-clause-fits
change-requires-clause-fits c before after answer drives ran =
    let e = c.args.self.now in
    let m = e.machine in
    let r = driven_in e in
    let left : after.stack ≡ previous_set r c.args.word = search rules in
    fits_next (in_state m Running) r _ _ refl (e.awake (ap is_idle c.requires)) (previous_status c.args.word r) (previous_sound m.slots c.args.word r (sound_at e m.current)) left
