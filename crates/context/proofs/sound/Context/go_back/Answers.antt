use Rattle.std.proofs.Common.{◌≡◌, ◌+◌, ◌≤◌, ap, ◌∙◌, arith}
use Rattle.address.specs.Addresses.{capacity_of}
use Rattle.frame.specs.Markers.{sof_of}
use Rattle.context.specs.Scenes.{seen}
use Rattle.context.proofs.Moves.{frame_size}
use Rattle.context.proofs.sound.Context.go_back.Goals as goal

pub invariant_of-self : goal.invariant_of-self
invariant_of-self g c =
    let s = seen c.args.self.now c.args.slots.now (g.S.Store.meaning c.args.store.now) in
    let new = c.move_frame.new.self in
    let size : new.stack.size ≡ c.args.self.now.stack.size = ap (λ x. x.stack.size) c.move_frame.ensures.after ∙ frame_size g.K.Kind.zero_content g.K.Kind.image_of g.K.Kind.content_of s c.args.base _ in
    let parts = c.from-word.ensures.parts in
    let held : c.args.base + sof_of c.from-word.result ≤ capacity_of new.stack.size = omega (arith, size, parts.0, c.requires) in
    record { region = new.region; marked = c.from-word.ensures.lawful; previously = new.previously; saving = new.saving; held = held }
