use Rattle.std.proofs.Common.{◌≡◌, ◌<◌, ◌≤◌, min, sym, ap, ◌∙◌, arith, rules}
use Rattle.address.specs.Addresses.{address_of}
use Rattle.context.specs.Records.{stored_of}
use Rattle.context.specs.Scenes.{seen}
use Rattle.context.specs.Spilling.{floor_of}
use Rattle.context.specs.Returns.{room_answer, room_after, refill_answer, refill_after, frame_answer, frame_after}
use Rattle.context.proofs.Moves.{room_answer_lem, room_after_lem, refill_frame_answer, refill_frame_after}
use Rattle.context.proofs.sound.Context.move_frame.Goals as goal

pub returns-then-stored-from : goal.returns-then-stored-from
returns-then-stored-from g c =
    let nought = g.K.Kind.zero_content in
    let image = g.K.Kind.image_of in
    let content = g.K.Kind.content_of in
    let s = seen c.args.self.now c.args.slots.now (g.S.Store.meaning c.args.store.now) in
    let top = c.args.top in
    let fl : c.floor-floor.result ≡ floor_of s top = c.floor-floor.ensures in
    let lt : stored_of s.stack < floor_of s top = omega (arith, c.stored-stored.ensures, fl) in
    record {
      answer = c.make_room.ensures.answer ∙ ap (room_answer nought image s) fl ∙ sym (room_answer_lem nought image content s c.args.base top lt);
      after = c.make_room.ensures.after ∙ ap (room_after nought image s) fl ∙ sym (room_after_lem nought image content s c.args.base top lt);
    }

pub returns-then-stored-from-2 : goal.returns-then-stored-from-2
returns-then-stored-from-2 g c =
    let nought = g.K.Kind.zero_content in
    let image = g.K.Kind.image_of in
    let content = g.K.Kind.content_of in
    let s = seen c.args.self.now c.args.slots.now (g.S.Store.meaning c.args.store.now) in
    let top = c.args.top in
    let base = c.args.base in
    let high : c.min-high.result ≡ min s.stack.lo top = c.min-high.ensures in
    let word : c.address_of-word.result ≡ address_of s.stack.start base = c.address_of-word.ensures in
    let fl : c.floor-floor.result ≡ floor_of s top = c.floor-floor.ensures in
    let le : floor_of s top ≤ stored_of s.stack = omega (arith, c.stored-stored.ensures, fl) in
    let lt : base < stored_of s.stack = omega (arith, c.stored-stored.ensures) in
    record {
      answer = c.refill.ensures.answer ∙ ap (λ h. refill_answer content s base h c.address_of-word.result) high ∙ ap (refill_answer content s base (min s.stack.lo top)) word ∙ sym (refill_frame_answer nought image content s base top le lt);
      after = c.refill.ensures.after ∙ ap (λ h. refill_after content s base h c.address_of-word.result) high ∙ ap (refill_after content s base (min s.stack.lo top)) word ∙ sym (refill_frame_after nought image content s base top le lt);
    }

pub returns : goal.returns
unfolding frame_answer frame_after
returns g c = search rules
