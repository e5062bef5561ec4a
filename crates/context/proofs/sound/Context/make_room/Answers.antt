use Rattle.std.proofs.Common.{rules}
use Rattle.context.specs.Returns.{room_answer, room_after}
use Rattle.context.proofs.sound.Context.make_room.Goals as goal

pub returns-in_err-ask_spills : goal.returns-in_err-ask_spills
unfolding room_answer room_after
returns-in_err-ask_spills g c = search rules

pub returns : goal.returns
unfolding room_answer room_after
returns g c = search rules
