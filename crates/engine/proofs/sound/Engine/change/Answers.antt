use Rattle.std.proofs.Common.{rules}
use Rattle.std.specs.Fn.{FnOnceReturnsAtMut}
use Rattle.engine.specs.Changes.{Drives}
use Rattle.engine.proofs.sound.Engine.change.Goals as goal

pub leave-requires : goal.leave-requires
leave-requires g c =
    let before = c.context-context.result in
    let drives : Drives c.args.self.now.machine before = search rules in
    let ran : FnOnceReturnsAtMut g.F.FnOnce c.args.instruction before c.instruction-answer.result c.instruction-answer.new.arg2 = search rules in
    c.requires.fits before c.instruction-answer.new.arg2 c.instruction-answer.result drives ran

pub returns : goal.returns
returns g c =
    let before = c.context-context.result in
    let drives : Drives c.args.self.now.machine before = search rules in
    let ran : FnOnceReturnsAtMut g.F.FnOnce c.args.instruction before c.instruction-answer.result c.instruction-answer.new.arg2 = search rules in
    record { before = before; after = c.instruction-answer.new.arg2; drives = drives; ran = ran; machine = c.leave.ensures }
