use Rattle.std.proofs.Common.{◌≡◌, Ok, inl, rules}
use Rattle.text.specs.Sessions.{numbered}
use Rattle.text.specs.Spelling.{spelling, Operands64}
use Rattle.engine.specs.Hosts.{hosted}
use Rattle.engine.specs.Steps.{step_answer}
use Rattle.text.proofs.session.execute_line.Goals as goal

pub returns-in_err-answer : goal.returns-in_err-answer
returns-in_err-answer g c =
    let i = c.in_ok-instruction.instruction in
    let spelled : (c.args.text.now ≡ spelling i) × Operands64 i = search rules in
    let answer : c.from_residual-in_err-answer.result ≡ numbered (step_answer g.K.Kind.zero_content g.K.Kind.image_of g.K.Kind.content_of
    (hosted c.args.engine.now.machine c.args.slots.now (g.S.Store.meaning c.args.store.now)) i) c.args.line = search rules in
    inl (i, spelled.1, spelled.0, answer, c.step.ensures.after)

pub returns : goal.returns
returns g c =
    let i = c.in_ok-instruction.instruction in
    let spelled : (c.args.text.now ≡ spelling i) × Operands64 i = search rules in
    let answer : Ok c.in_ok-answer.answer ≡ numbered (step_answer g.K.Kind.zero_content g.K.Kind.image_of g.K.Kind.content_of
    (hosted c.args.engine.now.machine c.args.slots.now (g.S.Store.meaning c.args.store.now)) i) c.args.line = search rules in
    inl (i, spelled.1, spelled.0, answer, c.step.ensures.after)
