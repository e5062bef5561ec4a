use Rattle.std.proofs.Common.{◌≡◌, true, length, refl, ◌∙◌, rules}
use Rattle.std.proofs.lemmas.Bool.{and_from, eq-eqb}
use Rattle.engine.specs.Hosts.{hosted}
use Rattle.engine.specs.Rules.{in_range}
use Rattle.engine.specs.Steps.{same_host, step_answer, step_after}
use Rattle.engine.proofs.Bounds.{step_deep, step_words}
use Rattle.engine.proofs.sound.Engine.step.Goals as goal

pub returns : goal.returns
returns g c =
    let nought = g.K.Kind.zero_content in
    let image = g.K.Kind.image_of in
    let content = g.K.Kind.content_of in
    let sum = g.K.Kind.sum_of in
    let engine = c.args.self.now in
    let file = c.args.slots.now in
    let meaning = g.S.Store.meaning c.args.store.now in
    let i = c.args.instruction in
    let left = hosted c.execute.new.self.machine c.execute.new.slots (g.S.Store.meaning c.execute.new.store) in
    let len : length file ≡ engine.machine.slots = search rules in
    let words : length meaning.words ≡ engine.machine.words = search rules in
    let host : same_host (hosted engine.machine file meaning) ≡ true =
    and_from _ _ (eq-eqb (length file) engine.machine.slots len) (eq-eqb (length meaning.words) engine.machine.words words) in
    let range : in_range i ≡ true = search rules in
    let answer : c.execute.result ≡ step_answer nought image content (hosted engine.machine file meaning) i = c.execute.ensures.answer ∙ rw (host, range) refl in
    let after : left ≡ step_after nought image content sum (hosted engine.machine file meaning) i = c.execute.ensures.after ∙ rw (host, range) refl in
    record {
      answer = answer;
      after = after;
      restored = step_deep nought image content sum engine file meaning i c.execute.result answer;
      words = step_words nought image content sum engine file meaning i left after;
    }
