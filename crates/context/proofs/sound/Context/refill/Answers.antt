use Rattle.std.proofs.Common.{◌≡◌, Ok, rules}
use Rattle.context.specs.Scenes.{seen, cursor_in}
use Rattle.context.specs.Spilling.{fills_to}
use Rattle.context.specs.Returns.{refill_answer, refill_after, refill_asked}
use Rattle.moves.specs.Lowers.{lower_answer}
use Rattle.moves.specs.Steps.{MoveResult}
use Rattle.context.proofs.Refills.{refill_answer_lem, refill_after_lem}
use Rattle.context.proofs.sound.Context.refill.Goals as goal

pub returns-in_err-ask_refill : goal.returns-in_err-ask_refill
unfolding refill_answer refill_after
returns-in_err-ask_refill g c = search rules

pub returns-in_err-fill_run : goal.returns-in_err-fill_run
unfolding refill_answer refill_after
returns-in_err-fill_run g c = search rules

pub returns-in_err-lower : goal.returns-in_err-lower
unfolding refill_answer refill_after
returns-in_err-lower g c = search rules

pub returns : goal.returns
returns g c =
    let content = g.K.Kind.content_of in
    let m = g.S.Store.meaning c.args.store.now in
    let s = seen c.args.self.now c.args.slots.now m in
    let low = c.args.low in
    let high = c.args.high in
    let word = c.args.word in
    let asked : ◌≡◌ {A = MoveResult} (refill_asked m (cursor_in s) low high word) (Ok tt) = search rules in
    let fills : ◌≡◌ {A = MoveResult} (fills_to content s low high).answer (Ok tt) = search rules in
    let at : c.fill_run.new.self ≡ (fills_to content s low high).cursor = search rules in
    let went : ◌≡◌ {A = MoveResult} (lower_answer m s.number c.fill_run.new.self word) (Ok tt) = search rules in
    let file : c.fill_run.new.slots ≡ (fills_to content s low high).file = search rules in
    record {
      answer = refill_answer_lem content s low high word (Ok tt) c.fill_run.new.self asked fills at went;
      after = refill_after_lem content s low high word c.fill_run.new.self c.lower.new.self c.settle.new.self.stack c.settle.new.self.counts c.settle.new.self.number c.fill_run.new.slots asked fills at went c.lower.ensures.cursor c.settle.ensures.stack c.settle.ensures.counts c.settle.ensures.number file;
    }
