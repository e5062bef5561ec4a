use Rattle.std.proofs.Common.{◌≡◌, ◌+◌, ◌<◌, ◌≤◌, [], ◌∷◌, ◌++◌, length, vec_items, arith, rules}
use Rattle.engine.specs.Hosts.{hosted}
use Rattle.text.specs.Lines.{lines_of}
use Rattle.text.proofs.SessionRuns.{runs_more, runs_all}
use Rattle.text.proofs.session.execute_lines.Goals as goal

pub loop-rest-preserved : goal.loop-rest-preserved
loop-rest-preserved g c =
    let some : 0 < length c.loop-rest.rest.now = search rules in
    let short = c.first_line.ensures.shorter some in
    let fits : c.loop-rest.number + 1 + length c.first_line.result.1.now ≤ length c.args.input.now = omega (arith, short, c.loop-rest.invariant.0) in
    let old = vec_items c.loop-rest.outcomes in
    let o = c.execute_line.result in
    let pushed : vec_items c.push.new.self ≡ old ++ (o ∷ []) = search rules in (
      fits,
      runs_more g.K.Kind.zero_content g.K.Kind.image_of g.K.Kind.content_of g.K.Kind.sum_of
          (hosted c.args.engine.now.machine c.args.slots.now (g.S.Store.meaning c.args.store.now))
          (hosted c.loop-rest.engine.machine c.loop-rest.slots (g.S.Store.meaning c.loop-rest.store))
          (hosted c.execute_line.new.engine.machine c.execute_line.new.slots (g.S.Store.meaning c.execute_line.new.store))
          (lines_of c.args.input.now) (lines_of c.loop-rest.rest.now) (lines_of c.first_line.result.1.now) c.first_line.result.0.now
          c.loop-rest.number old (vec_items c.push.new.self) o
          (c.first_line.ensures.lines some) c.loop-rest.invariant.1 c.execute_line.ensures pushed,
    )

pub returns : goal.returns
returns g c =
    let none : length c.loop-rest.rest.now ≡ 0 = search rules in
    runs_all g.K.Kind.zero_content g.K.Kind.image_of g.K.Kind.content_of g.K.Kind.sum_of
    (hosted c.args.engine.now.machine c.args.slots.now (g.S.Store.meaning c.args.store.now))
    (hosted c.loop-rest.engine.machine c.loop-rest.slots (g.S.Store.meaning c.loop-rest.store))
    (lines_of c.args.input.now) c.loop-rest.rest.now c.loop-rest.number (vec_items c.loop-rest.outcomes) none c.loop-rest.invariant.1
