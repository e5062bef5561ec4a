use Rattle.std.proofs.Common.{◌≡◌, ◌-◌}
use Rattle.moves.specs.Fills.{fill_run}
use Rattle.moves.proofs.state.Cursor.fill_run.Given as goal

-- the context stays, and what remains is the end of the whole run
abbrev pub invariant-loop-position : goal.invariant-loop-position
invariant-loop-position g l =
    (l.self.context ≡ l.initial.self.context)
    × (fill_run g.K.Kind.content_of (g.S.Store.meaning l.store) l.initial.self.context (l.high - l.position) l.position l.self l.slots
    ≡ fill_run g.K.Kind.content_of (g.S.Store.meaning l.store) l.initial.self.context (l.high - l.low) l.low l.initial.self l.initial.slots)
