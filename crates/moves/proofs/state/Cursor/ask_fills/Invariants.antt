use Rattle.std.proofs.Common.{◌≡◌, ◌-◌}
use Rattle.moves.specs.Asks.{fills_asked}
use Rattle.moves.proofs.state.Cursor.ask_fills.Given as goal

-- what remains to be asked answers as the whole
abbrev pub invariant-loop-position : goal.invariant-loop-position
invariant-loop-position g l =
    fills_asked (g.S.Store.meaning l.store) l.self.context l.self (l.high - l.position) l.position
    ≡ fills_asked (g.S.Store.meaning l.store) l.self.context l.self (l.high - l.low) l.low
