use Rattle.std.proofs.Common.{◌≡◌, ◌-◌}
use Rattle.moves.specs.Asks.{spills_asked}
use Rattle.moves.proofs.state.Cursor.ask_spills.Given as goal

-- what remains to be asked answers as the whole
abbrev pub invariant-loop-word : goal.invariant-loop-word
invariant-loop-word g l =
    spills_asked (g.S.Store.meaning l.store) l.self.context l.self.start (l.end - l.word) l.word
    ≡ spills_asked (g.S.Store.meaning l.store) l.self.context l.self.start (l.end - l.self.bspstore) l.self.bspstore
