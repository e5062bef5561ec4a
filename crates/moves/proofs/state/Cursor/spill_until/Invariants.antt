use Rattle.std.proofs.Common.{◌≡◌, ◌-◌}
use Rattle.moves.specs.Spills.{spill_run}
use Rattle.moves.proofs.state.Cursor.spill_until.Given as goal

-- the context stays, and what remains is the end of the whole run
abbrev pub invariant-loop-word : goal.invariant-loop-word
invariant-loop-word g l =
    (l.self.context ≡ l.initial.self.context)
    × (spill_run g.K.Kind.zero_content g.K.Kind.image_of l.slots l.initial.self.context (l.end - l._word) l.self (g.S.Store.meaning l.store)
    ≡ spill_run g.K.Kind.zero_content g.K.Kind.image_of l.slots l.initial.self.context (l.end - l.initial.self.bspstore) l.initial.self (g.S.Store.meaning l.initial.store))
