-- An engine's machine, with the file and the store under it.
use Rattle.std.specs.Prelude.{ℕ, List, slice_set}
use Rattle.register.specs.declared.Slot.{Slot}
use Rattle.store.specs.Meaning.{Meaning}
use Rattle.moves.specs.declared.state.Counts.{Counts}
use Rattle.context.specs.declared.record.ContextRecord.{ContextRecord}
use Rattle.context.specs.Scenes.{Scene}
use Rattle.engine.specs.declared.machine.Machine.{Machine}
use Rattle.engine.specs.declared.machine.State.{State}
use Rattle.engine.specs.declared.machine.Mode.{Mode}
use Rattle.engine.specs.Tables.{record_at}

pub record Host (C : Type 0) : Type 0 where
  pub machine : Machine
  pub file : List (Slot C)
  pub meaning : Meaning

-- another state
abbrev pub in_state : Machine → State → Machine
in_state m state =
    record { slots = m.slots; words = m.words; state = state; current = m.current; table = m.table; mode = m.mode; counts = m.counts }

-- another mode
abbrev pub in_mode : Machine → Mode → Machine
in_mode m mode =
    record { slots = m.slots; words = m.words; state = m.state; current = m.current; table = m.table; mode = mode; counts = m.counts }

-- another entry of the eight
abbrev pub with_entry : Machine → ℕ → ContextRecord → Machine
with_entry m k r =
    record { slots = m.slots; words = m.words; state = m.state; current = m.current; table = record { entries = slice_set m.table.entries k r }; mode = m.mode; counts = m.counts }

-- the entry k is driven, with this record and these counts
abbrev pub driving : Machine → ℕ → ContextRecord → Counts → State → Machine
driving m k r counts state =
    record { slots = m.slots; words = m.words; state = state; current = k; table = record { entries = slice_set m.table.entries k r }; mode = m.mode; counts = counts }

-- the driven entry is put back, with the counts
abbrev pub put_back : Machine → ContextRecord → Counts → Machine
put_back m r counts =
    record { slots = m.slots; words = m.words; state = m.state; current = m.current; table = record { entries = slice_set m.table.entries m.current r }; mode = m.mode; counts = counts }

module _ {C : Type 0} where
  -- what a call sees at its entry, and leaves at its exit
  abbrev pub hosted : Machine → List (Slot C) → Meaning → Host C
  hosted m slots meaning = record { machine = m; file = slots; meaning = meaning }

  -- the context that is driven
  abbrev pub scene_of : Host C → Scene C
  scene_of h =
      record { number = h.machine.current; stack = record_at h.machine h.machine.current; counts = h.machine.counts; file = h.file; meaning = h.meaning }

  -- what an instruction on that context leaves
  abbrev pub lifted : Host C → Scene C → Host C
  lifted h s = record { machine = put_back h.machine s.stack s.counts; file = s.file; meaning = s.meaning }

  -- another machine
  abbrev pub with_machine : Host C → Machine → Host C
  with_machine h m = record { machine = m; file = h.file; meaning = h.meaning }
