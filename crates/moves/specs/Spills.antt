-- Spills: from the file to the backing store, upward, word by word.
use Rattle.std.specs.Prelude.{ℕ, zero, suc, ◌+◌, ◌%◌, Bool, cond, List, Ok}
use Rattle.address.specs.Addresses.{is_collection, positions_below}
use Rattle.address.specs.NatBits.{with_nat}
use Rattle.register.specs.Slots.{register_at}
use Rattle.register.specs.declared.Slot.{Slot}
use Rattle.store.specs.Meaning.{Meaning}
use Rattle.store.specs.Rules.{is_open, written}
use Rattle.moves.specs.declared.state.Cursor.{Cursor}
use Rattle.moves.specs.declared.state.Movement.TheVariants.{Spill}
use Rattle.moves.specs.Steps.{MoveResult, wrote_one, ask_of}

-- the next position to be stored
abbrev pub stored_by : Cursor → ℕ
stored_by c = positions_below c.start c.bspstore

-- past a word, with the new RNAT
abbrev pub past_word : ℕ → Cursor → Cursor
past_word rnat c = record { context = c.context; start = c.start; bspstore = c.bspstore + 1; rnat = rnat; counts = wrote_one c.counts }

-- past a collection, RNAT is clear
abbrev pub past_collection : Cursor → Cursor
past_collection c = record { context = c.context; start = c.start; bspstore = c.bspstore + 1; rnat = 0; counts = wrote_one c.counts }

-- past a register, RNAT has its NaT bit
abbrev pub past_register : Bool → Cursor → Cursor
past_register nat c =
    record { context = c.context; start = c.start; bspstore = c.bspstore + 1; rnat = with_nat c.rnat (c.bspstore % 64) nat; counts = wrote_one c.counts }

-- a spill that meets a shut word
abbrev pub spill_answer : Meaning → ℕ → Cursor → MoveResult
spill_answer m context c = ask_of m c.bspstore Spill context (stored_by c)

module _ {C : Type 0} where
  -- what one step writes: RNAT to a collection, otherwise the image of the next position
  abbrev pub spill_value : C → (C → ℕ) → List (Slot C) → Cursor → ℕ
  spill_value nought image slots c =
      cond (is_collection c.bspstore) c.rnat (image (register_at nought slots (stored_by c)).content)

  -- where the moves stand after one step
  abbrev pub spill_past : C → List (Slot C) → Cursor → Cursor
  spill_past nought slots c =
      cond (is_collection c.bspstore) (past_collection c) (past_register (register_at nought slots (stored_by c)).nat c)

-- how spills end: where the moves stand, the store, and the answer
pub record SpillEnd : Type 0 where
  pub cursor : Cursor
  pub meaning : Meaning
  pub answer : MoveResult

module _ {C : Type 0} where
  -- n steps, up to the first shut word
  abbrev pub spill_run : C → (C → ℕ) → List (Slot C) → ℕ → ℕ → Cursor → Meaning → SpillEnd
  spill_run nought image slots context zero c m = record { cursor = c; meaning = m; answer = Ok tt }
  spill_run nought image slots context (suc n) c m =
      cond (is_open m c.bspstore)
      (spill_run nought image slots context n (spill_past nought slots c) (written m c.bspstore (spill_value nought image slots c)))
      (record { cursor = c; meaning = m; answer = spill_answer m context c })
