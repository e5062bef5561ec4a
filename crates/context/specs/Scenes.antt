-- A context that is driven, with the file and the store under it.
use Rattle.std.specs.Prelude.{◌≡◌, ℕ, List, Ok, Err, Result}
use Rattle.register.specs.declared.Slot.{Slot}
use Rattle.store.specs.Meaning.{Meaning}
use Rattle.moves.specs.Steps.{MoveResult}
use Rattle.moves.specs.Spills.{SpillEnd}
use Rattle.moves.specs.declared.state.Cursor.{Cursor}
use Rattle.moves.specs.declared.state.Counts.{Counts}
use Rattle.context.specs.declared.record.ContextRecord.{ContextRecord}
use Rattle.context.specs.declared.refusals.Refusal.{Refusal}
use Rattle.context.specs.declared.refusals.Refusal.TheVariants.{Shut}
use Rattle.context.specs.declared.sound.Context.{Context}
use Rattle.context.specs.Records.{cursor_of, with_moves}

-- its number in faults, its record, the counts of words moved, the file, and what the store means
pub record Scene (C : Type 0) : Type 0 where
  pub number : ℕ
  pub stack : ContextRecord
  pub counts : Counts
  pub file : List (Slot C)
  pub meaning : Meaning

-- the record alone changes, by f
pub record StackAlone (f : ContextRecord → ContextRecord) (before after : Context) : Type 0 where
  pub stack : after.stack ≡ f before.stack
  pub counts : after.counts ≡ before.counts
  pub number : after.number ≡ before.number

module _ {C : Type 0} where
  -- what a call sees at its entry, and leaves at its exit
  abbrev pub seen : Context → List (Slot C) → Meaning → Scene C
  seen context slots m = record { number = context.number; stack = context.stack; counts = context.counts; file = slots; meaning = m }

  -- where the moves stand
  abbrev pub cursor_in : Scene C → Cursor
  cursor_in s = cursor_of s.number s.stack s.counts

  -- another record
  abbrev pub with_stack : Scene C → ContextRecord → Scene C
  with_stack s r = record { number = s.number; stack = r; counts = s.counts; file = s.file; meaning = s.meaning }

  -- another file
  abbrev pub with_file : Scene C → List (Slot C) → Scene C
  with_file s slots = record { number = s.number; stack = s.stack; counts = s.counts; file = slots; meaning = s.meaning }

  -- the moves stand elsewhere
  abbrev pub settled : Scene C → Cursor → Scene C
  settled s c = record { number = s.number; stack = with_moves s.stack c; counts = c.counts; file = s.file; meaning = s.meaning }

  -- after spills
  abbrev pub spilled : Scene C → SpillEnd → Scene C
  spilled s run =
      record { number = s.number; stack = with_moves s.stack run.cursor; counts = run.cursor.counts; file = s.file; meaning = run.meaning }

-- a shut word refuses; otherwise the answer
abbrev pub moved : {T : Type 0} → MoveResult → Result T Refusal → Result T Refusal
moved (Ok v) answer = answer
moved (Err fault) answer = Err (Shut fault)

-- what is left where the moves went through, and where they did not
abbrev pub if_moved : {T : Type 0} → MoveResult → T → T → T
if_moved (Ok v) through stopped = through
if_moved (Err fault) through stopped = stopped

-- the first of two that meets a shut word
abbrev pub both : MoveResult → MoveResult → MoveResult
both (Ok v) next = next
both (Err fault) next = Err fault
