-- Instructions on the context that is driven.
use Rattle.std.specs.Prelude.{ℕ, Bool, Ok, Err, Result}
use Rattle.register.specs.declared.Slot.{Slot}
use Rattle.context.specs.declared.record.ContextRecord.{ContextRecord}
use Rattle.context.specs.declared.refusals.Refusal.{Refusal}
use Rattle.context.specs.Scenes.{Scene}
use Rattle.engine.specs.declared.instructions.Answer.{Answer}
use Rattle.engine.specs.declared.instructions.Answer.TheVariants.{Register, Flushed}
use Rattle.engine.specs.declared.machine.Machine.{Machine}
use Rattle.engine.specs.declared.machine.State.{State}
use Rattle.engine.specs.declared.machine.State.TheVariants.{Idle, Running, Covered, Flushed as FlushedState}
use Rattle.engine.specs.Tables.{record_at}
use Rattle.engine.specs.Hosts.{Host, lifted, with_machine, in_state, put_back}

-- the answer that a value gives
abbrev pub answered : {T : Type 0} → (T → Answer) → Result T Refusal → Result Answer Refusal
answered f (Ok v) = Ok (f v)
answered f (Err e) = Err e

-- a change of the driven record alone
abbrev pub restacked : Machine → (ContextRecord → ContextRecord) → Machine
restacked m f = put_back m (f (record_at m m.current)) m.counts

-- a state where it is granted
abbrev pub enters : {A : Type 0} → Result A Refusal → State → Machine → Machine
enters (Ok a) state m = in_state m state
enters (Err e) state m = m

-- flush: a covered context is flushed then, a running one goes on
abbrev pub after_flush : State → State
after_flush Idle = Idle
after_flush Running = Running
after_flush Covered = FlushedState
after_flush FlushedState = FlushedState

-- BSP and RNAT
abbrev pub flushed_as : ℕ × ℕ → Answer
flushed_as (bsp, rnat) = Flushed bsp rnat

module _ {C : Type 0} where
  -- the image and the NaT bit of a register
  abbrev pub shown_as : (C → ℕ) → Slot C → Answer
  shown_as image s = Register (image s.content) s.nat

  -- what an instruction leaves, with the state that it leads to
  abbrev pub leaves : Host C → Scene C → Result Answer Refusal → State → Host C
  leaves h s answer state = with_machine (lifted h s) (enters answer state (lifted h s).machine)

  -- the mode allows early spills
  abbrev pub spills_early : Host C → Bool
  spills_early h = h.machine.mode.spills

  -- the mode allows early fills
  abbrev pub fills_early : Host C → Bool
  fills_early h = h.machine.mode.fills
