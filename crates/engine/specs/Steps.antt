-- One instruction: its answer, and what it leaves.
use Rattle.std.specs.Prelude.{ℕ, Bool, cond, ◌&&◌, List, length, Ok, Err, Result, ◌==◌}
use Rattle.register.specs.declared.Slot.{Slot}
use Rattle.context.specs.declared.record.ContextRecord.{ContextRecord}
use Rattle.context.specs.declared.refusals.Refusal.{Refusal}
use Rattle.context.specs.declared.refusals.Refusal.TheVariants.{Operand, State as WrongState, Mode, Host as WrongHost}
use Rattle.context.specs.Frames.{called, covered, rotated_frame, reset_frame, previous_set, previous_answer, write_file, copy_file, add_file}
use Rattle.context.specs.Frames.{read_answer, one_register, two_registers, three_registers}
use Rattle.context.specs.Records.{bsp_of}
use Rattle.context.specs.Scenes.{spilled}
use Rattle.context.specs.Spilling.{alloc_answer, alloc_after, flush_run, flush_answer, early_spill_answer, early_spill_after, early_fill_answer, early_fill_after}
use Rattle.context.specs.Returns.{return_base, restore_base, back_to, back_to_answer, load_answer, load_after}
use Rattle.engine.specs.declared.instructions.Instruction.{Instruction}
use Rattle.engine.specs.declared.instructions.Instruction.TheVariants.{Begin, Resume, Retire, Alloc, Call, Return, Cover, Write, Copy, Add, Read}
use Rattle.engine.specs.declared.instructions.Instruction.TheVariants.{Rotate, ResetRotation, Previous, SetPrevious, Restore, Flush, EarlySpill, EarlyFill}
use Rattle.engine.specs.declared.instructions.Instruction.TheVariants.{Load, Park, SetMode, State as AskState, Counts as AskCounts}
use Rattle.engine.specs.declared.instructions.Answer.{Answer}
use Rattle.engine.specs.declared.instructions.Answer.TheVariants.{Done, Marker, State as StateAnswer, Counts as CountsAnswer}
use Rattle.engine.specs.declared.machine.Machine.{Machine}
use Rattle.engine.specs.declared.machine.State.{State}
use Rattle.engine.specs.declared.machine.State.TheVariants.{Idle, Running, Covered, Flushed}
use Rattle.engine.specs.Modes.{mode_of}
use Rattle.engine.specs.Tables.{record_at}
use Rattle.engine.specs.Hosts.{Host, scene_of, lifted, with_machine, in_state, in_mode}
use Rattle.engine.specs.Rules.{in_range, begin_answer, begin_machine, parked_answer, resume_machine, retire_machine, park_machine}
use Rattle.engine.specs.Running.{answered, restacked, shown_as, flushed_as, leaves, after_flush, spills_early, fills_early}

-- what an instruction of one state gives, or of two
abbrev pub in_idle : {T : Type 0} → State → T → T → T
in_idle Idle allowed other = allowed
in_idle Running allowed other = other
in_idle Covered allowed other = other
in_idle Flushed allowed other = other

abbrev pub in_running : {T : Type 0} → State → T → T → T
in_running Idle allowed other = other
in_running Running allowed other = allowed
in_running Covered allowed other = other
in_running Flushed allowed other = other

abbrev pub in_flushed : {T : Type 0} → State → T → T → T
in_flushed Idle allowed other = other
in_flushed Running allowed other = other
in_flushed Covered allowed other = other
in_flushed Flushed allowed other = allowed

abbrev pub in_running_or_covered : {T : Type 0} → State → T → T → T
in_running_or_covered Idle allowed other = other
in_running_or_covered Running allowed other = allowed
in_running_or_covered Covered allowed other = allowed
in_running_or_covered Flushed allowed other = other

abbrev pub in_covered_or_flushed : {T : Type 0} → State → T → T → T
in_covered_or_flushed Idle allowed other = other
in_covered_or_flushed Running allowed other = other
in_covered_or_flushed Covered allowed other = allowed
in_covered_or_flushed Flushed allowed other = allowed

-- state, context, base, marker word and BSP; all 0 in idle
abbrev pub state_shown : State → ℕ → ContextRecord → Answer
state_shown Idle k r = StateAnswer 0 0 0 0 0
state_shown Running k r = StateAnswer 1 k r.base r.marker (bsp_of r)
state_shown Covered k r = StateAnswer 2 k r.base r.marker (bsp_of r)
state_shown Flushed k r = StateAnswer 3 k r.base r.marker (bsp_of r)

abbrev pub state_of : Machine → Answer
state_of m = state_shown m.state m.current (record_at m m.current)

abbrev pub counts_of : Machine → Answer
counts_of m = CountsAnswer m.counts.written m.counts.read

-- the record of the context that is driven
abbrev pub driven : Machine → ContextRecord
driven m = record_at m m.current

module _ {C : Type 0} where
  -- another file
  abbrev pub filed : Host C → List (Slot C) → Host C
  filed h file = record { machine = h.machine; file = file; meaning = h.meaning }

  -- what an instruction answers in its states; in any other it is refused
  abbrev pub ruled : C → (C → ℕ) → (ℕ → C) → Host C → Instruction → Result Answer Refusal
  ruled nought image content h (Begin k s n) = in_idle h.machine.state (begin_answer h.machine k s n) (Err WrongState)
  ruled nought image content h (Resume k) = in_idle h.machine.state (parked_answer h.machine k) (Err WrongState)
  ruled nought image content h (Retire k) = in_idle h.machine.state (parked_answer h.machine k) (Err WrongState)
  ruled nought image content h (Alloc sof sol sor) =
      in_running h.machine.state (answered Marker (alloc_answer nought image (scene_of h) sof sol sor)) (Err WrongState)
  ruled nought image content h Call = in_running h.machine.state (Ok Done) (Err WrongState)
  ruled nought image content h Return =
      in_running h.machine.state
      (answered (λ _. Done) (back_to_answer nought image content (scene_of h) (return_base (driven h.machine)) (driven h.machine).previous))
      (Err WrongState)
  ruled nought image content h Cover = in_running h.machine.state (Ok Done) (Err WrongState)
  ruled nought image content h (Write r w nat) =
      in_running h.machine.state (answered (λ _. Done) (one_register (driven h.machine) r)) (Err WrongState)
  ruled nought image content h (Copy r s) =
      in_running h.machine.state (answered (λ _. Done) (two_registers (driven h.machine) r s)) (Err WrongState)
  ruled nought image content h (Add r s q) =
      in_running h.machine.state (answered (λ _. Done) (three_registers (driven h.machine) r s q)) (Err WrongState)
  ruled nought image content h (Read r) =
      in_running h.machine.state (answered (shown_as image) (read_answer nought (driven h.machine) h.file r)) (Err WrongState)
  ruled nought image content h Rotate = in_running h.machine.state (Ok Done) (Err WrongState)
  ruled nought image content h ResetRotation = in_running h.machine.state (Ok Done) (Err WrongState)
  ruled nought image content h Previous = in_running h.machine.state (Ok (Marker (driven h.machine).previous)) (Err WrongState)
  ruled nought image content h (SetPrevious w) = in_running h.machine.state (answered (λ _. Done) (previous_answer w)) (Err WrongState)
  ruled nought image content h Restore =
      in_covered_or_flushed h.machine.state
      (answered (λ _. Done) (back_to_answer nought image content (scene_of h) (restore_base (driven h.machine)) (driven h.machine).saved))
      (Err WrongState)
  ruled nought image content h Flush =
      in_running_or_covered h.machine.state (answered flushed_as (flush_answer nought image (scene_of h))) (Err WrongState)
  ruled nought image content h EarlySpill =
      in_running_or_covered h.machine.state
      (cond (spills_early h) (answered (λ _. Done) (early_spill_answer nought image (scene_of h))) (Err Mode))
      (Err WrongState)
  ruled nought image content h EarlyFill =
      in_running_or_covered h.machine.state
      (cond (fills_early h) (answered (λ _. Done) (early_fill_answer content (scene_of h))) (Err Mode))
      (Err WrongState)
  ruled nought image content h (Load d) =
      in_flushed h.machine.state (answered (λ _. Done) (load_answer content (scene_of h) d)) (Err WrongState)
  ruled nought image content h Park = in_flushed h.machine.state (Ok Done) (Err WrongState)
  ruled nought image content h (SetMode m) = Ok Done
  ruled nought image content h AskState = Ok (state_of h.machine)
  ruled nought image content h AskCounts = Ok (counts_of h.machine)

  -- what it leaves
  abbrev pub ruled_after : C → (C → ℕ) → (ℕ → C) → (C → C → C) → Host C → Instruction → Host C
  ruled_after nought image content sum h (Begin k s n) = in_idle h.machine.state (with_machine h (begin_machine h.machine k s n)) h
  ruled_after nought image content sum h (Resume k) = in_idle h.machine.state (with_machine h (resume_machine h.machine k)) h
  ruled_after nought image content sum h (Retire k) = in_idle h.machine.state (with_machine h (retire_machine h.machine k)) h
  ruled_after nought image content sum h (Alloc sof sol sor) =
      in_running h.machine.state (lifted h (alloc_after nought image (scene_of h) sof sol sor)) h
  ruled_after nought image content sum h Call = in_running h.machine.state (with_machine h (restacked h.machine called)) h
  ruled_after nought image content sum h Return =
      in_running h.machine.state
      (lifted h (back_to nought image content (scene_of h) (return_base (driven h.machine)) (driven h.machine).previous))
      h
  ruled_after nought image content sum h Cover =
      in_running h.machine.state (with_machine h (in_state (restacked h.machine covered) Covered)) h
  ruled_after nought image content sum h (Write r w nat) =
      in_running h.machine.state (filed h (write_file content (driven h.machine) h.file r w (nat == 1))) h
  ruled_after nought image content sum h (Copy r s) =
      in_running h.machine.state (filed h (copy_file nought (driven h.machine) h.file r s)) h
  ruled_after nought image content sum h (Add r s q) =
      in_running h.machine.state (filed h (add_file nought sum (driven h.machine) h.file r s q)) h
  ruled_after nought image content sum h (Read r) = h
  ruled_after nought image content sum h Rotate = in_running h.machine.state (with_machine h (restacked h.machine rotated_frame)) h
  ruled_after nought image content sum h ResetRotation = in_running h.machine.state (with_machine h (restacked h.machine reset_frame)) h
  ruled_after nought image content sum h Previous = h
  ruled_after nought image content sum h (SetPrevious w) =
      in_running h.machine.state (with_machine h (restacked h.machine (λ r. previous_set r w))) h
  ruled_after nought image content sum h Restore =
      in_covered_or_flushed h.machine.state
      (leaves h (back_to nought image content (scene_of h) (restore_base (driven h.machine)) (driven h.machine).saved)
      (answered (λ _. Done) (back_to_answer nought image content (scene_of h) (restore_base (driven h.machine)) (driven h.machine).saved)) Running)
      h
  ruled_after nought image content sum h Flush =
      in_running_or_covered h.machine.state
      (leaves h (spilled (scene_of h) (flush_run nought image (scene_of h))) (answered flushed_as (flush_answer nought image (scene_of h))) (after_flush h.machine.state))
      h
  ruled_after nought image content sum h EarlySpill =
      in_running_or_covered h.machine.state (cond (spills_early h) (lifted h (early_spill_after nought image (scene_of h))) h) h
  ruled_after nought image content sum h EarlyFill =
      in_running_or_covered h.machine.state (cond (fills_early h) (lifted h (early_fill_after content (scene_of h))) h) h
  ruled_after nought image content sum h (Load d) =
      in_flushed h.machine.state (leaves h (load_after content (scene_of h) d) (answered (λ _. Done) (load_answer content (scene_of h) d)) Covered) h
  ruled_after nought image content sum h Park = in_flushed h.machine.state (with_machine h (park_machine h.machine)) h
  ruled_after nought image content sum h (SetMode m) = with_machine h (in_mode h.machine (mode_of m))
  ruled_after nought image content sum h AskState = h
  ruled_after nought image content sum h AskCounts = h

  -- the same number of slots and words as at making
  abbrev pub same_host : Host C → Bool
  same_host h = length h.file == h.machine.slots && length h.meaning.words == h.machine.words

  -- the questions in their order: the host, the operands' range, then those of the instruction
  abbrev pub step_answer : C → (C → ℕ) → (ℕ → C) → Host C → Instruction → Result Answer Refusal
  step_answer nought image content h i =
      cond (same_host h) (cond (in_range i) (ruled nought image content h i) (Err Operand)) (Err WrongHost)

  abbrev pub step_after : C → (C → ℕ) → (ℕ → C) → (C → C → C) → Host C → Instruction → Host C
  step_after nought image content sum h i =
      cond (same_host h) (cond (in_range i) (ruled_after nought image content sum h i) h) h
