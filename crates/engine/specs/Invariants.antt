-- What holds of every record of the table, more of the one that is driven, by the state, and more of those that are parked.
use Rattle.std.specs.Prelude.{◌≡◌, Bool, true, false}
use Rattle.context.specs.declared.record.ContextRecord.{ContextRecord}
use Rattle.context.specs.declared.record.Status.{Status}
use Rattle.context.specs.declared.record.Status.TheVariants.{Empty, Current, Parked}
use Rattle.context.specs.Sound.{Sound, Closed, Stored}
use Rattle.engine.specs.declared.machine.Machine.{Machine}
use Rattle.engine.specs.declared.machine.State.{State}
use Rattle.engine.specs.declared.machine.State.TheVariants.{Idle, Running, Covered, Flushed}
use Rattle.engine.specs.Rules.{is_parked_entry}

abbrev pub is_idle : State → Bool
is_idle Idle = true
is_idle Running = false
is_idle Covered = false
is_idle Flushed = false

-- covered or flushed: the frame is empty, and the one that was covered lies below base
abbrev pub is_closed : State → Bool
is_closed Idle = false
is_closed Running = false
is_closed Covered = true
is_closed Flushed = true

-- flushed: all below base is stored
abbrev pub is_flushed : State → Bool
is_flushed Idle = false
is_flushed Running = false
is_flushed Covered = false
is_flushed Flushed = true

abbrev pub is_current_entry : Status → Bool
is_current_entry Empty = false
is_current_entry Current = true
is_current_entry Parked = false

-- a record that may be put into an entry, be it the one that is driven or another
pub record Fits (m : Machine) (r : ContextRecord) : Type 0 where
  pub sound : Sound m.slots r
  pub closed : is_closed m.state ≡ true → Closed r
  pub stored : is_flushed m.state ≡ true → Stored r
  pub awake : is_idle m.state ≡ false → is_current_entry r.status ≡ true
  pub parked : is_parked_entry r.status ≡ true → Closed r × Stored r
