-- The numbers of states and modes.
use Rattle.std.specs.Prelude.{ℕ, ◌/◌, ◌%◌, ◌==◌}
use Rattle.engine.specs.declared.machine.State.{State}
use Rattle.engine.specs.declared.machine.State.TheVariants.{Idle, Running, Covered, Flushed}
use Rattle.engine.specs.declared.machine.Mode.{Mode}

abbrev pub state_number : State → ℕ
state_number Idle = 0
state_number Running = 1
state_number Covered = 2
state_number Flushed = 3

-- bit 0 allows early spills, bit 1 early fills
abbrev pub mode_of : ℕ → Mode
mode_of bits = record { spills = bits % 2 == 1; fills = bits / 2 % 2 == 1 }
