-- Making an engine.
use Rattle.std.specs.Prelude.{ℕ, ◌%◌, Bool, ◌&&◌, replicate, ◌==◌, nat_le}
use Rattle.engine.specs.declared.machine.Machine.{Machine}
use Rattle.engine.specs.declared.machine.State.TheVariants.{Idle}
use Rattle.engine.specs.Modes.{mode_of}
use Rattle.engine.specs.Tables.{empty_record}

-- slots a multiple of 16 from 96 to 2,048, words a multiple of 64 from 64 to 65,536
abbrev pub can_make : ℕ → ℕ → Bool
can_make slots words =
    (slots % 16 == 0) && (nat_le 96 slots && (nat_le slots 2048 && (words % 64 == 0 && (nat_le 64 words && nat_le words 65536))))

-- idle, every entry empty, mode 0, nothing moved
abbrev pub new_machine : ℕ → ℕ → Machine
new_machine slots words =
    record { slots = slots; words = words; state = Idle; current = 0; table = record { entries = replicate 8 empty_record }; mode = mode_of 0; counts = record { written = 0; read = 0 } }
