-- The number of each refusal.
use Rattle.std.specs.Prelude.{ℕ}
use Rattle.context.specs.declared.refusals.Refusal.{Refusal}
use Rattle.context.specs.declared.refusals.Refusal.TheVariants.{Unreadable, Operand, State, Register, Marker, Rotation, Top, Depth, TooMany}
use Rattle.context.specs.declared.refusals.Refusal.TheVariants.{Entry, Region, Overlap, Doors, Mode, Nothing, Shut, Host}

abbrev pub refusal_number : Refusal → ℕ
refusal_number Unreadable = 1
refusal_number Operand = 2
refusal_number State = 3
refusal_number Register = 4
refusal_number Marker = 5
refusal_number Rotation = 6
refusal_number Top = 7
refusal_number Depth = 8
refusal_number TooMany = 9
refusal_number Entry = 10
refusal_number Region = 11
refusal_number Overlap = 12
refusal_number Doors = 13
refusal_number Mode = 14
refusal_number Nothing = 15
refusal_number (Shut f) = 16
refusal_number Host = 17
