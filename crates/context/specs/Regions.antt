-- Regions, and the context that begins in one.
use Rattle.std.specs.Prelude.{ℕ, ◌+◌, ◌%◌, min, Bool, ◌&&◌, ◌==◌, nat_le}
use Rattle.context.specs.declared.record.ContextRecord.{ContextRecord}
use Rattle.context.specs.declared.record.Status.TheVariants.{Current}

-- both numbers are multiples of 64, at least 64 words, all in the store, and none beyond the longest store
abbrev pub well_formed : ℕ → ℕ → ℕ → Bool
well_formed start size words = start % 64 == 0 && (size % 64 == 0 && (nat_le 64 size && nat_le (start + size) (min words 65536)))

-- nothing on the stack, all markers empty
abbrev pub begun : ℕ → ℕ → ContextRecord
begun start size =
    record { status = Current; start = start; size = size; base = 0; marker = 0; previous = 0; saved = 0; lo = 0; bspstore = start; rnat = 0 }
