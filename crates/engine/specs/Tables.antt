-- What stands in the table of contexts.
use Rattle.std.specs.Prelude.{ℕ, slice_index_or}
use Rattle.context.specs.declared.record.ContextRecord.{ContextRecord}
use Rattle.context.specs.declared.record.Status.TheVariants.{Empty}
use Rattle.engine.specs.declared.machine.Machine.{Machine}

-- the entry that no context has
abbrev pub empty_record : ContextRecord
empty_record = record { status = Empty; start = 0; size = 0; base = 0; marker = 0; previous = 0; saved = 0; lo = 0; bspstore = 0; rnat = 0 }

abbrev pub record_at : Machine → ℕ → ContextRecord
record_at m k = slice_index_or m.table.entries k empty_record
