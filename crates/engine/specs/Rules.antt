-- What each instruction answers, in the order of the questions.
use Rattle.std.specs.Prelude.{ℕ, ◌+◌, Bool, true, false, cond, ◌&&◌, ◌||◌, List, Ok, Err, Result, nat_le}
use Rattle.std.specs.List.{list_all}
use Rattle.context.specs.declared.record.ContextRecord.{ContextRecord}
use Rattle.context.specs.declared.record.Status.{Status}
use Rattle.context.specs.declared.record.Status.TheVariants.{Empty, Current, Parked}
use Rattle.context.specs.declared.refusals.Refusal.{Refusal}
use Rattle.context.specs.declared.refusals.Refusal.TheVariants.{Entry, Region, Overlap}
use Rattle.context.specs.Regions.{well_formed, begun}
use Rattle.engine.specs.declared.instructions.Instruction.{Instruction}
use Rattle.engine.specs.declared.instructions.Instruction.TheVariants.{Begin, Resume, Retire, Alloc, Call, Return, Cover, Write, Copy, Add, Read}
use Rattle.engine.specs.declared.instructions.Instruction.TheVariants.{Rotate, ResetRotation, Previous, SetPrevious, Restore, Flush, EarlySpill, EarlyFill}
use Rattle.engine.specs.declared.instructions.Instruction.TheVariants.{Load, Park, SetMode, State, Counts}
use Rattle.engine.specs.declared.instructions.Answer.{Answer}
use Rattle.engine.specs.declared.instructions.Answer.TheVariants.{Done}
use Rattle.engine.specs.declared.machine.Machine.{Machine}
use Rattle.engine.specs.declared.machine.State.TheVariants.{Idle, Running, Flushed}
use Rattle.context.specs.Returns.{parked, resumed}
use Rattle.engine.specs.Hosts.{in_state, with_entry, driving, put_back}
use Rattle.engine.specs.Tables.{record_at, empty_record}

-- a register of the stack: r32 to r127
abbrev pub is_register : ℕ → Bool
is_register r = nat_le 32 r && nat_le r 127

-- every operand is in range
abbrev pub in_range : Instruction → Bool
in_range (Begin k s n) = nat_le k 7 && (nat_le s 65536 && nat_le n 65536)
in_range (Resume k) = nat_le k 7
in_range (Retire k) = nat_le k 7
in_range (Alloc sof sol sor) = nat_le sof 127 && (nat_le sol 127 && nat_le sor 15)
in_range Call = true
in_range Return = true
in_range Cover = true
in_range (Write r w nat) = is_register r && nat_le nat 1
in_range (Copy r s) = is_register r && is_register s
in_range (Add r s q) = is_register r && (is_register s && is_register q)
in_range (Read r) = is_register r
in_range Rotate = true
in_range ResetRotation = true
in_range Previous = true
in_range (SetPrevious w) = true
in_range Restore = true
in_range Flush = true
in_range EarlySpill = true
in_range EarlyFill = true
in_range (Load d) = nat_le d 2047
in_range Park = true
in_range (SetMode m) = nat_le m 3
in_range State = true
in_range Counts = true

abbrev pub is_empty_entry : Status → Bool
is_empty_entry Empty = true
is_empty_entry Current = false
is_empty_entry Parked = false

abbrev pub is_parked_entry : Status → Bool
is_parked_entry Empty = false
is_parked_entry Current = false
is_parked_entry Parked = true

-- a region and a context's lie apart
abbrev pub lies_apart : ℕ → ℕ → ContextRecord → Bool
lies_apart start size r = is_empty_entry r.status || (nat_le (start + size) r.start || nat_le (r.start + r.size) start)

-- a region is clear of every context that is not retired
abbrev pub is_clear : ℕ → ℕ → List ContextRecord → Bool
is_clear start size rs = list_all (lies_apart start size) rs

-- begin: the entry is empty, the region well formed, and clear of the others
abbrev pub begin_answer : Machine → ℕ → ℕ → ℕ → Result Answer Refusal
begin_answer m k s n =
    cond (is_empty_entry (record_at m k).status)
    (cond (well_formed s n m.words) (cond (is_clear s n m.table.entries) (Ok Done) (Err Overlap)) (Err Region))
    (Err Entry)

-- what is left where an instruction is granted
abbrev pub when_ok : {A T : Type 0} → Result A Refusal → T → T → T
when_ok (Ok a) through other = through
when_ok (Err e) through other = other

abbrev pub begin_machine : Machine → ℕ → ℕ → ℕ → Machine
begin_machine m k s n = when_ok (begin_answer m k s n) (driving m k (begun s n) m.counts Running) m

-- resume and retire: the entry is parked
abbrev pub parked_answer : Machine → ℕ → Result Answer Refusal
parked_answer m k = cond (is_parked_entry (record_at m k).status) (Ok Done) (Err Entry)

abbrev pub resume_machine : Machine → ℕ → Machine
resume_machine m k = cond (is_parked_entry (record_at m k).status) (driving m k (resumed (record_at m k)) m.counts Flushed) m

abbrev pub retire_machine : Machine → ℕ → Machine
retire_machine m k = cond (is_parked_entry (record_at m k).status) (with_entry m k empty_record) m

-- park: the context that is driven becomes parked
abbrev pub park_machine : Machine → Machine
park_machine m = in_state (put_back m (parked (record_at m m.current)) m.counts) Idle
