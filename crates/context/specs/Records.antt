-- What a context's record says, and the record with some of its numbers changed.
use Rattle.std.specs.Prelude.{◌≡◌, ℕ, ◌+◌}
use Rattle.address.specs.Addresses.{address_of, positions_below}
use Rattle.frame.specs.Markers.{sof_of}
use Rattle.moves.specs.declared.state.Cursor.{Cursor}
use Rattle.moves.specs.declared.state.Counts.{Counts}
use Rattle.context.specs.declared.record.ContextRecord.{ContextRecord}
use Rattle.context.specs.declared.record.Status.{Status}

-- BSP: the address of base
abbrev pub bsp_of : ContextRecord → ℕ
bsp_of r = address_of r.start r.base

-- the next position to be stored
abbrev pub stored_of : ContextRecord → ℕ
stored_of r = positions_below r.start r.bspstore

-- the first position above the frame
abbrev pub top_of : ContextRecord → ℕ
top_of r = r.base + sof_of r.marker

-- where the moves of the context of this number stand
abbrev pub cursor_of : ℕ → ContextRecord → Counts → Cursor
cursor_of number r counts = record { context = number; start = r.start; bspstore = r.bspstore; rnat = r.rnat; counts = counts }

-- another frame
abbrev pub with_frame : ContextRecord → ℕ → ℕ → ContextRecord
with_frame r base marker =
    record { status = r.status; start = r.start; size = r.size; base = base; marker = marker; previous = r.previous; saved = r.saved; lo = r.lo; bspstore = r.bspstore; rnat = r.rnat }

-- another previous marker
abbrev pub with_previous : ContextRecord → ℕ → ContextRecord
with_previous r previous =
    record { status = r.status; start = r.start; size = r.size; base = r.base; marker = r.marker; previous = previous; saved = r.saved; lo = r.lo; bspstore = r.bspstore; rnat = r.rnat }

-- another saved marker
abbrev pub with_saved : ContextRecord → ℕ → ContextRecord
with_saved r saved =
    record { status = r.status; start = r.start; size = r.size; base = r.base; marker = r.marker; previous = r.previous; saved = saved; lo = r.lo; bspstore = r.bspstore; rnat = r.rnat }

-- another lowest position in the file
abbrev pub with_lo : ContextRecord → ℕ → ContextRecord
with_lo r lo =
    record { status = r.status; start = r.start; size = r.size; base = r.base; marker = r.marker; previous = r.previous; saved = r.saved; lo = lo; bspstore = r.bspstore; rnat = r.rnat }

-- BSPSTORE and RNAT as the moves left them
abbrev pub with_moves : ContextRecord → Cursor → ContextRecord
with_moves r c =
    record { status = r.status; start = r.start; size = r.size; base = r.base; marker = r.marker; previous = r.previous; saved = r.saved; lo = r.lo; bspstore = c.bspstore; rnat = c.rnat }

-- another status
abbrev pub with_status : ContextRecord → Status → ContextRecord
with_status r status =
    record { status = status; start = r.start; size = r.size; base = r.base; marker = r.marker; previous = r.previous; saved = r.saved; lo = r.lo; bspstore = r.bspstore; rnat = r.rnat }

-- moves leave the region, the frame and the markers
pub record Kept (r s : ContextRecord) : Type 0 where
  pub start : s.start ≡ r.start
  pub size : s.size ≡ r.size
  pub base : s.base ≡ r.base
  pub marker : s.marker ≡ r.marker
  pub previous : s.previous ≡ r.previous
  pub saved : s.saved ≡ r.saved
