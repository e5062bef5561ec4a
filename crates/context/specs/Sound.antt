-- What holds of every context's record, in a file of so many slots; and what more while its frame is covered, or all of it is stored.
use Rattle.std.specs.Prelude.{◌≡◌, ℕ, ◌+◌, ◌%◌, ◌^◌, ◌<◌, ◌≤◌}
use Rattle.frame.specs.Markers.{sof_of}
use Rattle.context.specs.declared.record.ContextRecord.{ContextRecord}
use Rattle.context.specs.Records.{bsp_of, stored_of, top_of}

pub record Sound (slots : ℕ) (r : ContextRecord) : Type 0 where
  -- the region is made of whole groups
  pub aligned : r.start % 64 ≡ 0
  pub sized : r.size % 64 ≡ 0
  -- BSPSTORE lies in the region, at or below BSP
  pub begins : r.start ≤ r.bspstore
  pub dirty : r.bspstore ≤ bsp_of r
  -- every position below lo is stored
  pub clean : r.lo ≤ stored_of r
  -- the file has a slot for each position from lo to top
  pub room : top_of r ≤ r.lo + slots
  -- RNAT has bits for the registers of BSPSTORE's group that are stored, and no others
  pub bits : r.rnat < 2 ^ (r.bspstore % 64)

-- the frame is empty, and the one that was covered lies below base
pub record Closed (r : ContextRecord) : Type 0 where
  pub empty : r.marker ≡ 0
  pub below : sof_of r.saved ≤ r.base

-- all below base is stored
abbrev pub Stored : ContextRecord → Type 0
Stored r = r.bspstore ≡ bsp_of r
