-- Instructions that spill: alloc, flush and the early spill; and the early fill.
use Rattle.std.specs.Prelude.{ℕ, ◌+◌, ◌-◌, max, Bool, cond, ◌&&◌, ◌||◌, length, Ok, Err, Result, ◌==◌, nat_le, nat_lt}
use Rattle.address.specs.Addresses.{address_of, capacity_of}
use Rattle.frame.specs.declared.FrameMarker.{FrameMarker}
use Rattle.frame.specs.Fields.{word_of}
use Rattle.frame.specs.Markers.{sof_of, sor_of, rotation_of, lawful, word_of_parts}
use Rattle.register.specs.Slots.{registers_cleared}
use Rattle.moves.specs.Spills.{SpillEnd, spill_run}
use Rattle.moves.specs.Fills.{FillEnd, fill_run}
use Rattle.context.specs.declared.record.ContextRecord.{ContextRecord}
use Rattle.context.specs.declared.refusals.Refusal.{Refusal}
use Rattle.context.specs.declared.refusals.Refusal.TheVariants.{Marker, Rotation, Top, Nothing}
use Rattle.context.specs.Records.{bsp_of, stored_of, top_of, with_frame, with_lo, with_moves}
use Rattle.context.specs.Frames.{on_granted, if_granted}
use Rattle.context.specs.Scenes.{Scene, cursor_in, with_stack, with_file, settled, spilled, moved, if_moved}

-- the word past the last that is spilled until all positions below floor are stored
abbrev pub spill_end_of : ContextRecord → ℕ → ℕ
spill_end_of r floor = cond (nat_lt (stored_of r) floor) (address_of r.start (floor - 1) + 1) r.bspstore

-- the marker's word that alloc sets: lawful, the rotating part kept or not rotated, and the new top within the region
abbrev pub alloc_marker : ContextRecord → ℕ → ℕ → ℕ → Result ℕ Refusal
alloc_marker r sof sol sor =
    cond (lawful sof sol sor 0)
    (cond (sor == sor_of r.marker || rotation_of r.marker == 0)
    (cond (nat_le (r.base + sof) (capacity_of r.size)) (Ok (word_of_parts sof sol sor (rotation_of r.marker))) (Err Top))
    (Err Rotation))
    (Err Marker)

-- the word of the marker that is answered
abbrev pub worded : Result FrameMarker Refusal → Result ℕ Refusal
worded (Ok marker) = Ok (word_of marker)
worded (Err e) = Err e

module _ {C : Type 0} where
  -- spills until BSPSTORE is end
  abbrev pub run_to : C → (C → ℕ) → Scene C → ℕ → SpillEnd
  run_to nought image s end = spill_run nought image s.file s.number (end - s.stack.bspstore) (cursor_in s) s.meaning

  -- the lowest position that the file holds below a top
  abbrev pub floor_of : Scene C → ℕ → ℕ
  floor_of s top = top - length s.file

  -- the top of a frame with another marker at the same base
  abbrev pub top_with : Scene C → ℕ → ℕ
  top_with s w = s.stack.base + sof_of w

  -- positions that top rises past are zero with NaT clear
  abbrev pub cleared_to : C → Scene C → ℕ → Scene C
  cleared_to nought s top = with_file s (registers_cleared nought (top - top_of s.stack) (top_of s.stack) s.file)

  -- the spills that a frame with another marker needs
  abbrev pub grow_run : C → (C → ℕ) → Scene C → ℕ → SpillEnd
  grow_run nought image s w = run_to nought image s (spill_end_of s.stack (floor_of s (top_with s w)))

  -- the new frame, after those spills
  abbrev pub framed : Scene C → ℕ → Scene C
  framed s w = with_stack s (with_lo (with_frame s.stack s.stack.base w) (max s.stack.lo (floor_of s (top_with s w))))

  abbrev pub grown : C → Scene C → SpillEnd → ℕ → Scene C
  grown nought s run w = if_moved run.answer (framed (cleared_to nought (spilled s run) (top_with s w)) w) (spilled s run)

  -- alloc: answers the previous marker's word
  abbrev pub alloc_answer : C → (C → ℕ) → Scene C → ℕ → ℕ → ℕ → Result ℕ Refusal
  alloc_answer nought image s sof sol sor =
      on_granted (alloc_marker s.stack sof sol sor) (λ w. moved (grow_run nought image s w).answer (Ok s.stack.previous))

  abbrev pub alloc_after : C → (C → ℕ) → Scene C → ℕ → ℕ → ℕ → Scene C
  alloc_after nought image s sof sol sor =
      if_granted (alloc_marker s.stack sof sol sor) (λ w. grown nought s (grow_run nought image s w) w) s

  -- flush: spills until BSPSTORE is BSP, and answers BSP and RNAT
  abbrev pub flush_run : C → (C → ℕ) → Scene C → SpillEnd
  flush_run nought image s = run_to nought image s (bsp_of s.stack)

  abbrev pub flush_answer : C → (C → ℕ) → Scene C → Result (ℕ × ℕ) Refusal
  flush_answer nought image s = moved (flush_run nought image s).answer (Ok (bsp_of s.stack, (flush_run nought image s).cursor.rnat))

  -- the early spill: one step, where something is dirty
  abbrev pub early_spill_run : C → (C → ℕ) → Scene C → SpillEnd
  early_spill_run nought image s = run_to nought image s (s.stack.bspstore + 1)

  abbrev pub is_dirty : Scene C → Bool
  is_dirty s = nat_lt s.stack.bspstore (bsp_of s.stack)

  abbrev pub early_spill_answer : C → (C → ℕ) → Scene C → Result (Unit {0}) Refusal
  early_spill_answer nought image s = cond (is_dirty s) (moved (early_spill_run nought image s).answer (Ok tt)) (Err Nothing)

  abbrev pub early_spill_after : C → (C → ℕ) → Scene C → Scene C
  early_spill_after nought image s = cond (is_dirty s) (spilled s (early_spill_run nought image s)) s

  -- fills of the positions from low to high − 1
  abbrev pub fills_to : (ℕ → C) → Scene C → ℕ → ℕ → FillEnd C
  fills_to content s low high = fill_run content s.meaning s.number (high - low) low (cursor_in s) s.file

  -- the early fill: the position below lo, where there is one and room for it
  abbrev pub has_room : Scene C → Bool
  has_room s = nat_lt 0 s.stack.lo && nat_lt (top_of s.stack - s.stack.lo) (length s.file)

  abbrev pub early_fill_run : (ℕ → C) → Scene C → FillEnd C
  early_fill_run content s = fills_to content s (s.stack.lo - 1) s.stack.lo

  abbrev pub early_fill_answer : (ℕ → C) → Scene C → Result (Unit {0}) Refusal
  early_fill_answer content s = cond (has_room s) (moved (early_fill_run content s).answer (Ok tt)) (Err Nothing)

  abbrev pub early_filled : Scene C → FillEnd C → Scene C
  early_filled s run = with_stack (with_file (settled s run.cursor) run.file) (with_lo (with_moves s.stack run.cursor) (s.stack.lo - 1))

  abbrev pub early_fill_after : (ℕ → C) → Scene C → Scene C
  early_fill_after content s =
      cond (has_room s)
      (if_moved (early_fill_run content s).answer (early_filled s (early_fill_run content s)) (with_file s (early_fill_run content s).file))
      s
