-- Instructions that go back to a frame below: return, restore, load; park and resume.
use Rattle.std.specs.Prelude.{ℕ, ◌+◌, ◌-◌, min, max, cond, Ok, Err, Result, nat_le, nat_lt}
use Rattle.address.specs.Addresses.{address_of, is_collection, positions_below, capacity_of}
use Rattle.frame.specs.Markers.{sof_of, sol_of}
use Rattle.register.specs.Slots.{registers_cleared}
use Rattle.store.specs.Meaning.{Meaning}
use Rattle.moves.specs.Steps.{MoveResult}
use Rattle.moves.specs.Lowers.{lower_answer, lowered}
use Rattle.moves.specs.Asks.{spills_asked, fills_asked}
use Rattle.moves.specs.declared.state.Cursor.{Cursor}
use Rattle.context.specs.declared.record.ContextRecord.{ContextRecord}
use Rattle.context.specs.declared.record.Status.TheVariants.{Current, Parked}
use Rattle.context.specs.declared.refusals.Refusal.{Refusal}
use Rattle.context.specs.declared.refusals.Refusal.TheVariants.{Top, Depth, TooMany}
use Rattle.context.specs.Records.{bsp_of, stored_of, top_of, with_frame, with_lo, with_status}
use Rattle.context.specs.Frames.{on_granted, if_granted}
use Rattle.context.specs.Scenes.{Scene, cursor_in, with_stack, with_file, settled, spilled, moved, if_moved, both}
use Rattle.context.specs.Spilling.{spill_end_of, run_to, floor_of, fills_to}

-- asking about the word of a lowering comes first where BSPSTORE is lowered to a collection: that word is the lowest
abbrev pub low_first : Meaning → Cursor → ℕ → MoveResult
low_first m c word = cond (is_collection word) (lower_answer m c.context c word) (Ok tt)

-- fills of the positions from low to high − 1, then a lowering to word, all asked about first
abbrev pub refill_asked : Meaning → Cursor → ℕ → ℕ → ℕ → MoveResult
refill_asked m c low high word =
    both (low_first m c word) (both (fills_asked m c.context c (high - low) low) (lower_answer m c.context c word))

module _ {C : Type 0} where
  -- spills until all positions below floor are stored, all asked about first
  abbrev pub room_asked : Scene C → ℕ → MoveResult
  room_asked s floor =
      spills_asked s.meaning s.number s.stack.start (spill_end_of s.stack floor - s.stack.bspstore) s.stack.bspstore

  unfoldable pub room_answer : C → (C → ℕ) → Scene C → ℕ → MoveResult
  room_answer nought image s floor = both (room_asked s floor) (run_to nought image s (spill_end_of s.stack floor)).answer

  unfoldable pub room_after : C → (C → ℕ) → Scene C → ℕ → Scene C
  room_after nought image s floor = if_moved (room_asked s floor) (spilled s (run_to nought image s (spill_end_of s.stack floor))) s

  -- the lowering after the fills
  abbrev pub refill_lower : (ℕ → C) → Scene C → ℕ → ℕ → ℕ → MoveResult
  refill_lower content s low high word = lower_answer s.meaning s.number (fills_to content s low high).cursor word

  abbrev pub refill_moved : (ℕ → C) → Scene C → ℕ → ℕ → ℕ → MoveResult
  refill_moved content s low high word = both (fills_to content s low high).answer (refill_lower content s low high word)

  abbrev pub refill_cursor : (ℕ → C) → Scene C → ℕ → ℕ → ℕ → Cursor
  refill_cursor content s low high word = lowered s.meaning (fills_to content s low high).cursor word

  unfoldable pub refill_answer : (ℕ → C) → Scene C → ℕ → ℕ → ℕ → MoveResult
  refill_answer content s low high word = both (refill_asked s.meaning (cursor_in s) low high word) (refill_moved content s low high word)

  unfoldable pub refill_after : (ℕ → C) → Scene C → ℕ → ℕ → ℕ → Scene C
  refill_after content s low high word =
      if_moved (refill_asked s.meaning (cursor_in s) low high word)
      (if_moved (refill_moved content s low high word)
      (with_file (settled s (refill_cursor content s low high word)) (fills_to content s low high).file)
      (with_file s (fills_to content s low high).file))
      s

  -- the moves that bring a frame from base to top − 1 into the file
  unfoldable pub frame_answer : C → (C → ℕ) → (ℕ → C) → Scene C → ℕ → ℕ → MoveResult
  frame_answer nought image content s base top =
      cond (nat_lt (stored_of s.stack) (floor_of s top)) (room_answer nought image s (floor_of s top))
      (cond (nat_lt base (stored_of s.stack))
      (refill_answer content s base (min s.stack.lo top) (address_of s.stack.start base))
      (Ok tt))

  unfoldable pub frame_after : C → (C → ℕ) → (ℕ → C) → Scene C → ℕ → ℕ → Scene C
  frame_after nought image content s base top =
      cond (nat_lt (stored_of s.stack) (floor_of s top)) (room_after nought image s (floor_of s top))
      (cond (nat_lt base (stored_of s.stack))
      (refill_after content s base (min s.stack.lo top) (address_of s.stack.start base))
      s)

  -- after those moves: the frame, the lowest position in the file, and zeros where top rose
  abbrev pub reframed : C → Scene C → Scene C → ℕ → ℕ → Scene C
  reframed nought before s base w =
      with_stack (with_file s (registers_cleared nought ((base + sof_of w) - top_of before.stack) (top_of before.stack) s.file))
      (with_lo (with_frame s.stack base w) (max (min before.stack.lo base) (floor_of before (base + sof_of w))))

  abbrev pub back_after : C → (C → ℕ) → (ℕ → C) → Scene C → ℕ → ℕ → Scene C
  back_after nought image content s base w =
      if_moved (frame_answer nought image content s base (base + sof_of w))
      (reframed nought s (frame_after nought image content s base (base + sof_of w)) base w)
      (frame_after nought image content s base (base + sof_of w))

-- return: the base of the caller's frame, where its top lies in the region and its locals below base
abbrev pub return_base : ContextRecord → Result ℕ Refusal
return_base r =
    cond (nat_le (r.base + (sof_of r.previous - sol_of r.previous)) (capacity_of r.size))
    (cond (nat_le (sol_of r.previous) r.base) (Ok (r.base - sol_of r.previous)) (Err Depth))
    (Err Top)

-- restore: the base of the frame that was covered
abbrev pub restore_base : ContextRecord → Result ℕ Refusal
restore_base r = cond (nat_le (sof_of r.saved) r.base) (Ok (r.base - sof_of r.saved)) (Err Depth)

-- load: the first position of the words below BSP, at most 96 registers
abbrev pub load_first : ContextRecord → ℕ → Result ℕ Refusal
load_first r words =
    cond (nat_le words (bsp_of r - r.start))
    (cond (nat_le (r.base - positions_below r.start (bsp_of r - words)) 96) (Ok (positions_below r.start (bsp_of r - words))) (Err TooMany))
    (Err Depth)

module _ {C : Type 0} where
  -- going back to the frame of a marker, whose base is granted
  abbrev pub back_to : C → (C → ℕ) → (ℕ → C) → Scene C → Result ℕ Refusal → ℕ → Scene C
  back_to nought image content s base w = if_granted base (λ b. back_after nought image content s b w) s

  abbrev pub back_to_answer : C → (C → ℕ) → (ℕ → C) → Scene C → Result ℕ Refusal → ℕ → Result (Unit {0}) Refusal
  back_to_answer nought image content s base w =
      on_granted base (λ b. moved (frame_answer nought image content s b (b + sof_of w)) (Ok tt))

  -- load: the registers of the words below BSP are filled anew, and are the dirty ones
  abbrev pub load_run : (ℕ → C) → Scene C → ℕ → ℕ → MoveResult
  load_run content s words first = refill_answer content s first s.stack.base (bsp_of s.stack - words)

  abbrev pub load_answer : (ℕ → C) → Scene C → ℕ → Result (Unit {0}) Refusal
  load_answer content s words = on_granted (load_first s.stack words) (λ first. moved (load_run content s words first) (Ok tt))

  abbrev pub with_lowest : Scene C → ℕ → Scene C
  with_lowest s lo = with_stack s (with_lo s.stack lo)

  abbrev pub loaded_from : (ℕ → C) → Scene C → ℕ → ℕ → Scene C
  loaded_from content s words first =
      if_moved (load_run content s words first)
      (with_lowest (refill_after content s first s.stack.base (bsp_of s.stack - words)) first)
      (refill_after content s first s.stack.base (bsp_of s.stack - words))

  abbrev pub load_after : (ℕ → C) → Scene C → ℕ → Scene C
  load_after content s words = if_granted (load_first s.stack words) (loaded_from content s words) s

-- park: no slot holds a position any more
abbrev pub parked : ContextRecord → ContextRecord
parked r = with_status (with_lo r r.base) Parked

-- resume: the file holds nothing, and all below base is stored
abbrev pub resumed : ContextRecord → ContextRecord
resumed r =
    record { status = Current; start = r.start; size = r.size; base = r.base; marker = r.marker; previous = r.previous; saved = r.saved; lo = r.base; bspstore = bsp_of r; rnat = r.rnat }
