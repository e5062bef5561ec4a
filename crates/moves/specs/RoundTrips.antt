-- Registers that are spilled, cleared and filled again.
use Rattle.std.specs.Prelude.{◌≡◌, ℕ, ◌+◌, ◌-◌, ◌%◌, ◌^◌, ◌<◌, ◌≤◌, min, true, List, length, Ok, Err, slice_index}
use Rattle.address.specs.Addresses.{positions_below}
use Rattle.address.specs.AddressLaws.{Aligned}
use Rattle.register.specs.Slots.{register_at, registers_cleared}
use Rattle.register.specs.declared.Slot.{Slot}
use Rattle.store.specs.Meaning.{Meaning}
use Rattle.store.specs.Rules.{is_open}
use Rattle.moves.specs.declared.state.Cursor.{Cursor}
use Rattle.moves.specs.Steps.{MoveResult}
use Rattle.moves.specs.Spills.{spill_run}
use Rattle.moves.specs.Fills.{fill_run, FillEnd}

-- the first position of the words from BSPSTORE to end − 1
abbrev pub run_low : Cursor → ℕ → ℕ
run_low c end = positions_below c.start (min c.bspstore end)

-- the position after the last of them
abbrev pub run_high : Cursor → ℕ → ℕ
run_high c end = positions_below c.start end

module _ {C : Type 0} where
  -- n positions from p on cleared, and then filled
  abbrev pub refill_run : C → (ℕ → C) → Meaning → ℕ → ℕ → ℕ → Cursor → List (Slot C) → FillEnd C
  refill_run nought content m context n p c slots = fill_run content m context n p c (registers_cleared nought n p slots)

  -- so after granted spills; after refused ones the file is as it was
  abbrev pub refill_after : C → (ℕ → C) → ℕ → ℕ → ℕ → List (Slot C) → Cursor → Meaning → MoveResult → FillEnd C
  refill_after nought content context n p slots c m (Ok _) = refill_run nought content m context n p c slots
  refill_after nought content context n p slots c m (Err f) = record { cursor = c; file = slots; answer = Err f }

  -- spills until `end`, then a refill of the same positions
  abbrev pub round_trip : C → (C → ℕ) → (ℕ → C) → ℕ → ℕ → Cursor → Meaning → List (Slot C) → FillEnd C
  round_trip nought image content context end c m slots =
      let e = spill_run nought image slots context (end - c.bspstore) c m in
      refill_after nought content context (run_high c end - run_low c end) (run_low c end) slots e.cursor e.meaning e.answer

-- what a round trip asks: RNAT has bits below BSPSTORE alone, the words are open, and at most `room` registers are among them
pub record Ready (room end : ℕ) (c : Cursor) (m : Meaning) : Type 0 where
  pub aligned : Aligned c.start
  pub ahead : c.bspstore ≤ end
  pub nats : c.rnat < 2 ^ (c.bspstore % 64)
  pub opened : (w : ℕ) → c.bspstore ≤ w → w < end → is_open m w ≡ true
  pub fits : positions_below c.start end - positions_below c.start c.bspstore ≤ room

-- every register of the run comes back, content and NaT bit, every other one that stands with the run among N consecutive
-- positions is as before, and so is every word outside the run
pub record ComesBack {C : Type 0} (nought : C) (end : ℕ) (from : Cursor) (before : Meaning) (slots : List (Slot C))
    (answer : MoveResult) (to : Cursor) (after : Meaning) (file : List (Slot C)) : Type 0 where
  pub granted : answer ≡ Ok tt
  pub bspstore : to.bspstore ≡ end
  pub long : length file ≡ length slots
  pub registers : (p : ℕ) → positions_below from.start from.bspstore ≤ p → p < positions_below from.start end → register_at nought file p ≡ register_at nought slots p
  pub below : (q : ℕ) → q < positions_below from.start from.bspstore → positions_below from.start end ≤ q + length slots → register_at nought file q ≡ register_at nought slots q
  pub above : (q : ℕ) → positions_below from.start end ≤ q → q < positions_below from.start from.bspstore + length slots → register_at nought file q ≡ register_at nought slots q
  pub words_below : (w : ℕ) → w < from.bspstore → slice_index after.words w ≡ slice_index before.words w
  pub words_above : (w : ℕ) → end ≤ w → slice_index after.words w ≡ slice_index before.words w
  pub size : length after.words ≡ length before.words
  pub flags : after.flags ≡ before.flags
  pub moving : after.moving ≡ before.moving
