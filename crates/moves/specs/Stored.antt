-- What spills leave: the words, RNAT and the counts, word by word.
use Rattle.std.specs.Prelude.{◌≡◌, ℕ, ◌+◌, ◌-◌, ◌*◌, ◌%◌, ◌^◌, ◌<◌, ◌≤◌, Bool, true, false, cond, List, length, Ok, Err, nat_lt, slice_index}
use Rattle.address.specs.Addresses.{group_of, is_collection, positions_below}
use Rattle.address.specs.NatBits.{nat_bit, pack, nat_collection}
use Rattle.register.specs.Slots.{register_at}
use Rattle.register.specs.declared.Slot.{Slot}
use Rattle.store.specs.Meaning.{Meaning}
use Rattle.moves.specs.declared.state.Cursor.{Cursor}
use Rattle.moves.specs.declared.state.Movement.TheVariants.{Spill}
use Rattle.moves.specs.Steps.{MoveResult, counted_up}
use Rattle.moves.specs.Told.{Told, Lowest, SpillNeeds}

module _ {C : Type 0} where
  -- the register whose word is w
  abbrev pub register_of : C → List (Slot C) → Cursor → ℕ → Slot C
  register_of nought slots c w = register_at nought slots (positions_below c.start w)

  -- the image of the register whose word is w
  abbrev pub image_at : C → (C → ℕ) → List (Slot C) → Cursor → ℕ → ℕ
  image_at nought image slots c w = image (register_of nought slots c w).content

  -- the NaT bit of word w: below BSPSTORE it stands in RNAT, from there on it is the register's
  abbrev pub nat_at : C → List (Slot C) → Cursor → ℕ → Bool
  nat_at nought slots c w = cond (nat_lt w c.bspstore) (nat_bit c.rnat (w % 64)) (register_of nought slots c w).nat

-- the NaT bits of the group of word w
abbrev pub group_nats : (ℕ → Bool) → ℕ → ℕ → Bool
group_nats nat w i = nat (group_of w * 64 + i)

-- spills from one cursor to another, where word w has the image `image w` and the NaT bit `nat w`: RNAT has the NaT bits of
-- BSPSTORE's group below it, each register's word its image, each collection the NaT bits of its group; nothing else changes
pub record Spilled (image : ℕ → ℕ) (nat : ℕ → Bool) (from : Cursor) (before : Meaning) (to : Cursor) (after : Meaning) : Type 0 where
  pub rises : from.bspstore ≤ to.bspstore
  pub nats : to.rnat ≡ pack (group_nats nat to.bspstore) (to.bspstore % 64)
  pub registers : (w : ℕ) → from.bspstore ≤ w → w < to.bspstore → is_collection w ≡ false → slice_index after.words w ≡ image w
  pub collections : (w : ℕ) → from.bspstore ≤ w → w < to.bspstore → is_collection w ≡ true → slice_index after.words w ≡ nat_collection (group_nats nat w)
  pub below : (w : ℕ) → w < from.bspstore → slice_index after.words w ≡ slice_index before.words w
  pub above : (w : ℕ) → to.bspstore ≤ w → slice_index after.words w ≡ slice_index before.words w
  pub long : length after.words ≡ length before.words
  pub flags : after.flags ≡ before.flags
  pub moving : after.moving ≡ before.moving
  pub start : to.start ≡ from.start
  pub reads : to.counts.read ≡ from.counts.read
  pub writes : from.counts.written < 2 ^ 64 → to.counts.written ≡ counted_up from.counts.written (to.bspstore - from.bspstore)

-- where spills up to `end` stop: there, or at the fault's word
abbrev pub spills_to : MoveResult → ℕ → ℕ
spills_to (Ok _) end = end
spills_to (Err f) end = f.fault.word

-- spills until `end`: the words below the one where they stop are stored, and they stop at the lowest shut one, or at `end`
pub record SpillShows {C : Type 0} (nought : C) (image : C → ℕ) (slots : List (Slot C)) (context end : ℕ) (from : Cursor) (before : Meaning)
    (answer : MoveResult) (to : Cursor) (after : Meaning) : Type 0 where
  pub stored : from.rnat < 2 ^ (from.bspstore % 64) → Spilled (image_at nought image slots from) (nat_at nought slots from) from before to after
  pub owner : to.context ≡ from.context
  pub stops : from.bspstore ≤ end → to.bspstore ≡ spills_to answer end
  pub told : Told before Spill context (SpillNeeds from.start from.bspstore end) answer
  pub lowest : Lowest before (SpillNeeds from.start from.bspstore end) answer
