-- The registers of a context's stack, wherever they stand: in the file, or in the backing store with their NaT bits in RNAT or
-- in their collections.
use Rattle.std.specs.Prelude.{◌≡◌, ℕ, ◌+◌, ◌%◌, ◌<◌, ◌≤◌, true, cond, length, ◌==◌, nat_lt, slice_index, slice_index_or}
use Rattle.address.specs.Addresses.{capacity_of}
use Rattle.address.specs.NatBits.{nat_bit}
use Rattle.frame.specs.Markers.{lawful_word}
use Rattle.register.specs.Slots.{cleared_slot, register_at}
use Rattle.register.specs.declared.Slot.{Slot}
use Rattle.store.specs.Meaning.{Meaning}
use Rattle.moves.specs.Fills.{word_of, nat_source}
use Rattle.moves.specs.declared.state.Cursor.{Cursor}
use Rattle.context.specs.declared.record.ContextRecord.{ContextRecord}
use Rattle.context.specs.Records.{stored_of, top_of}
use Rattle.context.specs.Scenes.{Scene, cursor_in}
use Rattle.context.specs.Sound.{Sound}

-- the markers are lawful, and top lies within the region
pub record Held (r : ContextRecord) : Type 0 where
  pub marked : lawful_word r.marker ≡ true
  pub previously : lawful_word r.previous ≡ true
  pub saving : lawful_word r.saved ≡ true
  pub top : top_of r ≤ capacity_of r.size

-- a register stands in the backing store as position p: its image in the position's word, its NaT bit in RNAT or in the collection
pub record Stands {C : Type 0} (image : C → ℕ) (register : Slot C) (c : Cursor) (m : Meaning) (p : ℕ) : Type 0 where
  pub word : slice_index_or m.words (word_of c p) 0 ≡ image register.content
  pub nat : nat_bit (nat_source c m p) (word_of c p % 64) ≡ register.nat

-- the context carries the registers `registers p`, one for each position p below top: the file shows those from lo on, and those
-- that are stored stand in the backing store
pub record Carries {C : Type 0} (nought : C) (image : C → ℕ) (registers : ℕ → Slot C) (s : Scene C) : Type 0 where
  pub sound : Sound (length s.file) s.stack
  pub held : Held s.stack
  pub wide : 96 ≤ length s.file
  pub inside : s.stack.start + s.stack.size ≤ length s.meaning.words
  pub file : (p : ℕ) → s.stack.lo ≤ p → p < top_of s.stack → register_at nought s.file p ≡ registers p
  pub stored : (p : ℕ) → p < stored_of s.stack → Stands image (registers p) (cursor_in s) s.meaning p

module _ {C : Type 0} where
  -- from a top on, every register is zero with NaT clear
  abbrev pub risen : C → ℕ → (ℕ → Slot C) → ℕ → Slot C
  risen nought top registers p = cond (nat_lt p top) (registers p) (cleared_slot nought)

  -- another register at position p
  abbrev pub put_at : ℕ → Slot C → (ℕ → Slot C) → ℕ → Slot C
  put_at p register registers q = cond (q == p) register (registers q)

  -- every register below top is carried on, and each position that top rises past is zero with NaT clear
  abbrev pub Keeps : C → (C → ℕ) → Scene C → Scene C → Type 0
  Keeps nought image s after =
      (registers : ℕ → Slot C) → Carries nought image registers s → Carries nought image (risen nought (top_of s.stack) registers) after

-- the region is the same, and no word outside it has changed, nor any door
pub record Confined {C : Type 0} (s after : Scene C) : Type 0 where
  pub start : after.stack.start ≡ s.stack.start
  pub size : after.stack.size ≡ s.stack.size
  pub long : length after.meaning.words ≡ length s.meaning.words
  pub slots : length after.file ≡ length s.file
  pub below : (w : ℕ) → w < s.stack.start → slice_index after.meaning.words w ≡ slice_index s.meaning.words w
  pub above : (w : ℕ) → s.stack.start + s.stack.size ≤ w → slice_index after.meaning.words w ≡ slice_index s.meaning.words w
  pub flags : after.meaning.flags ≡ s.meaning.flags
  pub moving : after.meaning.moving ≡ s.meaning.moving
