-- Fills: from the backing store to the file, upward, register by register.
use Rattle.std.specs.Prelude.{ℕ, zero, suc, ◌+◌, ◌%◌, Bool, cond, ◌&&◌, ◌||◌, List, Ok, Err, Result, ◌==◌, slice_index}
use Rattle.address.specs.Addresses.{address_of, group_of, collection_of}
use Rattle.address.specs.NatBits.{nat_bit}
use Rattle.register.specs.Slots.{register_put}
use Rattle.register.specs.declared.Slot.{Slot}
use Rattle.store.specs.Meaning.{Meaning}
use Rattle.store.specs.Rules.{is_open, refusal_of, read_of}
use Rattle.store.specs.declared.StoreFault.{StoreFault}
use Rattle.moves.specs.declared.state.Cursor.{Cursor}
use Rattle.moves.specs.declared.state.Movement.TheVariants.{Fill}
use Rattle.moves.specs.Steps.{MoveResult, read_more, fault_at}

-- the word of a position
abbrev pub word_of : Cursor → ℕ → ℕ
word_of c p = address_of c.start p

-- the position's word lies in BSPSTORE's group
abbrev pub is_near : Cursor → ℕ → Bool
is_near c p = group_of (word_of c p) == group_of c.bspstore

-- the collection of a register's word
abbrev pub far_bits : Meaning → ℕ → ℕ
far_bits m w = slice_index m.words (collection_of w)

-- the bits that hold its NaT bit: RNAT, or its group's collection
abbrev pub nat_source : Cursor → Meaning → ℕ → ℕ
nat_source c m p = cond (is_near c p) c.rnat (far_bits m (word_of c p))

-- those bits, where they can be read
abbrev pub nats_read : Cursor → Meaning → ℕ → Result ℕ StoreFault
nats_read c m p = cond (is_near c p) (Ok c.rnat) (read_of m (collection_of (word_of c p)))

-- every word that its fill reads is open
abbrev pub fill_open : Cursor → Meaning → ℕ → Bool
fill_open c m p = is_open m (word_of c p) && (is_near c p || is_open m (collection_of (word_of c p)))

-- the lowest shut word of those
abbrev pub fill_shut : Cursor → Meaning → ℕ → ℕ
fill_shut c m p = cond (is_open m (word_of c p)) (collection_of (word_of c p)) (word_of c p)

-- what the store answers a fill: a fault at that word, or nothing
abbrev pub fill_fault : Cursor → Meaning → ℕ → Result (Unit {0}) StoreFault
fill_fault c m p = cond (fill_open c m p) (Ok tt) (Err (refusal_of m (fill_shut c m p)))

abbrev pub fill_answer : Meaning → ℕ → Cursor → ℕ → MoveResult
fill_answer m context c p = cond (fill_open c m p) (Ok tt) (Err (fault_at m (fill_shut c m p) Fill context p))

-- how many words its fill reads
abbrev pub fill_reads : Cursor → ℕ → ℕ
fill_reads c p = cond (is_near c p) 1 2

module _ {C : Type 0} where
  -- the register that a fill brings
  abbrev pub filled : (ℕ → C) → Cursor → Meaning → ℕ → Slot C
  filled content c m p = record { content = content (slice_index m.words (word_of c p)); nat = nat_bit (nat_source c m p) (word_of c p % 64) }

-- how fills end: where the moves stand, the file, and the answer
pub record FillEnd (C : Type 0) : Type 0 where
  pub cursor : Cursor
  pub file : List (Slot C)
  pub answer : MoveResult

module _ {C : Type 0} where
  -- fills of n positions from p on, up to the first that needs a shut word
  abbrev pub fill_run : (ℕ → C) → Meaning → ℕ → ℕ → ℕ → Cursor → List (Slot C) → FillEnd C
  fill_run content m context zero p c slots = record { cursor = c; file = slots; answer = Ok tt }
  fill_run content m context (suc n) p c slots =
      cond (fill_open c m p)
      (fill_run content m context n (p + 1) (read_more (fill_reads c p) c) (register_put slots p (filled content c m p)))
      (record { cursor = c; file = slots; answer = fill_answer m context c p })
