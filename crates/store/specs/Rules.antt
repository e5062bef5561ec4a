-- What the calls of a store answer, and what they leave, by its meaning.
use Rattle.std.specs.Prelude.{ℕ, ◌/◌, Bool, true, false, cond, ◌&&◌, length, Ok, Err, Result, nat_lt, slice_index, slice_index_or, slice_set}
use Rattle.store.specs.Meaning.{Meaning}
use Rattle.store.specs.declared.StoreFault.{StoreFault}
use Rattle.store.specs.declared.Cause.{Cause}
use Rattle.store.specs.declared.Cause.TheVariants.{Beyond, Shut, Fixed}

-- word w is there, and its page is open; where the doors do not move, every page is open
abbrev pub is_open : Meaning → ℕ → Bool
is_open m w = nat_lt w (length m.words) && cond m.moving (slice_index_or m.flags (w / 64) false) true

-- why word w is refused: beyond the end, otherwise its page is shut
abbrev pub refusal_of : Meaning → ℕ → StoreFault
refusal_of m w = record { cause = cond (nat_lt w (length m.words)) Shut Beyond; word = w }

-- what a read of word w answers
abbrev pub read_of : Meaning → ℕ → Result ℕ StoreFault
read_of m w = cond (is_open m w) (Ok (slice_index m.words w)) (Err (refusal_of m w))

-- what a write of word w answers
abbrev pub write_of : Meaning → ℕ → Result (Unit {0}) StoreFault
write_of m w = cond (is_open m w) (Ok tt) (Err (refusal_of m w))

-- the store after a write of v to word w: that word alone, and none where it is refused
abbrev pub written : Meaning → ℕ → ℕ → Meaning
written m w v = record { words = cond (is_open m w) (slice_set m.words w v) m.words; flags = m.flags; moving = m.moving }

-- page p is there
abbrev pub has_page : Meaning → ℕ → Bool
has_page m p = nat_lt p (length m.words / 64)

-- what a change of page p's door answers
abbrev pub door_of : Meaning → ℕ → Result (Unit {0}) Cause
door_of m p = cond (has_page m p) (cond m.moving (Ok tt) (Err Fixed)) (Err Beyond)

-- the store after page p's door was opened or shut: that flag alone, and none where it is refused
abbrev pub door_set : Meaning → ℕ → Bool → Meaning
door_set m p b =
    record { words = m.words; flags = cond (has_page m p && m.moving) (slice_set m.flags p b) m.flags; moving = m.moving }
