-- What fills leave in the file, position by position.
use Rattle.std.specs.Prelude.{◌≡◌, ℕ, ◌+◌, ◌-◌, ◌<◌, ◌≤◌, List, length, Ok, Err}
use Rattle.address.specs.AddressLaws.{Aligned}
use Rattle.register.specs.Slots.{register_at}
use Rattle.register.specs.declared.Slot.{Slot}
use Rattle.store.specs.Meaning.{Meaning}
use Rattle.moves.specs.declared.state.Cursor.{Cursor}
use Rattle.moves.specs.declared.state.Movement.TheVariants.{Fill}
use Rattle.moves.specs.Steps.{MoveResult}
use Rattle.moves.specs.Fills.{filled}
use Rattle.moves.specs.Told.{Told, Lowest, FillNeeds}

-- a ring is as before, but the positions from low to high − 1, at most N, are filled: so at each of them, and at every
-- other position q that stands with the whole run among N consecutive ones
pub record Refilled {C : Type 0} (nought : C) (content : ℕ → C) (c : Cursor) (m : Meaning) (low high : ℕ) (before after : List (Slot C)) : Type 0 where
  pub long : length after ≡ length before
  pub registers : high - low ≤ length before → (p : ℕ) → low ≤ p → p < high → register_at nought after p ≡ filled content c m p
  pub below : (q : ℕ) → q < low → high ≤ q + length before → register_at nought after q ≡ register_at nought before q
  pub above : (q : ℕ) → high ≤ q → q < low + length before → register_at nought after q ≡ register_at nought before q

-- nothing but the count of words read has changed
pub record OnlyReads (from to : Cursor) : Type 0 where
  pub context : to.context ≡ from.context
  pub start : to.start ≡ from.start
  pub bspstore : to.bspstore ≡ from.bspstore
  pub rnat : to.rnat ≡ from.rnat
  pub writes : to.counts.written ≡ from.counts.written

-- where fills up to `high` stop: there, or at the fault's position
abbrev pub fills_to : MoveResult → ℕ → ℕ
fills_to (Ok _) high = high
fills_to (Err f) high = f.place.position

-- fills of the positions from low to high − 1: those below the one where they stop are filled, and they stop at the first
-- that needs a shut word, or at `high`; in a store of whole pages that is the lowest shut word of all that are needed
pub record FillShows {C : Type 0} (nought : C) (content : ℕ → C) (context low high : ℕ) (from : Cursor) (m : Meaning)
    (before : List (Slot C)) (answer : MoveResult) (to : Cursor) (after : List (Slot C)) : Type 0 where
  pub refilled : low ≤ high → Refilled nought content from m low (fills_to answer high) before after
  pub cursor : OnlyReads from to
  pub told : Told m Fill context (FillNeeds from low high) answer
  pub lowest : Aligned (length m.words) → Lowest m (FillNeeds from low high) answer
