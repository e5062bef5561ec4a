-- A ring of slots, seen by position: position p uses slot p mod N.
use Rattle.std.specs.Prelude.{◌≡◌, ℕ, zero, suc, ◌+◌, ◌%◌, ◌<◌, ◌≤◌, false, List, length, ◌≢◌, slice_index_or, slice_set}
use Rattle.register.specs.declared.Slot.{Slot}

module _ {C : Type 0} where
  -- the register with the content `nought` and NaT clear
  abbrev pub cleared_slot : C → Slot C
  cleared_slot nought = record { content = nought; nat = false }

  -- the register at position p; an empty ring shows the cleared register
  abbrev pub register_at : C → List (Slot C) → ℕ → Slot C
  register_at nought slots p = slice_index_or slots (p % length slots) (cleared_slot nought)

  -- the ring with s put at position p
  abbrev pub register_put : List (Slot C) → ℕ → Slot C → List (Slot C)
  register_put slots p s = slice_set slots (p % length slots) s

  -- the ring with the k positions from p on cleared, one after another
  abbrev pub registers_cleared : C → ℕ → ℕ → List (Slot C) → List (Slot C)
  registers_cleared nought zero p slots = slots
  registers_cleared nought (suc k) p slots = register_put (registers_cleared nought k p slots) (p + k) (cleared_slot nought)

-- p and q stand among n consecutive positions
abbrev pub Near : ℕ → ℕ → ℕ → Type 0
Near n p q = (p < q + n) × (q < p + n)

module _ {C : Type 0} where
  -- a ring is as before, but shows s at position p: so at p, and at every other position among N consecutive ones
  abbrev pub PutShows : C → List (Slot C) → ℕ → Slot C → List (Slot C) → Type 0
  PutShows nought before p s after =
      (length after ≡ length before) × (0 < length before → register_at nought after p ≡ s) ×
      ((q : ℕ) → (q ≢ p) → Near (length before) p q → register_at nought after q ≡ register_at nought before q)

  -- a ring is as before, but k positions from p on, at most N, are cleared: so at each of them, and at every other
  -- position q that stands with the whole run among N consecutive ones
  abbrev pub ClearShows : C → List (Slot C) → ℕ → ℕ → List (Slot C) → Type 0
  ClearShows nought before k p after =
      (length after ≡ length before) ×
      (k ≤ length before → (q : ℕ) → p ≤ q → q < p + k → register_at nought after q ≡ cleared_slot nought) ×
      ((q : ℕ) → q < p → p + k ≤ q + length before → register_at nought after q ≡ register_at nought before q) ×
      ((q : ℕ) → p + k ≤ q → q < p + length before → register_at nought after q ≡ register_at nought before q)
