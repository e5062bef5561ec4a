-- What putting and clearing show, position by position.
use Rattle.std.proofs.Common.{◌≡◌, ℕ, zero, suc, ◌+◌, ◌-◌, ◌%◌, ◌<◌, ◌≤◌, ◌≢◌, List, length, ap, ◌∙◌, mod-lt, div-add-mod', arith, length-set, get_or-set_other, get_or-set_same}
use Rattle.register.specs.Slots.{register_at, register_put, registers_cleared, cleared_slot, Near, PutShows, ClearShows}
use Rattle.register.specs.declared.Slot.{Slot}

-- two positions less than n apart use two slots
pub apart : (n a b : ℕ) → a < b → b < a + n → a % n ≢ b % n
apart n a b lt near e = grind (arith, div-add-mod')

-- two different positions among n consecutive ones use two slots
differ : (n p q : ℕ) → q ≢ p → Near n p q → q % n ≢ p % n
differ n p q ne near e = grind (arith, div-add-mod')

module _ {C : Type 0} where
  -- a ring keeps its length
  pub put_length : (slots : List (Slot C)) (p : ℕ) (s : Slot C) → length (register_put slots p s) ≡ length slots
  put_length slots p s = length-set slots (p % length slots) s

  -- the position shows what was put there
  pub put_here : (nought : C) (slots : List (Slot C)) (p : ℕ) (s : Slot C) → 0 < length slots → register_at nought (register_put slots p s) p ≡ s
  put_here nought slots p s h = let lt : p % length slots < length slots = mod-lt p h in rw (length-set, get_or-set_same)

  -- every other one near it shows what it did
  pub put_other : (nought : C) (slots : List (Slot C)) (p : ℕ) (s : Slot C) (q : ℕ) → q ≢ p → Near (length slots) p q
      → register_at nought (register_put slots p s) q ≡ register_at nought slots q
  put_other nought slots p s q ne near = let other : q % length slots ≢ p % length slots = differ (length slots) p q ne near in rw (length-set, get_or-set_other)

  pub put_shows : (nought : C) (slots : List (Slot C)) (p : ℕ) (s : Slot C) → PutShows nought slots p s (register_put slots p s)
  put_shows nought slots p s = (put_length slots p s, put_here nought slots p s, put_other nought slots p s)

pub ruleset put_laws = (put_length, put_here, put_other)

module _ {C : Type 0} where
  pub clear_shows : (nought : C) (slots : List (Slot C)) (k p : ℕ) → ClearShows nought slots k p (registers_cleared nought k p slots)
  clear_shows nought slots zero p = grind arith
  clear_shows nought slots (suc k) p = grind (arith, put_laws, clear_shows nought slots k p)

  -- one position more
  pub cleared_more : (nought : C) (slots : List (Slot C)) (low p : ℕ) → low ≤ p
      → registers_cleared nought (p + 1 - low) low slots ≡ register_put (registers_cleared nought (p - low) low slots) p (cleared_slot nought)
  cleared_more nought slots low p h =
      let one : p + 1 - low ≡ suc (p - low) = omega arith in
      let here : low + (p - low) ≡ p = omega arith in
      ap (λ n. registers_cleared nought n low slots) one ∙ ap (λ n. register_put (registers_cleared nought (p - low) low slots) n (cleared_slot nought)) here
