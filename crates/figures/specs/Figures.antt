-- Twelve figures worked out by hand, from the definitions of addresses, NaT collections and frame markers.
use Rattle.std.specs.Prelude.{◌≡◌, ℕ, Bool, true, false, ◌||◌, ◌==◌}
use Rattle.address.specs.Addresses.{address_of}
use Rattle.address.specs.NatBits.{nat_collection}
use Rattle.frame.specs.Markers.{sof_of, sol_of, sor_of, rotation_of, lawful, lawful_word, offset_of}

-- NaT at positions 0 and 62 alone
abbrev pub first_and_last : ℕ → Bool
first_and_last i = i == 0 || i == 62

pub record Figures : Type 0 where
  -- around the first two collections of a region at word 0
  pub last_of_the_first_group : address_of 0 62 ≡ 62
  pub first_of_the_second : address_of 0 63 ≡ 64
  pub last_of_the_second : address_of 0 125 ≡ 126
  pub first_of_the_third : address_of 0 126 ≡ 128
  -- eight rotating registers, turned by seven
  pub rotated_last : offset_of 1 7 0 ≡ 7
  pub rotated_first : offset_of 1 7 1 ≡ 0
  pub past_the_rotating_part : offset_of 1 7 8 ≡ 8
  -- a word of four registers, two of them local
  pub small_frame : (sof_of 260 ≡ 4) × (sol_of 260 ≡ 2) × (sor_of 260 ≡ 0) × (rotation_of 260 ≡ 0) × (lawful_word 260 ≡ true)
  -- the largest frame, all of it local and rotating
  pub large_frame : (sof_of 208992 ≡ 96) × (sol_of 208992 ≡ 96) × (sor_of 208992 ≡ 12) × (rotation_of 208992 ≡ 0) × (lawful_word 208992 ≡ true)
  pub rotation_95 : lawful 96 96 12 95 ≡ true
  pub rotation_96 : lawful 96 96 12 96 ≡ false
  pub collection : nat_collection first_and_last ≡ 4611686018427387905
