-- NaT bits, by place value. Assumes nothing.
use Rattle.std.specs.Prelude.{ℕ, zero, suc, ◌+◌, ◌-◌, ◌*◌, ◌/◌, ◌%◌, ◌^◌, Bool, cond, ◌==◌}

-- bit i of n, 0 or 1
abbrev pub bit : ℕ → ℕ → ℕ
bit n i = n / 2 ^ i % 2

-- bit i of n, as a test
abbrev pub nat_bit : ℕ → ℕ → Bool
nat_bit n i = bit n i == 1

-- n with bit i set, where nat says so
abbrev pub with_nat : ℕ → ℕ → Bool → ℕ
with_nat n i nat = n + cond nat ((1 - bit n i) * 2 ^ i) 0

-- the bits of n below bit i
abbrev pub nats_below : ℕ → ℕ → ℕ
nats_below n i = n % 2 ^ i

-- the number whose bits below k are f 0, f 1, ..
abbrev pub pack : (ℕ → Bool) → ℕ → ℕ
pack f zero = 0
pack f (suc k) = pack f k + cond (f k) (2 ^ k) 0

-- a NaT collection: the bits of the 63 registers of its group; bit 63 is zero
abbrev pub nat_collection : (ℕ → Bool) → ℕ
nat_collection f = pack f 63
