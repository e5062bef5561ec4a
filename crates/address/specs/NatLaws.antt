-- The laws of NaT bits by place value. Assumes nothing.
use Rattle.std.specs.Prelude.{◌≡◌, ℕ, ◌+◌, ◌^◌, ◌<◌, ◌≤◌, Bool, cond}
use Rattle.address.specs.NatBits.{bit, nat_bit, with_nat, nats_below, pack, nat_collection}

-- setting a bit above all others adds its place value
abbrev pub Fresh : Type 0
Fresh = (n i : ℕ) (nat : Bool) → n < 2 ^ i → with_nat n i nat ≡ n + cond nat (2 ^ i) 0

-- k bits make a number below 2 ^ k
abbrev pub Bounded : Type 0
Bounded = (f : ℕ → Bool) (k : ℕ) → pack f k < 2 ^ k

-- each bit stands in its place
abbrev pub Placed : Type 0
Placed = (f : ℕ → Bool) (k i : ℕ) → i < k → (bit (pack f k) i ≡ cond (f i) 1 0) × (nat_bit (pack f k) i ≡ f i)

-- the bits below j are those packed up to j
abbrev pub Cut : Type 0
Cut = (f : ℕ → Bool) (k j : ℕ) → j ≤ k → nats_below (pack f k) j ≡ pack f j

-- only the bits below k matter
abbrev pub Local : Type 0
Local = (f g : ℕ → Bool) (k : ℕ) → ((i : ℕ) → i < k → f i ≡ g i) → pack f k ≡ pack g k

-- setting the next bit packs one more
abbrev pub Extended : Type 0
Extended = (f : ℕ → Bool) (k : ℕ) → with_nat (pack f k) k (f k) ≡ pack f (k + 1)

-- bit 63 of a collection is zero
abbrev pub TopClear : Type 0
TopClear = (f : ℕ → Bool) → bit (nat_collection f) 63 ≡ 0

-- a number below 2 ^ k is the pack of its bits
abbrev pub Whole : Type 0
Whole = (n k : ℕ) → n < 2 ^ k → pack (nat_bit n) k ≡ n
