-- Laws of NaT bits, by place value. Assumes nothing.
use Rattle.std.proofs.Common.{◌≡◌, ℕ, zero, suc, ◌+◌, ◌-◌, ◌*◌, ◌/◌, ◌%◌, ◌^◌, ◌<◌, ◌≤◌, Bool, true, false, cond, sym, refl, ap, ◌∙◌, ⊎_elim, lt_of_lt_of_le, mod-eq_of_lt, pow-suc, add-one, arith}
use native.Mathlib.Nat.{div-eq_of_lt, div_self, mod_self, add-mul-mod_self_right, mod-one}
use lib.Bits.{bit_or, or_step, or_zero_r}
use Rattle.std.proofs.lemmas.Grind.{common_steps}
use Rattle.std.proofs.lemmas.Nat.{pow_pos, pow-add, shr_split, or_shr, or_mod, field_of, mod-pow-add, div-mul-add, pow_below}
use Rattle.std.proofs.lemmas.Bool.{cases_lt}
use Rattle.address.specs.NatBits.{bit, nat_bit, with_nat, nats_below, pack, nat_collection}

-- ---- one bit

pub bit_below : (n i : ℕ) → bit n i < 2
bit_below n i = omega arith

-- a number below 2 ^ i has no bit i
pub bit_high : (n i : ℕ) → n < 2 ^ i → bit n i ≡ 0
bit_high n i h = grind (arith, div-eq_of_lt)

-- bit i as the top bit of those below i + 1
pub bit_top : (n i : ℕ) → bit n i ≡ n % 2 ^ suc i / 2 ^ i
bit_top n i = grind (arith, field_of n 1 i)

pub nat_bit_one : (b : Bool) (n i : ℕ) → bit n i ≡ cond b 1 0 → nat_bit n i ≡ b
nat_bit_one b n i e = grind (arith, common_steps)

-- ---- setting a bit

pub with_nat_low : (n i : ℕ) (b : Bool) → n < 2 ^ i → with_nat n i b ≡ n + cond b (2 ^ i) 0
with_nat_low n i b h = grind (arith, common_steps, div-eq_of_lt)

or_one : (m : ℕ) → bit_or m 1 ≡ m + (1 - m % 2)
or_one m = grind (arith, or_step, or_zero_r)

-- a bit is set by `|` with its place value
pub or_bit : (n i : ℕ) → bit_or n (2 ^ i) ≡ n + (1 - bit n i) * 2 ^ i
or_bit n i =
    let low : bit_or n (2 ^ i) % 2 ^ i ≡ n % 2 ^ i = or_mod n (2 ^ i) i ∙ ap (bit_or (n % 2 ^ i)) (mod_self (2 ^ i)) ∙ or_zero_r (n % 2 ^ i) in
    let high : bit_or n (2 ^ i) / 2 ^ i ≡ n / 2 ^ i + (1 - bit n i) = or_shr n (2 ^ i) i ∙ ap (bit_or (n / 2 ^ i)) (div_self (pow_pos i)) ∙ or_one (n / 2 ^ i) in
    grind (arith, shr_split (bit_or n (2 ^ i)) i, shr_split n i)

-- ---- packed bits

pow_mono : (i j : ℕ) → i ≤ j → 2 ^ i ≤ 2 ^ j
pow_mono i j h = grind (arith, common_steps, pow_below)

pub pack_below : (f : ℕ → Bool) (k : ℕ) → pack f k < 2 ^ k
pack_below f zero = grind arith
pack_below f (suc k) = grind (arith, common_steps, pow-suc, pack_below f k)

pub pack_same : (f g : ℕ → Bool) (k : ℕ) → ((i : ℕ) → i < k → f i ≡ g i) → pack f k ≡ pack g k
pack_same f g zero h = refl
pack_same f g (suc k) h = grind (arith, common_steps, pack_same f g k)

pub pack_more : (f : ℕ → Bool) (k : ℕ) → with_nat (pack f k) k (f k) ≡ pack f (k + 1)
pack_more f k = with_nat_low (pack f k) k (f k) (pack_below f k) ∙ ap (pack f) (sym (add-one k))

-- the sum's last term is a multiple of every lower power
drop_high : (n j k : ℕ) (b : Bool) → j ≤ k → (n + cond b (2 ^ k) 0) % 2 ^ j ≡ n % 2 ^ j
drop_high n j k true h =
    let e : 2 ^ k ≡ 2 ^ (k - j) * 2 ^ j = ap (λ x. 2 ^ x) (omega arith) ∙ pow-add 2 (k - j) j in
    ap (λ x. (n + x) % 2 ^ j) e ∙ add-mul-mod_self_right n (2 ^ (k - j)) (2 ^ j)
drop_high n j k false h = ap (λ x. x % 2 ^ j) (omega arith)

pub pack-front : (f : ℕ → Bool) (k j : ℕ) → j ≤ k → pack f k % 2 ^ j ≡ pack f j
pack-front f zero j h = grind arith
pack-front f (suc k) j h =
    ⊎_elim (λ l. drop_high (pack f k) j k (f k) (omega arith) ∙ pack-front f k j (omega arith))
    (λ l. let e : j ≡ suc k = omega arith in rw e (mod-eq_of_lt (pack_below f (suc k)))) (cases_lt j (suc k))

top_bit : (n i : ℕ) (b : Bool) → n < 2 ^ i → (n + cond b (2 ^ i) 0) / 2 ^ i ≡ cond b 1 0
top_bit n i b h = grind (arith, common_steps, div-mul-add, div-eq_of_lt)

pub pack_bit : (f : ℕ → Bool) (k i : ℕ) → i < k → bit (pack f k) i ≡ cond (f i) 1 0
pack_bit f k i h = bit_top (pack f k) i ∙ ap (λ x. x / 2 ^ i) (pack-front f k (suc i) h) ∙ top_bit (pack f i) i (f i) (pack_below f i)

pub pack_nat : (f : ℕ → Bool) (k i : ℕ) → i < k → nat_bit (pack f k) i ≡ f i
pack_nat f k i h = nat_bit_one (f i) (pack f k) i (pack_bit f k i h)

pub collection_top : (f : ℕ → Bool) → bit (nat_collection f) 63 ≡ 0
collection_top f = bit_high (nat_collection f) 63 (pack_below f 63)

pub pack_next : (f : ℕ → Bool) (k : ℕ) → pack f (k + 1) ≡ pack f k + cond (f k) (2 ^ k) 0
pack_next f k = ap (pack f) (add-one k)

pub pack_clear : (k : ℕ) → pack (λ _. false) k ≡ 0
pack_clear zero = refl
pack_clear (suc k) = omega (arith, pack_clear k)

-- past the packed bits there are none
pub pack_nat_high : (f : ℕ → Bool) (k i : ℕ) → k ≤ i → nat_bit (pack f k) i ≡ false
pack_nat_high f k i h = nat_bit_one false (pack f k) i (bit_high (pack f k) i (lt_of_lt_of_le (pack_below f k) (pow_mono k i h)))

pub pack_fits : (f : ℕ → Bool) (k : ℕ) → k ≤ 64 → pack f k < 2 ^ 64
pack_fits f k h = lt_of_lt_of_le (pack_below f k) (pow_mono k 64 h)

-- ---- the bits of a number

-- n % 2 ^ suc k is n % 2 ^ k with bit k before it
bits_split : (n k : ℕ) → n % 2 ^ suc k ≡ bit n k * 2 ^ k + n % 2 ^ k
bits_split n k = ap (λ x. n % 2 ^ x) (omega arith) ∙ mod-pow-add n 1 k

-- a number is the pack of its bits
pub pack_bits : (n k : ℕ) → pack (nat_bit n) k ≡ n % 2 ^ k
pack_bits n zero = grind arith
pack_bits n (suc k) = grind (arith, common_steps, bits_split n k, pack_bits n k)

pub pack_whole : (n k : ℕ) → n < 2 ^ k → pack (nat_bit n) k ≡ n
pack_whole n k h = pack_bits n k ∙ mod-eq_of_lt h

pub nat_bit_below : (n i j : ℕ) → i < j → nat_bit (nats_below n j) i ≡ nat_bit n i
nat_bit_below n i j h = ap (λ x. nat_bit x i) (sym (pack_bits n j)) ∙ pack_nat (nat_bit n) j i h

pub nats_below_none : (n : ℕ) → nats_below n 0 ≡ 0
nats_below_none n = mod-one n

pub nats_below_twice : (n i j : ℕ) → i ≤ j → nats_below (nats_below n j) i ≡ nats_below n i
nats_below_twice n i j h = ap (λ x. nats_below x i) (sym (pack_bits n j)) ∙ pack-front (nat_bit n) j i h ∙ pack_bits n i

-- what `place_value` says
pub ruleset nat_laws = (pack_below, pack_bit, pack_nat, pack-front, pack_same, pack_more, collection_top, pack_whole)
