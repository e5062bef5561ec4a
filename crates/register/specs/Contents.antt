-- The contents of the two kinds of register: what a word stands for, images and sums.
use Rattle.std.specs.Prelude.{◌≡◌, ℕ, ◌+◌, ◌*◌, ◌/◌, ◌%◌, ◌^◌, ◌<◌, cond, T, from_bits, nat_lt, to_bits}
use mathlib.Core.HLevel.{is_prop→PathP}
use Rattle.std.proofs.Math.Bridge.{le_prop}
use Rattle.std.proofs.Common.{mod-lt, lit<}
use Rattle.std.proofs.Math.Dec.{T_prop}
use Rattle.std.specs.Float.Ieee.{fits, add}
use Rattle.std.specs.Float.{binary32}
use Rattle.std.specs.Float.Ieee.Bits.{of_bits-fits}
use Rattle.std.specs.Float.Ieee.Fits.{add-fits}
use Rattle.register.specs.declared.word.Word.{Word}
use Rattle.register.specs.declared.pair.Pair.{Pair}

-- the word with the number n, modulo 2 ^ 64
abbrev pub word_of : ℕ → Word
word_of n = record { value = n % 2 ^ 64; fits = mod-lt n (lit< tt) }

-- the sum of two words, modulo 2 ^ 64
abbrev pub word_sum : Word → Word → Word
word_sum c d = word_of (c.value + d.value)

-- two words with one number are one word
pub same_word : (c d : Word) → c.value ≡ d.value → c ≡ d
same_word c d e i = record { value = e i; fits = is_prop→PathP (λ k. e k < 2 ^ 64) (λ k. le_prop) c.fits d.fits i }

-- the pair whose lanes have these bits; every NaN pattern stands for the one NaN
unfoldable pub pair_of_bits : ℕ → ℕ → Pair
pair_of_bits low high = record {
  first = from_bits binary32 low;
  second = from_bits binary32 high;
  low = of_bits-fits binary32 low;
  high = of_bits-fits binary32 high;
}

-- the pair with the image n: the first lane has the low 32 bits, the second the next 32
abbrev pub pair_of : ℕ → Pair
pair_of n = pair_of_bits (n % 2 ^ 32) (n / 2 ^ 32 % 2 ^ 32)

-- the image of a pair: the bits of the first lane, and above them the bits of the second
abbrev pub pair_image : Pair → ℕ
pair_image c = to_bits binary32 c.first + 2 ^ 32 * to_bits binary32 c.second

-- the bits of the lane that has these bits: themselves, or 0x7FC00000 where they are any NaN's
abbrev pub lane_bits : ℕ → ℕ
lane_bits n = cond (nat_lt 0x7F80_0000 (n % 2 ^ 31)) 0x7FC0_0000 n

-- the sum of two pairs: lane by lane, each rounded once
abbrev pub pair_sum : Pair → Pair → Pair
pair_sum c d = record {
  first = add binary32 c.first d.first;
  second = add binary32 c.second d.second;
  low = add-fits binary32 c.first d.first;
  high = add-fits binary32 c.second d.second;
}

-- two pairs with the same lanes are one pair
pub same_pair : (c d : Pair) → c.first ≡ d.first → c.second ≡ d.second → c ≡ d
same_pair c d e f i = record {
  first = e i;
  second = f i;
  low = is_prop→PathP (λ k. T (fits binary32 (e k))) (λ k. T_prop (fits binary32 (e k))) c.low d.low i;
  high = is_prop→PathP (λ k. T (fits binary32 (f k))) (λ k. T_prop (fits binary32 (f k))) c.high d.high i;
}
