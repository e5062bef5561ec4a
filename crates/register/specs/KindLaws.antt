-- The laws of the two kinds: the content of an image is the content imaged, the zero's image is 0, an image has 64 bits.
use Rattle.std.proofs.Common.{◌≡◌, ◌+◌, ◌*◌, ◌^◌, ◌<◌, ap, ◌∙◌, arith}
use Rattle.std.specs.Prelude.{from_bits, to_bits}
use Rattle.std.specs.Float.{binary32}
use Rattle.std.specs.Float.Ieee.Bits.{of_bits-to_bits, to_bits-lt}
use Rattle.register.specs.declared.word.Word.{Word}
use Rattle.register.specs.declared.pair.Pair.{Pair}
use Rattle.register.specs.Contents.{word_of, pair_of, pair_of_bits, pair_image, same_word, same_pair}
use Rattle.register.specs.Lanes.{lane_bits_lem}

pub word_restored : (c : Word) → word_of c.value ≡ c
word_restored c = same_word _ _ (omega (arith, c.fits))

pub word_bounded : (c : Word) → c.value < 2 ^ 64
word_bounded c = c.fits

pub pair_restored : (c : Pair) → pair_of (pair_image c) ≡ c
unfolding pair_of_bits
pair_restored c =
    let low : to_bits binary32 c.first < 2 ^ 32 = to_bits-lt binary32 c.first c.low in
    let high : to_bits binary32 c.second < 2 ^ 32 = to_bits-lt binary32 c.second c.high in
    same_pair _ _
    (ap (from_bits binary32) (omega arith) ∙ of_bits-to_bits binary32 c.first c.low)
    (ap (from_bits binary32) (omega arith) ∙ of_bits-to_bits binary32 c.second c.high)

pub pair_blank : pair_image (pair_of 0) ≡ 0
unfolding pair_of_bits
pair_blank = ap (λ n. n + 2 ^ 32 * n) (lane_bits_lem 0 (omega arith))

pub pair_bounded : (c : Pair) → pair_image c < 2 ^ 64
pair_bounded c = omega (arith, to_bits-lt binary32 c.first c.low, to_bits-lt binary32 c.second c.high)
