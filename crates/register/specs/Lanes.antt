-- A lane's bits, read and written again, are the same bits, or the one NaN's.
use Rattle.std.proofs.Common.{◌≡◌, ℕ, ◌^◌, ◌<◌, Bool, true, false, not, T, sym, refl, subst, arith}
use lib.Ieee.{Float, nan, inf, fin, binary32, is_nan, of_bits, to_bits}
use lib.Ieee.Bits.{to_bits-of_bits, nan_bits_is, nan_bits_above}
use Rattle.std.proofs.lemmas.Bool.{false≢true}
use Rattle.std.proofs.lemmas.Grind.{common_steps}
use Rattle.register.specs.Contents.{lane_bits}

only_nan : (v : Float) → is_nan v ≡ true → v ≡ nan
unfolding is_nan
only_nan nan e = refl
only_nan (inf s) e = absurd (false≢true e)
only_nan (fin s m k) e = absurd (false≢true e)

nan_bits : to_bits binary32 nan ≡ 0x7FC0_0000
unfolding to_bits
nan_bits = refl

pub lane_bits_lem : (n : ℕ) → n < 2 ^ 32 → to_bits binary32 (of_bits binary32 n) ≡ lane_bits n
lane_bits_lem n fit =
    let number : is_nan (of_bits binary32 n) ≡ false → T (not (is_nan (of_bits binary32 n))) = λ e. subst (λ (b : Bool). T (not b)) (sym e) tt in
    grind (arith, common_steps, nan_bits_above binary32 n, nan_bits_is binary32 n, only_nan (of_bits binary32 n), nan_bits, λ (e : is_nan (of_bits binary32 n) ≡ false). to_bits-of_bits binary32 n fit (number e))
