-- From content to content: what a number that was read from bits, converted and written again gives. Assumes nothing.
use mathlib.Core.Path.{◌≡◌, refl, sym, ap, ◌∙◌, subst}
use Prim.Native.Nat.{ℕ, ◌%◌, ◌^◌, ◌<◌}
use native.Mathlib.Nat.{mod-eq_of_lt}
use mathlib.Core.Bool.{true}
use lib.IntN.{ℤ}
use lib.Dec.{T, lit≤, ltb→lt}
use lib.Ieee.{Format, binary32, binary64, prec, emax, top, to_bits, nan_bits}
use lib.Ieee.Bits.{nan_bits_above}
use Rattle.rounding.specs.Rounding.{infinity, of_integer, convert, of_twos}
use Rattle.scalar.specs.Scalars.{float_of, double_of, of_content, content_of, cast_content, float_cast, double_cast}
use Rattle.scalar.specs.declared.Scalar.TheVariants.{Int, Float, FloatNan, Double, DoubleNan}
use Rattle.rounding.proofs.Width.{single, double, integer-lt, convert-lt}
use Rattle.scalar.proofs.Ieee754.{nan-quiet}
use Rattle.scalar.proofs.Contents.{by-nan, float-content, double-content, of-kind-2, of-kind-4}

-- ---- a number that was read
pub int-content : (b : ℕ) → b < 2 ^ 32 → of_content 0x02 b ≡ Int (of_twos 32 b)
int-content b h = of-kind-2 0x02 b refl ∙ ap (λ (x : ℕ). Int (of_twos 32 x)) (mod-eq_of_lt h)

pub float_read : (b : ℕ) → b < 2 ^ 32 → of_content 0x04 b ≡ float_of b
float_read b h = of-kind-4 0x04 b refl ∙ ap float_of (mod-eq_of_lt h)

pub double-read : (b : ℕ) → of_content 0x05 b ≡ double_of b
unfolding of_content
double-read b = refl

-- ---- all bits are kept, a NaN's too
pub float-stays : (b : ℕ) → b < 2 ^ 32 → cast_content (float_cast (float_of b)) ≡ b
float-stays b B = by-nan binary32 b B (FloatNan b) Float (λ s. cast_content (float_cast s)) (λ n. n) (λ k. refl) (λ x. refl)

pub double-stays : (b : ℕ) → b < 2 ^ 64 → cast_content (double_cast (double_of b)) ≡ b
double-stays b B = by-nan binary64 b B (DoubleNan b) Double (λ s. cast_content (double_cast s)) (λ n. n) (λ k. refl) (λ x. refl)

-- ---- the conversions
pub integer-float : (z : ℤ) → content_of (float_of (of_integer 24 127 z)) ≡ of_integer 24 127 z
integer-float z = float-content (of_integer 24 127 z) (integer-lt 24 127 single z)

pub integer-double : (z : ℤ) → content_of (double_of (of_integer 53 1023 z)) ≡ of_integer 53 1023 z
integer-double z = double-content (of_integer 53 1023 z) (integer-lt 53 1023 double z)

above : (f : Format) (b : ℕ) → nan_bits f b ≡ true → infinity (prec f) (emax f) < b % top f
above f b h = ltb→lt (infinity (prec f) (emax f)) (b % top f) (subst T (sym (sym (nan_bits_above f b) ∙ h)) tt)

pub double-float : (b : ℕ) → b < 2 ^ 64 → cast_content (float_cast (double_of b)) ≡ convert 53 1023 24 127 b
double-float b B =
    by-nan binary64 b B (DoubleNan b) Double (λ s. cast_content (float_cast s)) (convert 53 1023 24 127)
    (λ k. sym (nan-quiet 53 1023 24 127 b (above binary64 b k)))
    (λ x. let c = to_bits binary64 x in float-content (convert 53 1023 24 127 c) (convert-lt 53 1023 24 127 c single (lit≤ tt)))

pub float-double : (b : ℕ) → b < 2 ^ 32 → cast_content (double_cast (float_of b)) ≡ convert 24 127 53 1023 b
float-double b B =
    by-nan binary32 b B (FloatNan b) Float (λ s. cast_content (double_cast s)) (convert 24 127 53 1023)
    (λ k. sym (nan-quiet 24 127 53 1023 b (above binary32 b k)))
    (λ x. let c = to_bits binary32 x in double-content (convert 24 127 53 1023 c) (convert-lt 24 127 53 1023 c double (lit≤ tt)))
