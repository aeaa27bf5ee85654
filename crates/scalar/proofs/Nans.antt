-- Which conversions make a NaN: none of an integer, of a Float and a Double those of a NaN alone, and of the texts one. Assumes nothing.
use mathlib.Core.Path.{◌≡◌, refl, sym, ap, ◌∙◌}
use Prim.Native.Nat.{ℕ}
use native.Mathlib.Omega.{arith}
use mathlib.Core.Bool.{Bool, true, false, ◌||◌}
use mathlib.Core.Option.{none, some}
use lib.Dec.{T}
use Rattle.base.specs.Base.{when◌then◌else◌}
use Rattle.text.specs.Text.{Text, ascii, same}
use Rattle.text.proofs.TextLaws.{same→≡}
use Rattle.rounding.specs.Rounding.{of_twos}
use Rattle.rounding.proofs.Width.{single, double}
use Rattle.rounding.proofs.Nans.{nan_pattern-of_integer, nan_pattern-convert}
use Rattle.scalar.specs.Conversion.{float_of_int, float_of_long, double_of_int, double_of_long, float_of_double, double_of_float, float_is_nan, double_is_nan, parse_special_float}

pub float_is_nan-float_of_int : (n : ℕ) → float_is_nan (float_of_int n) ≡ false
unfolding float_of_int
float_is_nan-float_of_int n = nan_pattern-of_integer 24 127 single (of_twos 32 n)

pub float_is_nan-float_of_long : (n : ℕ) → float_is_nan (float_of_long n) ≡ false
unfolding float_of_long
float_is_nan-float_of_long n = nan_pattern-of_integer 24 127 single (of_twos 64 n)

pub double_is_nan-double_of_int : (n : ℕ) → double_is_nan (double_of_int n) ≡ false
unfolding double_of_int
double_is_nan-double_of_int n = nan_pattern-of_integer 53 1023 double (of_twos 32 n)

pub double_is_nan-double_of_long : (n : ℕ) → double_is_nan (double_of_long n) ≡ false
unfolding double_of_long
double_is_nan-double_of_long n = nan_pattern-of_integer 53 1023 double (of_twos 64 n)

pub float_is_nan-float_of_double : (b : ℕ) → float_is_nan (float_of_double b) ≡ double_is_nan b
unfolding float_of_double
float_is_nan-float_of_double b = nan_pattern-convert 53 1023 24 127 b single

pub double_is_nan-double_of_float : (b : ℕ) → double_is_nan (double_of_float b) ≡ float_is_nan b
unfolding double_of_float
double_is_nan-double_of_float b = nan_pattern-convert 24 127 53 1023 b double

-- ---- texts

-- of the five texts one is a NaN
pub float_is_nan-text : (t : Text) (b : ℕ) → parse_special_float t ≡ some b → float_is_nan b ≡ true → t ≡ ascii "NaN"
unfolding parse_special_float
float_is_nan-text t b e h = go (same t (ascii "NaN")) (same t (ascii "INF") || same t (ascii "Infinity")) (same t (ascii "-INF") || same t (ascii "-Infinity")) (λ q. same→≡ t (ascii "NaN") q) e
  where
    number : (n : ℕ) → float_is_nan n ≡ false → some n ≡ some b → t ≡ ascii "NaN"
    number n f k =
        let i : n ≡ b = cc in
        let q : true ≡ false = sym h ∙ ap float_is_nan (sym i) ∙ f in
        let z : ◌≡◌ {A = ℕ} 0 1 = cc in
        absurd (omega arith)

    go : (x y z : Bool) → (T x → t ≡ ascii "NaN") → (when x then some 0x7fc00000 else when y then some 0x7f800000 else when z then some 0xff800000 else none) ≡ some b → t ≡ ascii "NaN"
    go true y z f k = f tt
    go false true z f k = number 0x7f800000 refl k
    go false false true f k = number 0xff800000 refl k
    go false false false f k = let z : ◌≡◌ {A = ℕ} 0 1 = cc in absurd (omega arith)
