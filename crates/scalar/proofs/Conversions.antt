-- What the conversions of Conversion.antt that round nothing say of numbers and texts. Assumes nothing.
use mathlib.Core.Path.{◌≡◌, refl, sym, ap, ◌∙◌}
use Prim.Native.Nat.{ℕ, ◌+◌, ◌-◌, ◌%◌, ◌^◌, ◌≤◌, ◌<◌}
use native.Mathlib.Omega.{arith}
use mathlib.Core.Bool.{Bool, true, false, ◌||◌, true≢false}
use mathlib.Core.Option.{none, some}
use lib.Dec.{leb, ltb}
use borrow.Author.Tests.{lt-ltb, le-ltb, le-leb, ltb-true, ltb-false, leb-true}
use Rattle.base.specs.Base.{when◌then◌else◌}
use Rattle.text.specs.Text.{Text, ascii, same}
use Rattle.rounding.specs.Rounding.{sign_bit, infinity}
use Rattle.scalar.specs.Conversion.{long_of_int, in_int, int_of_long, finite_double, parse_special_float}

-- ---- a Long and the Int that it is

-- every Int is inside Int as a Long, and comes back
pub int-inside : (m : ℕ) → m < 2 ^ 32 → in_int (long_of_int m) ≡ true
unfolding long_of_int in_int
int-inside m h = go (ltb m (2 ^ 31)) refl
  where
    go : (t : Bool) → ltb m (2 ^ 31) ≡ t → (ltb (when t then m else m + (2 ^ 64 - 2 ^ 32)) (2 ^ 31) || leb (2 ^ 64 - 2 ^ 31) (when t then m else m + (2 ^ 64 - 2 ^ 32))) ≡ true
    go true e = ap (λ (x : Bool). x || leb (2 ^ 64 - 2 ^ 31) m) e
    go false e =
        let l : 2 ^ 31 ≤ m = ltb-false m (2 ^ 31) e in
        ap (λ (x : Bool). x || leb (2 ^ 64 - 2 ^ 31) (m + (2 ^ 64 - 2 ^ 32))) (le-ltb (m + (2 ^ 64 - 2 ^ 32)) (2 ^ 31) (omega arith))
        ∙ le-leb (2 ^ 64 - 2 ^ 31) (m + (2 ^ 64 - 2 ^ 32)) (omega arith)

pub int-back : (m : ℕ) → m < 2 ^ 32 → int_of_long (long_of_int m) ≡ m
unfolding long_of_int int_of_long
int-back m h = go (ltb m (2 ^ 31))
  where
    go : (t : Bool) → (when t then m else m + (2 ^ 64 - 2 ^ 32)) % 2 ^ 32 ≡ m
    go true = omega arith
    go false = omega arith

-- a Long inside Int is the Int, widened
pub long-back : (n : ℕ) → n < 2 ^ 64 → in_int n ≡ true → long_of_int (int_of_long n) ≡ n
unfolding long_of_int in_int int_of_long
long-back n h e = go (ltb n (2 ^ 31)) (leb (2 ^ 64 - 2 ^ 31) n) refl refl e
  where
    go : (s t : Bool) → ltb n (2 ^ 31) ≡ s → leb (2 ^ 64 - 2 ^ 31) n ≡ t → (s || t) ≡ true → (when ltb (n % 2 ^ 32) (2 ^ 31) then n % 2 ^ 32 else n % 2 ^ 32 + (2 ^ 64 - 2 ^ 32)) ≡ n
    go true t f g q =
        let l : n < 2 ^ 31 = ltb-true n (2 ^ 31) f in
        ap (λ (x : Bool). when x then n % 2 ^ 32 else n % 2 ^ 32 + (2 ^ 64 - 2 ^ 32)) (lt-ltb (n % 2 ^ 32) (2 ^ 31) (omega arith)) ∙ omega arith
    go false true f g q =
        let l : 2 ^ 64 - 2 ^ 31 ≤ n = leb-true (2 ^ 64 - 2 ^ 31) n g in
        ap (λ (x : Bool). when x then n % 2 ^ 32 else n % 2 ^ 32 + (2 ^ 64 - 2 ^ 32)) (le-ltb (n % 2 ^ 32) (2 ^ 31) (omega arith)) ∙ omega arith
    go false false f g q = absurd (true≢false (sym q))

-- ---- a finite Double's pattern stands below infinity's

pub finite-is : (b : ℕ) → finite_double b ≡ ltb (b % sign_bit 53 1023) (infinity 53 1023)
unfolding finite_double
finite-is b = refl

-- ---- the five texts, and no other

pub special-texts : (parse_special_float (ascii "NaN") ≡ some 0x7fc00000)
    × (parse_special_float (ascii "INF") ≡ some 0x7f800000)
    × (parse_special_float (ascii "Infinity") ≡ some 0x7f800000)
    × (parse_special_float (ascii "-INF") ≡ some 0xff800000)
    × (parse_special_float (ascii "-Infinity") ≡ some 0xff800000)
unfolding parse_special_float same ascii
special-texts = (refl, refl, refl, refl, refl)

pub no-other-text : (t : Text) → same t (ascii "NaN") ≡ false → same t (ascii "INF") ≡ false → same t (ascii "Infinity") ≡ false → same t (ascii "-INF") ≡ false → same t (ascii "-Infinity") ≡ false
    → parse_special_float t ≡ none
unfolding parse_special_float
no-other-text t a b c d e = rw (a, b, c, d, e) refl
