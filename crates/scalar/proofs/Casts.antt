-- A number or a time by its kind and content, there and back; and what each cast gives of it. Assumes nothing.
use mathlib.Core.Path.{◌≡◌, refl, sym, ap, ◌∙◌, subst}
use Prim.Native.Nat.{ℕ, ◌%◌, ◌^◌, ◌≤◌, ◌<◌}
use native.Mathlib.Nat.{mod-eq_of_lt}
use native.Mathlib.Omega.{arith}
use mathlib.Core.Bool.{Bool, true, false, cond, true≢false}
use lib.IntN.{ℤ}
use lib.Dec.{eqb, leb, ltb}
use lib.Ieee.{binary32, binary64, of_bits, nan_bits}
use borrow.Author.Tests.{lt-ltb, le-ltb, eqb-true, eqb-false, leb-true, ltb-true, ltb-false}
use Rattle.std.specs.Prelude.{Some, None, Ok, Err}
use Rattle.base.specs.Base.{when◌then◌else◌}
use Rattle.rounding.specs.Rounding.{of_twos, to_twos}
use Rattle.scalar.specs.Conversion.{in_int, int_of_long}
use Rattle.scalar.specs.Scalars.{float_of, double_of, time_of, of_content, is_scalar, is_short, width_of, kind_of, content_of, int_of, narrowed, int_cast, long_cast, keep, time_cast}
use Rattle.scalar.specs.declared.Scalar.{Scalar}
use Rattle.scalar.specs.declared.Scalar.TheVariants.{Int, Long, Float, FloatNan, Double, DoubleNan, Date, TimeMillis, TimeMicros, TimestampMillis, TimestampMicros, TimestampNanos, LocalTimestampMillis, LocalTimestampMicros, LocalTimestampNanos}
use Rattle.scalar.specs.declared.CastError.TheVariants.{Unsuited, OutOfRange}
use Rattle.scalar.proofs.Contents.{of-kind-2, of-kind-3, of-kind-4, of-kind-5, of-short-time, of-long-time, float-content, double-content}
use Rattle.scalar.proofs.Times.{twos_back, time-content}

-- ---- the kinds of numbers and times

pub data ScalarKind (k : ℕ) : Type 0 where
  int : k ≡ 0x02 → ScalarKind k
  long : k ≡ 0x03 → ScalarKind k
  float : k ≡ 0x04 → ScalarKind k
  double : k ≡ 0x05 → ScalarKind k
  short : 0x10 ≤ k → k < 0x12 → ScalarKind k
  wide : 0x12 ≤ k → k ≤ 0x18 → ScalarKind k

number-kind : (k : ℕ) → 2 ≤ k → k < 6 → ScalarKind k
number-kind k a b = go (eqb k 2) (eqb k 3) (eqb k 4) refl refl refl
  where
    go : (x y z : Bool) → eqb k 2 ≡ x → eqb k 3 ≡ y → eqb k 4 ≡ z → ScalarKind k
    go true y z e f g = int (eqb-true k 2 e)
    go false true z e f g = long (eqb-true k 3 f)
    go false false true e f g = float (eqb-true k 4 g)
    go false false false e f g = double (omega (arith, eqb-false k 2 e, eqb-false k 3 f, eqb-false k 4 g))

time-kind : (k : ℕ) → 0x10 ≤ k → k ≤ 0x18 → ScalarKind k
time-kind k a b = go (ltb k 0x12) refl
  where
    go : (x : Bool) → ltb k 0x12 ≡ x → ScalarKind k
    go true e = short a (ltb-true k 0x12 e)
    go false e = wide (ltb-false k 0x12 e) b

pub scalar-kind : (k : ℕ) → is_scalar k ≡ true → ScalarKind k
unfolding is_scalar
scalar-kind k h = go (ltb k 6) (ltb k 0x10) (leb 2 k) (leb k 0x18) refl refl refl refl h
  where
    go : (a b c d : Bool) → ltb k 6 ≡ a → ltb k 0x10 ≡ b → leb 2 k ≡ c → leb k 0x18 ≡ d → (when a then c else when b then false else d) ≡ true → ScalarKind k
    go true b true d e f g i j = number-kind k (leb-true 2 k g) (ltb-true k 6 e)
    go true b false d e f g i j = absurd (true≢false (sym j))
    go false true c d e f g i j = absurd (true≢false (sym j))
    go false false c true e f g i j = time-kind k (ltb-false k 0x10 f) (leb-true k 0x18 i)
    go false false c false e f g i j = absurd (true≢false (sym j))

-- ---- a time's kind

pub time-back : (k : ℕ) (z : ℤ) → 0x10 ≤ k → k ≤ 0x18 → kind_of (time_of k z) ≡ k
unfolding time_of
time-back k z a b = go (eqb k 0x10) (ltb k 0x12) (eqb k 0x12) (eqb k 0x13) (eqb k 0x14) (eqb k 0x15) (eqb k 0x16) (eqb k 0x17) refl refl refl refl refl refl refl refl
  where
    go : (d l m n o p q r : Bool) → eqb k 0x10 ≡ d → ltb k 0x12 ≡ l → eqb k 0x12 ≡ m → eqb k 0x13 ≡ n → eqb k 0x14 ≡ o → eqb k 0x15 ≡ p → eqb k 0x16 ≡ q → eqb k 0x17 ≡ r
        → kind_of (when d then Date z else when l then TimeMillis z else when m then TimeMicros z else when n then TimestampMillis z else when o then TimestampMicros z else when p then TimestampNanos z else when q then LocalTimestampMillis z else when r then LocalTimestampMicros z else LocalTimestampNanos z)
        ≡ k
    go true l m n o p q r e1 e2 e3 e4 e5 e6 e7 e8 = sym (eqb-true k 0x10 e1)
    go false true m n o p q r e1 e2 e3 e4 e5 e6 e7 e8 = let x = eqb-false k 0x10 e1 in let y = ltb-true k 0x12 e2 in omega arith
    go false false true n o p q r e1 e2 e3 e4 e5 e6 e7 e8 = sym (eqb-true k 0x12 e3)
    go false false false true o p q r e1 e2 e3 e4 e5 e6 e7 e8 = sym (eqb-true k 0x13 e4)
    go false false false false true p q r e1 e2 e3 e4 e5 e6 e7 e8 = sym (eqb-true k 0x14 e5)
    go false false false false false true q r e1 e2 e3 e4 e5 e6 e7 e8 = sym (eqb-true k 0x15 e6)
    go false false false false false false true r e1 e2 e3 e4 e5 e6 e7 e8 = sym (eqb-true k 0x16 e7)
    go false false false false false false false true e1 e2 e3 e4 e5 e6 e7 e8 = sym (eqb-true k 0x17 e8)
    go false false false false false false false false e1 e2 e3 e4 e5 e6 e7 e8 =
        omega (arith, ltb-false k 0x12 e2, eqb-false k 0x12 e3, eqb-false k 0x13 e4, eqb-false k 0x14 e5, eqb-false k 0x15 e6, eqb-false k 0x16 e7, eqb-false k 0x17 e8)

-- ---- kind and content, there and back

float-kind : (b : ℕ) → kind_of (float_of b) ≡ 0x04
float-kind b = go (nan_bits binary32 b)
  where
    go : (t : Bool) → kind_of (cond t (FloatNan b) (Float (of_bits binary32 b))) ≡ 0x04
    go true = refl
    go false = refl

double-kind : (b : ℕ) → kind_of (double_of b) ≡ 0x05
double-kind b = go (nan_bits binary64 b)
  where
    go : (t : Bool) → kind_of (cond t (DoubleNan b) (Double (of_bits binary64 b))) ≡ 0x05
    go true = refl
    go false = refl

short-is : (k b : ℕ) → 0x10 ≤ k → k < 0x12 → of_content k b ≡ time_of k (of_twos 32 (b % 2 ^ 32))
short-is k b l h = of-short-time k b (λ e. omega arith) (λ e. omega arith) (λ e. omega arith) (λ e. omega arith) h

pub kind-back : (k b : ℕ) → ScalarKind k → kind_of (of_content k b) ≡ k
kind-back k b (int e) = ap kind_of (of-kind-2 k b e) ∙ sym e
kind-back k b (long e) = ap kind_of (of-kind-3 k b e) ∙ sym e
kind-back k b (float e) = ap kind_of (of-kind-4 k b e) ∙ float-kind (b % 2 ^ 32) ∙ sym e
kind-back k b (double e) = ap kind_of (of-kind-5 k b e) ∙ double-kind b ∙ sym e
kind-back k b (short l h) = ap kind_of (short-is k b l h) ∙ time-back k (of_twos 32 (b % 2 ^ 32)) l (omega arith)
kind-back k b (wide l h) = ap kind_of (of-long-time k b l) ∙ time-back k (of_twos 64 b) (omega arith) h

-- a kind's width
module _ (k : ℕ) where
  pub int-4 : k ≡ 0x02 → width_of k ≡ 4
  unfolding is_short
  int-4 e = ap width_of e

  pub long-8 : k ≡ 0x03 → width_of k ≡ 8
  unfolding is_short
  long-8 e = ap width_of e

  pub float-4 : k ≡ 0x04 → width_of k ≡ 4
  unfolding is_short
  float-4 e = ap width_of e

  pub double-8 : k ≡ 0x05 → width_of k ≡ 8
  unfolding is_short
  double-8 e = ap width_of e

  pub short-4 : 0x10 ≤ k → k < 0x12 → width_of k ≡ 4
  unfolding is_short
  short-4 l h = rw (le-ltb k 6 (omega arith), lt-ltb k 0x12 h) refl

  pub wide-8 : 0x12 ≤ k → width_of k ≡ 8
  unfolding is_short
  wide-8 l = rw (le-ltb k 6 (omega arith), le-ltb k 0x12 l) refl

small : (k b : ℕ) (w : ℕ) → width_of k ≡ w → b < 256 ^ width_of k → b < 256 ^ w
small k b w e h = subst (λ (x : ℕ). b < 256 ^ x) e h

pub content-back : (k b : ℕ) → ScalarKind k → b < 256 ^ width_of k → content_of (of_content k b) ≡ b
content-back k b (int e) h =
    let l : b < 2 ^ 32 = small k b 4 (int-4 k e) h in
    ap content_of (of-kind-2 k b e) ∙ ap (λ (x : ℕ). to_twos 32 (of_twos 32 x)) (mod-eq_of_lt l) ∙ twos_back 32 b l
content-back k b (long e) h = ap content_of (of-kind-3 k b e) ∙ twos_back 64 b (small k b 8 (long-8 k e) h)
content-back k b (float e) h =
    let l : b < 2 ^ 32 = small k b 4 (float-4 k e) h in
    ap content_of (of-kind-4 k b e) ∙ ap (λ (x : ℕ). content_of (float_of x)) (mod-eq_of_lt l) ∙ float-content b l
content-back k b (double e) h = ap content_of (of-kind-5 k b e) ∙ double-content b (small k b 8 (double-8 k e) h)
content-back k b (short l m) h =
    let n : b < 2 ^ 32 = small k b 4 (short-4 k l m) h in
    ap content_of (short-is k b l m) ∙ ap (λ (x : ℕ). content_of (time_of k (of_twos 32 x))) (mod-eq_of_lt n) ∙ time-content k (of_twos 32 b)
    ∙ ap (λ (t : Bool). to_twos (when t then 32 else 64) (of_twos 32 b)) (lt-ltb k 0x12 m) ∙ twos_back 32 b n
content-back k b (wide l m) h =
    ap content_of (of-long-time k b l) ∙ time-content k (of_twos 64 b)
    ∙ ap (λ (t : Bool). to_twos (when t then 32 else 64) (of_twos 64 b)) (le-ltb k 0x12 l) ∙ twos_back 64 b (small k b 8 (wide-8 k l) h)

-- ---- a Long as an Int

pub long-as-int : (b : ℕ) → b < 2 ^ 64 → int_cast (Long (of_twos 64 b)) ≡ (when in_int b then Ok (Int (of_twos 32 (int_of_long b))) else Err OutOfRange)
unfolding narrowed
long-as-int b h = ap (λ (x : ℕ). int_of (narrowed x)) (twos_back 64 b h) ∙ go (in_int b)
  where
    go : (t : Bool) → int_of (when t then Some (int_of_long b) else None) ≡ (when t then Ok (Int (of_twos 32 (int_of_long b))) else Err OutOfRange)
    go true = refl
    go false = refl

-- ---- what is neither an Int nor a Long

abbrev Others : Scalar → Type 0
Others s = (int_cast s ≡ Err Unsuited) × (long_cast s ≡ Err Unsuited) × ((k : ℕ) → time_cast k s ≡ keep k s)

pub others : (s : Scalar) → (kind_of s ≡ 0x02 → ⊥) → (kind_of s ≡ 0x03 → ⊥) → Others s
others (Int z) f g = absurd (f refl)
others (Long z) f g = absurd (g refl)
others (Float x) f g = (refl, refl, λ k. refl)
others (FloatNan b) f g = (refl, refl, λ k. refl)
others (Double x) f g = (refl, refl, λ k. refl)
others (DoubleNan b) f g = (refl, refl, λ k. refl)
others (Date z) f g = (refl, refl, λ k. refl)
others (TimeMillis z) f g = (refl, refl, λ k. refl)
others (TimeMicros z) f g = (refl, refl, λ k. refl)
others (TimestampMillis z) f g = (refl, refl, λ k. refl)
others (TimestampMicros z) f g = (refl, refl, λ k. refl)
others (TimestampNanos z) f g = (refl, refl, λ k. refl)
others (LocalTimestampMillis z) f g = (refl, refl, λ k. refl)
others (LocalTimestampMicros z) f g = (refl, refl, λ k. refl)
others (LocalTimestampNanos z) f g = (refl, refl, λ k. refl)
