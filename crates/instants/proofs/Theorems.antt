-- What the entries over frames promise: on the frames of instants and Durations they are the entries by value, and any other kind gives 6.
use Prim.Native.Nat.{ℕ, suc, ◌+◌, ◌-◌, ◌^◌, ◌<◌}
use mathlib.Core.Path.{◌≡◌, refl, sym, ap, ◌∙◌, subst}
use mathlib.Core.List.{List, [], ◌∷◌}
use mathlib.Core.Bool.{Bool, true, false, ◌&&◌, ◌||◌, cond}
use native.Mathlib.Nat.{mod-eq_of_lt}
use native.Mathlib.Omega.{arith}
use lib.Dec.{T, eqb, leb, lt→ltb, le→leb}
use lib.IntN.{ℤ, pos, negsuc}
use lib.ListN.{length}
use lib.Signed.{mag}
use borrow.Author.Tests.{ne_eqb, eqb-true, le-ltb, lt-ltb, le-leb, leb-true}
use Rattle.base.specs.Base.{when◌then◌else◌, ok, stop, after}
use Rattle.rounding.specs.Rounding.{of_twos, to_twos}
use Rattle.number.specs.Number.{bytes_of}
use Rattle.duration.specs.Duration.{little_bytes, duration_of, duration_bytes}
use Rattle.duration.specs.declared.Duration.{Duration}
use Rattle.duration.proofs.RoundTrip.{length-duration_bytes, duration_of-duration_bytes}
use Rattle.scalar.specs.Scalars
use Rattle.scalar.specs.Scalars.{is_scalar, of_content, time_of}
use Rattle.scalar.specs.declared.Scalar.{Scalar}
use Rattle.scalar.specs.declared.Scalar.TheVariants.{Int, Long, Float, FloatNan, Double, DoubleNan, Date, TimeMillis, TimeMicros, TimestampMillis, TimestampMicros, TimestampNanos, LocalTimestampMillis, LocalTimestampMicros, LocalTimestampNanos}
use Rattle.scalar.proofs.Casts.{scalar-kind, kind-back}
use Rattle.frame.specs.Kind
use Rattle.frame.specs.Tree.{Value, kind_of, is, number, octets}
use Rattle.frame.specs.ValueFrame.{contents, write_scalar, write_octets, decode_value, encode_value}
use Rattle.frame.specs.Sound.{keys_rise, checked_value}
use Rattle.frame.proofs.RoundTrip.{held, scalar_held, octets_held, decode-encode}
use Rattle.buffer.specs.After.{checked_result}
use Rattle.types.specs.Contract.{value_of, scalar_of}
use Rattle.calendar.specs.Instants.{sum, is_instant, window_holds}
use Rattle.calendar.proofs.EntryLaws.{other-kind, mixed-close, mixed-instant}
use Rattle.calendar.proofs.Examples.{months, sum-january-2023, sum-january-2024}
use Rattle.instants.specs.Frames.{instant_in, duration_in, frame_sum, sum_for, held_for}
use Rattle.instants.proofs.AnswerLaws.{frame_of, frame-length, sum_for-to}

-- ---- an instant whose number its kind holds
pub data Instant : Scalar → Type 0 where
  date : {z : ℤ} → mag z < 2 ^ 31 → Instant (Date z)
  millis : {z : ℤ} → mag z < 2 ^ 63 → Instant (TimestampMillis z)
  micros : {z : ℤ} → mag z < 2 ^ 63 → Instant (TimestampMicros z)
  nanos : {z : ℤ} → mag z < 2 ^ 63 → Instant (TimestampNanos z)

-- its bits, over the width w with 2 ^ w = h + h
module _ (w h : ℕ) (two : 2 ^ w ≡ h + h) (half : 2 ^ (w - 1) ≡ h) where
  bits-< : (z : ℤ) → mag z < h → to_twos w z < 2 ^ w
  bits-< (pos n) f = omega arith
  bits-< (negsuc n) f = omega arith

  bits_back : (z : ℤ) → mag z < h → of_twos w (to_twos w z) ≡ z
  bits_back (pos n) f = ap (λ (t : Bool). cond t (pos n) (negsuc (2 ^ w - suc n))) (lt-ltb n (2 ^ (w - 1)) (omega arith))
  bits_back (negsuc n) f =
      let b = 2 ^ w - suc n in
      let e : 2 ^ w - suc b ≡ n = omega arith in
      ap (λ (t : Bool). cond t (pos b) (negsuc (2 ^ w - suc b))) (le-ltb b (2 ^ (w - 1)) (omega arith)) ∙ ap negsuc e

-- ---- the frame of an instant is read as that instant
pub record ReadsAs (s : Scalar) : Type 0 where
  pub checked : checked_value (decode_value (frame_of s)) ≡ ok (value_of s)
  pub instant : instant_in (value_of s) ≡ s

checked-frame : (k n : ℕ) → T (held (Value.Scalar k n) 16) → T (leb (length (encode_value (Value.Scalar k n))) 65535) → checked_value (decode_value (encode_value (Value.Scalar k n))) ≡ ok (Value.Scalar k n)
unfolding checked_value keys_rise
checked-frame k n h l = ap checked_value (decode-encode (Value.Scalar k n) h l)

frame-short : (s : Scalar) → T (leb (length (frame_of s)) 65535)
frame-short s = le→leb (length (frame_of s)) 65535 (omega (arith, frame-length s))

pub reads_as : {s : Scalar} → Instant s → ReadsAs s
unfolding value_of instant_in scalar_of kind_of number is_scalar of_content time_of held scalar_held contents
reads_as {s = Date z} (date f) =
    let b = bits-< 32 (2 ^ 31) refl refl z f in
    record {
      checked = checked-frame 0x10 (to_twos 32 z) (lt→ltb (to_twos 32 z) (256 ^ 4) b) (frame-short (Date z));
      instant = ap Date (ap (of_twos 32) (mod-eq_of_lt b) ∙ bits_back 32 (2 ^ 31) refl refl z f);
    }
reads_as {s = TimestampMillis z} (millis f) =
    record {
      checked = checked-frame 0x13 (to_twos 64 z) (lt→ltb (to_twos 64 z) (256 ^ 8) (bits-< 64 (2 ^ 63) refl refl z f)) (frame-short (TimestampMillis z));
      instant = ap TimestampMillis (bits_back 64 (2 ^ 63) refl refl z f);
    }
reads_as {s = TimestampMicros z} (micros f) =
    record {
      checked = checked-frame 0x14 (to_twos 64 z) (lt→ltb (to_twos 64 z) (256 ^ 8) (bits-< 64 (2 ^ 63) refl refl z f)) (frame-short (TimestampMicros z));
      instant = ap TimestampMicros (bits_back 64 (2 ^ 63) refl refl z f);
    }
reads_as {s = TimestampNanos z} (nanos f) =
    record {
      checked = checked-frame 0x15 (to_twos 64 z) (lt→ltb (to_twos 64 z) (256 ^ 8) (bits-< 64 (2 ^ 63) refl refl z f)) (frame-short (TimestampNanos z));
      instant = ap TimestampNanos (bits_back 64 (2 ^ 63) refl refl z f);
    }
reads_as {s = Int _} x'' = elim x'' [ ]
reads_as {s = Long _} x3 = elim x3 [ ]
reads_as {s = Float _} x4 = elim x4 [ ]
reads_as {s = FloatNan _} x5 = elim x5 [ ]
reads_as {s = Double _} x6 = elim x6 [ ]
reads_as {s = DoubleNan _} x7 = elim x7 [ ]
reads_as {s = TimeMillis _} x8 = elim x8 [ ]
reads_as {s = TimeMicros _} x9 = elim x9 [ ]
reads_as {s = LocalTimestampMillis _} x10 = elim x10 [ ]
reads_as {s = LocalTimestampMicros _} x11 = elim x11 [ ]
reads_as {s = LocalTimestampNanos _} x12 = elim x12 [ ]

-- ---- and that of a Duration as that Duration
pub record Parts (d : Duration) : Type 0 where
  pub months-< : d.months.0 < 2 ^ 32
  pub days-< : d.days.0 < 2 ^ 32
  pub millis-< : d.millis.0 < 2 ^ 32

abbrev duration_value : Duration → Value
duration_value d = Value.Octets Kind.Duration (duration_bytes d)

-- the frame of a Duration: its kind and its 12 bytes
abbrev pub duration_frame : Duration → List ℕ
duration_frame d = Kind.Duration ∷ duration_bytes d

duration-checked : (d : Duration) → checked_value (decode_value (duration_frame d)) ≡ ok (duration_value d)
unfolding checked_value keys_rise held octets_held contents encode_value write_octets
duration-checked d = ap checked_value (decode-encode (duration_value d) (subst (λ (n : ℕ). T (eqb n 12)) (sym (length-duration_bytes d)) tt) (le→leb (suc (length (duration_bytes d))) 65535 (omega (arith, length-duration_bytes d))))

duration-in : (d : Duration) → Parts d → duration_in (duration_value d) ≡ ok d
unfolding duration_in kind_of octets
duration-in d p = ap ok (duration_of-duration_bytes d p.months-< p.days-< p.millis-<)

-- ---- the entries over frames are the entries by value
pub frames-add : (s : Scalar) (d : Duration) → Instant s → Parts d → frame_sum (frame_of s) (duration_frame d) ≡ sum s d
unfolding frame_sum after
frames-add s d i p = rw ((reads_as i).checked, duration-checked d, duration-in d p) (ap (λ (x : Scalar). sum x d) (reads_as i).instant)

pub frames-hold : (o c m : Scalar) → Instant o → Instant c → Instant m → held_for (frame_of o) (frame_of c) (frame_of m) ≡ window_holds o c m
unfolding held_for after
frames-hold o c m i j k = rw ((reads_as i).checked, (reads_as j).checked, (reads_as k).checked) (cc ((reads_as i).instant, (reads_as j).instant, (reads_as k).instant))

-- ---- other kinds

-- what an instant's kind is in a value and as a scalar
kind-in : (v : Value) → is_scalar (kind_of v) ≡ true → Scalars.kind_of (instant_in v) ≡ kind_of v
unfolding instant_in scalar_of
kind-in v e = ap (λ (t : Bool). Scalars.kind_of (when t then scalar_of v else Int (pos 0))) e ∙ kind-back (kind_of v) (number v) (scalar-kind (kind_of v) e)

int-in : (v : Value) → is_scalar (kind_of v) ≡ false → Scalars.kind_of (instant_in v) ≡ 0x02
unfolding instant_in
int-in v e = ap (λ (t : Bool). Scalars.kind_of (when t then scalar_of v else Int (pos 0))) e

instant-scalar : (k : ℕ) → is_instant k ≡ true → is_scalar k ≡ true
unfolding is_scalar
instant-scalar k h = go (eqb k 0x10) (leb 0x13 k) (leb k 0x15) refl refl refl h
  where
    go : (a b c : Bool) → eqb k 0x10 ≡ a → leb 0x13 k ≡ b → leb k 0x15 ≡ c → (a || (b && c)) ≡ true → is_scalar k ≡ true
    go true b c p q r h = ap is_scalar (eqb-true k 0x10 p)
    go false true true p q r h =
        let l = leb-true 0x13 k q in
        let m = leb-true k 0x15 r in
        rw (le-ltb k 6 (omega arith), le-ltb k 0x10 (omega arith)) (le-leb k 0x18 (omega arith))
    go false true false p q r h = let z : ◌≡◌ {A = ℕ} 0 1 = cc in absurd (omega arith)
    go false false c p q r h = let z : ◌≡◌ {A = ℕ} 0 1 = cc in absurd (omega arith)

-- no sum of a scalar that is no instant
no-sum : (s : Scalar) (d : Duration) → is_instant (Scalars.kind_of s) ≡ false → sum s d ≡ stop 6
no-sum (Int z) d h = refl
no-sum (Long z) d h = refl
no-sum (Float x) d h = refl
no-sum (FloatNan b) d h = refl
no-sum (Double x) d h = refl
no-sum (DoubleNan b) d h = refl
no-sum (Date z) d h = let x : ◌≡◌ {A = ℕ} 0 1 = cc in absurd (omega arith)
no-sum (TimeMillis z) d h = refl
no-sum (TimeMicros z) d h = refl
no-sum (TimestampMillis z) d h = let x : ◌≡◌ {A = ℕ} 0 1 = cc in absurd (omega arith)
no-sum (TimestampMicros z) d h = let x : ◌≡◌ {A = ℕ} 0 1 = cc in absurd (omega arith)
no-sum (TimestampNanos z) d h = let x : ◌≡◌ {A = ℕ} 0 1 = cc in absurd (omega arith)
no-sum (LocalTimestampMillis z) d h = refl
no-sum (LocalTimestampMicros z) d h = refl
no-sum (LocalTimestampNanos z) d h = refl

no-instant-in : (v : Value) → is_instant (kind_of v) ≡ false → is_instant (Scalars.kind_of (instant_in v)) ≡ false
no-instant-in v h = go (is_scalar (kind_of v)) refl
  where
    go : (t : Bool) → is_scalar (kind_of v) ≡ t → is_instant (Scalars.kind_of (instant_in v)) ≡ false
    go true e = ap is_instant (kind-in v e) ∙ h
    go false e = ap is_instant (int-in v e)

module _ (i d : List ℕ) (v w : Value) (p : checked_value (decode_value i) ≡ ok v) (q : checked_value (decode_value d) ≡ ok w) where
  pub sum-other-instant : is_instant (kind_of v) ≡ false → frame_sum i d ≡ stop 6
  unfolding frame_sum after duration_in
  sum-other-instant h = rw (p, q) (go (is Kind.Duration w))
    where
      go : (t : Bool) → after (when t then ok (duration_of (octets w)) else stop 6) (λ y. sum (instant_in v) y) ≡ stop 6
      go true = no-sum (instant_in v) (duration_of (octets w)) (no-instant-in v h)
      go false = refl

  pub sum-other-duration : (kind_of w ≡ Kind.Duration → ⊥) → frame_sum i d ≡ stop 6
  unfolding frame_sum after duration_in
  sum-other-duration h = rw (p, q) (ap (λ (t : Bool). after (when t then ok (duration_of (octets w)) else stop 6) (λ y. sum (instant_in v) y)) (ne_eqb (kind_of w) Kind.Duration h))

-- an instant's kind is no other's
same-kind-in : (v w : Value) → is_instant (kind_of w) ≡ true → Scalars.kind_of (instant_in v) ≡ Scalars.kind_of (instant_in w) → kind_of v ≡ kind_of w
same-kind-in v w h e = go (is_scalar (kind_of v)) refl
  where
    k : Scalars.kind_of (instant_in w) ≡ kind_of w
    k = kind-in w (instant-scalar (kind_of w) h)

    go : (t : Bool) → is_scalar (kind_of v) ≡ t → kind_of v ≡ kind_of w
    go true s = sym (kind-in v s) ∙ e ∙ k
    go false s =
        let x : 0x02 ≡ kind_of w = sym (int-in v s) ∙ e ∙ k in
        let y : is_instant 0x02 ≡ true = ap is_instant x ∙ h in
        let z : ◌≡◌ {A = ℕ} 0 1 = cc in
        absurd (omega arith)

module _ (o c m : List ℕ) (x y z : Value) (p : checked_value (decode_value o) ≡ ok x) (q : checked_value (decode_value c) ≡ ok y) (r : checked_value (decode_value m) ≡ ok z) where
  all_read : held_for o c m ≡ window_holds (instant_in x) (instant_in y) (instant_in z)
  unfolding held_for after
  all_read = rw (p, q, r) refl

  pub held-other : is_instant (kind_of x) ≡ false → held_for o c m ≡ stop 6
  held-other h = all_read ∙ other-kind (instant_in x) (instant_in y) (instant_in z) (no-instant-in x h)

  pub held-mixed-closing : is_instant (kind_of x) ≡ true → (kind_of y ≡ kind_of x → ⊥) → held_for o c m ≡ stop 6
  held-mixed-closing i h = all_read ∙ mixed-close (instant_in x) (instant_in y) (instant_in z) (λ e. h (same-kind-in y x i e))

  pub held-mixed-instant : is_instant (kind_of x) ≡ true → (kind_of z ≡ kind_of x → ⊥) → held_for o c m ≡ stop 6
  held-mixed-instant i h = all_read ∙ mixed-instant (instant_in x) (instant_in y) (instant_in z) (λ e. h (same-kind-in z x i e))

-- ---- the two examples of Q-9, as frames: 31 January and one month

abbrev pub a-month : List ℕ
a-month = 0x19 ∷ 1 ∷ 0 ∷ 0 ∷ 0 ∷ 0 ∷ 0 ∷ 0 ∷ 0 ∷ 0 ∷ 0 ∷ 0 ∷ 0 ∷ []

-- a Date that becomes another
month-on : (n m : ℕ) → n < 2 ^ 31 → sum (Date (pos n)) (months 1) ≡ ok (Date (pos m)) → sum_for (frame_of (Date (pos n))) (duration_frame (months 1)) 9 ≡ checked_result 9 (frame_of (Date (pos m)))
month-on n m h e =
    sum_for-to (frame_of (Date (pos n))) (duration_frame (months 1)) 9 (Date (pos m))
    (frames-add (Date (pos n)) (months 1) (date h) (record { months-< = omega arith; days-< = omega arith; millis-< = omega arith }) ∙ e)

pub january-2023-frames : sum_for (0x10 ∷ 0 ∷ 0 ∷ 0x4b ∷ 0xbc ∷ []) a-month 9 ≡ ok (0x10 ∷ 0 ∷ 0 ∷ 0x4b ∷ 0xd8 ∷ [])
unfolding encode_value value_of write_scalar contents bytes_of duration_bytes little_bytes checked_result
january-2023-frames = month-on 19388 19416 (omega arith) sum-january-2023

pub january-2024-frames : sum_for (0x10 ∷ 0 ∷ 0 ∷ 0x4d ∷ 0x29 ∷ []) a-month 9 ≡ ok (0x10 ∷ 0 ∷ 0 ∷ 0x4d ∷ 0x46 ∷ [])
unfolding encode_value value_of write_scalar contents bytes_of duration_bytes little_bytes checked_result
january-2024-frames = month-on 19753 19782 (omega arith) sum-january-2024
