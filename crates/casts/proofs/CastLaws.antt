-- A node that holds a number or a time, read as a scalar; and the conversions of scalars as the resolve_ functions that they serve.
use Prim.Native.Nat.{ℕ, ◌+◌, ◌%◌, ◌^◌, ◌≤◌, ◌<◌}
use mathlib.Core.Path.{◌≡◌, refl, sym, ap, ◌∙◌, subst}
use mathlib.Core.List.{List, ◌∷◌}
use mathlib.Core.Option.{none, some}
use mathlib.Core.Bool.{Bool, true, false, ◌||◌, true≢false}
use native.Mathlib.Nat.{mod-eq_of_lt}
use native.Mathlib.Omega.{arith}
use borrow.Author.Tests.{eq-eqb, ne_eqb, lt-ltb, le-ltb, le-leb, eqb-true, eqb-false, ltb-true, ltb-false}
use lib.Dec.{T, eqb, ltb}
use lib.IntN.{ℤ}
use lib.ListN.{length, get_or, drop}
use Rattle.std.specs.Prelude as std
use Rattle.std.specs.Prelude.{Ok, Err}
use Rattle.base.specs.Base.{when◌then◌else◌, ok, stop}
use Rattle.base.specs.declared.refusal.Refusal.{Refusal}
use Rattle.number.specs.Number.{all_bytes, number_at, bytes_of}
use Rattle.number.proofs.Laws.{number_at-<, bytes_of_mod}
use Rattle.text.specs.Read.{Read}
use Rattle.text.specs.Measured.{Reads}
use Rattle.rounding.specs.Rounding.{of_twos, to_twos}
use Rattle.scalar.specs.Conversion.{long_of_int, in_int, int_of_long}
use Rattle.scalar.specs.Scalars
use Rattle.scalar.specs.Scalars.{time_of, of_content, is_scalar, is_short, width_of, content_of, int_cast, long_cast, keep, time_cast, refusal_of}
use Rattle.scalar.specs.declared.Scalar.{Scalar}
use Rattle.scalar.specs.declared.Scalar.TheVariants.{Int, Long, Float, FloatNan, Double, DoubleNan, Date, TimeMillis, TimeMicros, TimestampMillis, TimestampMicros, TimestampNanos, LocalTimestampMillis, LocalTimestampMicros, LocalTimestampNanos}
use Rattle.scalar.specs.declared.CastError.{CastError}
use Rattle.scalar.specs.declared.CastError.TheVariants.{Unsuited, OutOfRange}
use Rattle.scalar.proofs.Contents.{of-kind-2, of-kind-3, int-long}
use Rattle.scalar.proofs.Times.{twos_back, time-content}
use Rattle.scalar.proofs.Bounds.{int_of_long-<}
use Rattle.scalar.proofs.Casts.{ScalarKind, int, long, float, double, short, wide, scalar-kind, time-back, kind-back, content-back, int-4, long-8, float-4, double-8, short-4, wide-8, long-as-int, others}
use Rattle.frame.specs.Kind
use Rattle.frame.specs.Tree.{Value, kind_of, number}
use Rattle.frame.specs.ValueFrame
use Rattle.frame.specs.ValueFrame.{contents, kind_content, read_value, encode_value}
use Rattle.frame.proofs.Reading.{read-what}
use Rattle.buffer.specs.Built.{Built, Wrote}
use Rattle.types.specs.Types.{Outcome, resolve_int, resolve_long, resolve_int_time, resolve_long_time, resolve_plain}
use Rattle.types.specs.Contract.{encoded, on_read, value_of, scalar_of, cast_outcome}
use Rattle.types.proofs.Contents.{int-content, long-content, float-content, double-content, short-time-content, long-time-content}
use Rattle.types.proofs.NodeLaws.{wide-node, encode-wide, wrote-ok, wrote-stop}
use Rattle.types.proofs.ScalarLaws.{int-refused, long-refused, int-time-refused, long-time-refused, plain-int-time, plain-long-time}

-- ---- the width of a kind

pub scalar-content : (k : ℕ) → ScalarKind k → kind_content k ≡ ValueFrame.wide (width_of k)
scalar-content k (int e) = ap kind_content e ∙ int-content ∙ ap ValueFrame.wide (sym (int-4 k e))
scalar-content k (long e) = ap kind_content e ∙ long-content ∙ ap ValueFrame.wide (sym (long-8 k e))
scalar-content k (float e) = ap kind_content e ∙ float-content ∙ ap ValueFrame.wide (sym (float-4 k e))
scalar-content k (double e) = ap kind_content e ∙ double-content ∙ ap ValueFrame.wide (sym (double-8 k e))
scalar-content k (short l h) = short-time-content k l (omega arith) ∙ ap ValueFrame.wide (sym (short-4 k l h))
scalar-content k (wide l h) = long-time-content k l h ∙ ap ValueFrame.wide (sym (wide-8 k l))

kind-content : (s : Scalar) → kind_content (Scalars.kind_of s) ≡ ValueFrame.wide (width_of (Scalars.kind_of s))
unfolding contents is_short
kind-content (Int z) = refl
kind-content (Long z) = refl
kind-content (Float x) = refl
kind-content (FloatNan b) = refl
kind-content (Double x) = refl
kind-content (DoubleNan b) = refl
kind-content (Date z) = refl
kind-content (TimeMillis z) = refl
kind-content (TimeMicros z) = refl
kind-content (TimestampMillis z) = refl
kind-content (TimestampMicros z) = refl
kind-content (TimestampNanos z) = refl
kind-content (LocalTimestampMillis z) = refl
kind-content (LocalTimestampMicros z) = refl
kind-content (LocalTimestampNanos z) = refl

-- ---- a scalar's node

module _ (s : Scalar) (k n : ℕ) (e : k ≡ Scalars.kind_of s) (f : n ≡ content_of s) where
  node-is : encode_value (value_of s) ≡ k ∷ bytes_of (width_of k) n
  unfolding value_of
  node-is =
      encode-wide (Scalars.kind_of s) (width_of (Scalars.kind_of s)) (content_of s) (kind-content s)
      ∙ ap (λ (x : ℕ). x ∷ bytes_of (width_of x) (content_of s)) (sym e) ∙ ap (λ (x : ℕ). k ∷ bytes_of (width_of k) x) (sym f)

  pub short-node : is_short k ≡ true → (o : List ℕ) (r : ℕ) → Built (k ∷ bytes_of 4 (n % 2 ^ 32)) o r → Built (encode_value (value_of s)) o r
  short-node h o r b =
      subst (λ (x : List ℕ). Built x o r)
      (ap (λ (x : List ℕ). k ∷ x) (bytes_of_mod 4 4 n (omega arith)) ∙ ap (λ (t : Bool). k ∷ bytes_of (when t then 4 else 8) n) (sym h) ∙ sym node-is) b

  pub wide-node-8 : is_short k ≡ false → (o : List ℕ) (r : ℕ) → Built (k ∷ bytes_of 8 n) o r → Built (encode_value (value_of s)) o r
  wide-node-8 h o r b =
      subst (λ (x : List ℕ). Built x o r) (ap (λ (t : Bool). k ∷ bytes_of (when t then 4 else 8) n) (sym h) ∙ sym node-is) b

-- what a conversion gave, written
pub cast-to : (s : Scalar) (o : List ℕ) (n : ℕ) → Built (encode_value (value_of s)) o n → Wrote (encoded (cast_outcome (Ok s))) o (Ok n)
unfolding encoded cast_outcome
cast-to s o n b = wrote-ok _ _ o n refl b

pub cast-refused : (e : CastError) (o : List ℕ) → Wrote (encoded (cast_outcome (Err e))) o (Err (refusal_of e))
unfolding encoded cast_outcome
cast-refused Unsuited o = wrote-stop _ o (refusal_of Unsuited) refl
cast-refused OutOfRange o = wrote-stop _ o (refusal_of OutOfRange) refl

-- ---- a node that was read

module _ (d : ℕ) (s : List ℕ) (p : Reads (read_value d s)) (h : is_scalar (get_or s 0 0) ≡ true) where
  abbrev pub kind_at : ℕ
  kind_at = get_or s 0 0

  abbrev pub number_of : ℕ
  number_of = number_at s 1 (width_of kind_at)

  pub scalar-node : (1 + width_of kind_at ≤ length s) × (read_value d s ≡ some (Value.Scalar kind_at number_of, drop (1 + width_of kind_at) s))
  scalar-node = wide-node d s p kind_at (width_of kind_at) (scalar-content kind_at (scalar-kind kind_at h)) refl

  pub node-width : (t : Bool) → is_short kind_at ≡ t → 1 + (when t then 4 else 8) ≤ length s
  node-width t e = subst (λ (x : Bool). 1 + (when x then 4 else 8) ≤ length s) e scalar-node.0

  -- the scalar of the value that was read
  pub scalar_read : (t : Bool) → is_short kind_at ≡ t → (n : ℕ) → n ≡ number_at s 1 (when t then 4 else 8)
      → (w : Value) (u : List ℕ) → read_value d s ≡ some (w, u) → of_content kind_at n ≡ scalar_of w
  unfolding scalar_of kind_of number
  scalar_read t e n f w u r =
      ap (of_content kind_at) (f ∙ ap (λ (x : Bool). number_at s 1 (when x then 4 else 8)) (sym e))
      ∙ ap scalar_of (read-what (sym scalar-node.1 ∙ r))

  module _ (b : T (all_bytes s)) (f : Value → Outcome) (g : Scalar → std.Result Scalar CastError)
      (law : (k n : ℕ) → ScalarKind k → n < 256 ^ width_of k → cast_outcome (g (of_content k n)) ≡ f (Value.Scalar k n)) where
    -- a conversion of the node's scalar is the function's outcome
    pub cast-outcome : (x : Scalar) (c : std.Result Scalar CastError) → ((w : Value) (u : List ℕ) → read_value d s ≡ some (w, u) → x ≡ scalar_of w) → c ≡ g x
        → (w : Value) (u : List ℕ) → read_value d s ≡ some (w, u) → cast_outcome c ≡ f w
    unfolding scalar_of kind_of number
    cast-outcome x c q i w u r =
        let j : x ≡ of_content kind_at number_of = q _ _ scalar-node.1 in
        ap cast_outcome (i ∙ ap g j) ∙ law kind_at number_of (scalar-kind kind_at h) (number_at-< s 1 (width_of kind_at) scalar-node.0 b)
        ∙ ap f (read-what (sym scalar-node.1 ∙ r))

-- an outcome that is known of the value that was read, answered
pub read_answer : (d : ℕ) (s : List ℕ) (f : Value → Outcome) (c : std.Result Scalar CastError) (o : List ℕ) (a : std.Result ℕ Refusal) → Reads (read_value d s)
    → ((w : Value) (u : List ℕ) → read_value d s ≡ some (w, u) → cast_outcome c ≡ f w) → Wrote (encoded (cast_outcome c)) o a
    → Wrote (on_read (λ w. encoded (f w)) (read_value d s)) o a
unfolding on_read Reads
read_answer d s f c o a p h k =
    subst (λ z. Wrote z o a) (ap encoded (h p.0 p.1.0 p.1.1) ∙ sym (ap (on_read (λ w. encoded (f w))) p.1.1)) k

-- ---- a kind that is no scalar's

module _ (k : ℕ) (h : is_scalar k ≡ false) where
  no-int : k ≡ 2 → ⊥
  unfolding is_scalar
  no-int e = true≢false (sym (ap is_scalar e) ∙ h)

  no-long : k ≡ 3 → ⊥
  unfolding is_scalar
  no-long e = true≢false (sym (ap is_scalar e) ∙ h)

  no-time : (j : ℕ) → 0x10 ≤ j → j ≤ 0x18 → k ≡ j → ⊥
  unfolding is_scalar
  no-time j a b e = true≢false (sym (rw (le-ltb j 6 (omega arith), le-ltb j 0x10 a, le-leb j 0x18 b) refl) ∙ sym (ap is_scalar e) ∙ h)

  pub int-other : (w : Value) → kind_of w ≡ k → resolve_int w ≡ stop 6
  int-other = int-refused k no-int no-long

  pub long-other : (w : Value) → kind_of w ≡ k → resolve_long w ≡ stop 6
  long-other = long-refused k no-int no-long

  pub time-other : (j : ℕ) → 0x10 ≤ j → j ≤ 0x18 → (w : Value) → kind_of w ≡ k → resolve_plain j w ≡ stop 6
  time-other j a b w e = go (ltb j 0x12) refl
    where
      go : (t : Bool) → ltb j 0x12 ≡ t → resolve_plain j w ≡ stop 6
      go true q = plain-int-time j a (let l = ltb-true j 0x12 q in omega arith) w ∙ int-time-refused j k (no-time j a b) no-int w e
      go false q = plain-long-time j (ltb-false j 0x12 q) w ∙ long-time-refused j k (no-time j a b) no-long no-int w e

-- ---- the conversions

-- a scalar of kind k and content n, as a value
value_is : (k n : ℕ) → ScalarKind k → n < 256 ^ width_of k → value_of (of_content k n) ≡ Value.Scalar k n
unfolding value_of
value_is k n t h = ap (λ (x : ℕ). Value.Scalar x (content_of (of_content k n))) (kind-back k n t) ∙ ap (Value.Scalar k) (content-back k n t h)

-- what is of the wished kind already
kept : (f : Value → Outcome) (k n : ℕ) → ScalarKind k → n < 256 ^ width_of k → (c : std.Result Scalar CastError) → c ≡ Ok (of_content k n) → f (Value.Scalar k n) ≡ ok (Value.Scalar k n) → cast_outcome c ≡ f (Value.Scalar k n)
unfolding cast_outcome
kept f k n t h c e g = ap cast_outcome e ∙ ap ok (value_is k n t h) ∙ sym g

module _ (k n : ℕ) (t : ScalarKind k) (f : k ≡ 0x02 → ⊥) (g : k ≡ 0x03 → ⊥) where
  neither : (int_cast (of_content k n) ≡ Err Unsuited) × (long_cast (of_content k n) ≡ Err Unsuited) × ((j : ℕ) → time_cast j (of_content k n) ≡ keep j (of_content k n))
  neither = others (of_content k n) (λ e. f (sym (kind-back k n t) ∙ e)) (λ e. g (sym (kind-back k n t) ∙ e))

  no-int-cast : cast_outcome (int_cast (of_content k n)) ≡ resolve_int (Value.Scalar k n)
  unfolding cast_outcome kind_of
  no-int-cast = ap cast_outcome neither.0 ∙ sym (int-refused k f g (Value.Scalar k n) refl)

  no-long-cast : cast_outcome (long_cast (of_content k n)) ≡ resolve_long (Value.Scalar k n)
  unfolding cast_outcome kind_of
  no-long-cast = ap cast_outcome neither.1 ∙ sym (long-refused k f g (Value.Scalar k n) refl)

-- as an Int
int-stays : (k n : ℕ) → k ≡ 0x02 → resolve_int (Value.Scalar k n) ≡ ok (Value.Scalar k n)
unfolding resolve_int kind_of
int-stays k n e = rw (eq-eqb k 2 e) refl

int-from-long : (k n : ℕ) → k ≡ 0x03 → resolve_int (Value.Scalar k n) ≡ (when in_int n then ok (Value.Scalar Kind.Int (int_of_long n)) else stop 7)
unfolding resolve_int kind_of number
int-from-long k n e = rw (ne_eqb k 2 (λ q. omega arith), eq-eqb k 3 e) refl

narrowed-outcome : (n : ℕ) → n < 2 ^ 64 → cast_outcome (int_cast (Long (of_twos 64 n))) ≡ (when in_int n then ok (Value.Scalar Kind.Int (int_of_long n)) else stop 7)
unfolding cast_outcome value_of
narrowed-outcome n h = ap cast_outcome (long-as-int n h) ∙ go (in_int n)
  where
    go : (t : Bool) → cast_outcome (when t then Ok (Int (of_twos 32 (int_of_long n))) else Err OutOfRange) ≡ (when t then ok (Value.Scalar Kind.Int (int_of_long n)) else stop 7)
    go true = ap (λ (x : ℕ). ok (Value.Scalar Kind.Int x)) (twos_back 32 (int_of_long n) (int_of_long-< n))
    go false = refl

pub int-cast : (k n : ℕ) → ScalarKind k → n < 256 ^ width_of k → cast_outcome (int_cast (of_content k n)) ≡ resolve_int (Value.Scalar k n)
int-cast k n (int e) h = kept resolve_int k n (int e) h _ (ap int_cast (of-kind-2 k n e) ∙ sym (ap Ok (of-kind-2 k n e))) (int-stays k n e)
int-cast k n (long e) h =
    ap (λ (s : Scalar). cast_outcome (int_cast s)) (of-kind-3 k n e) ∙ narrowed-outcome n (subst (λ (x : ℕ). n < 256 ^ x) (long-8 k e) h) ∙ sym (int-from-long k n e)
int-cast k n (float e) h = no-int-cast k n (float e) (λ q. omega arith) (λ q. omega arith)
int-cast k n (double e) h = no-int-cast k n (double e) (λ q. omega arith) (λ q. omega arith)
int-cast k n (short l m) h = no-int-cast k n (short l m) (λ q. omega arith) (λ q. omega arith)
int-cast k n (wide l m) h = no-int-cast k n (wide l m) (λ q. omega arith) (λ q. omega arith)

-- as a Long
int-read : (k n : ℕ) → k ≡ 0x02 → n < 256 ^ width_of k → of_content k n ≡ Int (of_twos 32 n)
int-read k n e h = of-kind-2 k n e ∙ ap (λ (x : ℕ). Int (of_twos 32 x)) (mod-eq_of_lt (subst (λ (x : ℕ). n < 256 ^ x) (int-4 k e) h))

long-stays : (k n : ℕ) → k ≡ 0x03 → resolve_long (Value.Scalar k n) ≡ ok (Value.Scalar k n)
unfolding resolve_long kind_of
long-stays k n e = rw (ne_eqb k 2 (λ q. omega arith), eq-eqb k 3 e) refl

long-from-int : (k n : ℕ) → k ≡ 0x02 → resolve_long (Value.Scalar k n) ≡ ok (Value.Scalar Kind.Long (long_of_int n))
unfolding resolve_long kind_of number
long-from-int k n e = rw (eq-eqb k 2 e) refl

widened-outcome : (n : ℕ) → n < 2 ^ 32 → cast_outcome (long_cast (Int (of_twos 32 n))) ≡ ok (Value.Scalar Kind.Long (long_of_int n))
unfolding cast_outcome value_of
widened-outcome n h = ap (λ (x : ℕ). ok (Value.Scalar Kind.Long x)) (int-long n h)

pub long-cast : (k n : ℕ) → ScalarKind k → n < 256 ^ width_of k → cast_outcome (long_cast (of_content k n)) ≡ resolve_long (Value.Scalar k n)
long-cast k n (int e) h =
    ap (λ (s : Scalar). cast_outcome (long_cast s)) (int-read k n e h) ∙ widened-outcome n (subst (λ (x : ℕ). n < 256 ^ x) (int-4 k e) h) ∙ sym (long-from-int k n e)
long-cast k n (long e) h = kept resolve_long k n (long e) h _ (ap long_cast (of-kind-3 k n e) ∙ sym (ap Ok (of-kind-3 k n e))) (long-stays k n e)
long-cast k n (float e) h = no-long-cast k n (float e) (λ q. omega arith) (λ q. omega arith)
long-cast k n (double e) h = no-long-cast k n (double e) (λ q. omega arith) (λ q. omega arith)
long-cast k n (short l m) h = no-long-cast k n (short l m) (λ q. omega arith) (λ q. omega arith)
long-cast k n (wide l m) h = no-long-cast k n (wide l m) (λ q. omega arith) (λ q. omega arith)

-- as a time of kind j
module _ (j : ℕ) (a : 0x10 ≤ j) (b : j ≤ 0x18) where
  time-made : (z : ℤ) (m : ℕ) → to_twos (when ltb j 0x12 then 32 else 64) z ≡ m → cast_outcome (Ok (time_of j z)) ≡ ok (Value.Scalar j m)
  unfolding cast_outcome value_of
  time-made z m e =
      ap (λ (x : ℕ). ok (Value.Scalar x (content_of (time_of j z)))) (time-back j z a b) ∙ ap (λ (x : ℕ). ok (Value.Scalar j x)) (time-content j z ∙ e)

  time-kept : (k n : ℕ) → ScalarKind k → n < 256 ^ width_of k → cast_outcome (keep j (of_content k n)) ≡ (when eqb k j then ok (Value.Scalar j n) else stop 6)
  unfolding cast_outcome
  time-kept k n t h = ap (λ (x : ℕ). cast_outcome (when eqb x j then Ok (of_content k n) else Err Unsuited)) (kind-back k n t) ∙ go (eqb k j) refl
    where
      go : (x : Bool) → eqb k j ≡ x → cast_outcome (when x then Ok (of_content k n) else Err Unsuited) ≡ (when x then ok (Value.Scalar j n) else stop 6)
      go true e = ap ok (value_is k n t h) ∙ ap (λ (x : ℕ). ok (Value.Scalar x n)) (eqb-true k j e)
      go false e = refl

  module _ (k n : ℕ) (t : ScalarKind k) (h : n < 256 ^ width_of k) where
    -- the kinds of 4 bytes
    module _ (s : j < 0x12) where
      short-from-int : k ≡ 0x02 → cast_outcome (time_cast j (of_content k n)) ≡ resolve_int_time j (Value.Scalar k n)
      unfolding resolve_int_time kind_of number
      short-from-int e =
          ap (λ (x : Scalar). cast_outcome (time_cast j x)) (int-read k n e h)
          ∙ time-made (of_twos 32 n) n (ap (λ (x : Bool). to_twos (when x then 32 else 64) (of_twos 32 n)) (lt-ltb j 0x12 s) ∙ twos_back 32 n (subst (λ (x : ℕ). n < 256 ^ x) (int-4 k e) h))
          ∙ sym (rw (ne_eqb k j (λ q. omega arith), eq-eqb k 2 e) refl)

      short-from-long : k ≡ 0x03 → cast_outcome (time_cast j (of_content k n)) ≡ resolve_int_time j (Value.Scalar k n)
      unfolding cast_outcome kind_of
      short-from-long e =
          ap (λ (x : Scalar). cast_outcome (time_cast j x)) (of-kind-3 k n e)
          ∙ ap (λ (x : Bool). cast_outcome (when x then Err Unsuited else Ok (time_of j (of_twos 64 n)))) (lt-ltb j 0x12 s)
          ∙ sym (int-time-refused j k (λ q. omega arith) (λ q. omega arith) (Value.Scalar k n) refl)

      short-from-other : (k ≡ 0x02 → ⊥) → (k ≡ 0x03 → ⊥) → cast_outcome (time_cast j (of_content k n)) ≡ resolve_int_time j (Value.Scalar k n)
      unfolding resolve_int_time kind_of number
      short-from-other f g = ap cast_outcome ((neither k n t f g).2 j) ∙ time-kept k n t h ∙ go (eqb k j) ∙ sym (rw (ne_eqb k 2 f) refl)
        where
          go : (x : Bool) → (when x then ok (Value.Scalar j n) else stop 6) ≡ (when x || false then ok (Value.Scalar j n) else stop 6)
          go true = refl
          go false = refl

    -- the kinds of 8 bytes
    module _ (s : 0x12 ≤ j) where
      wide-from-int : k ≡ 0x02 → cast_outcome (time_cast j (of_content k n)) ≡ resolve_long_time j (Value.Scalar k n)
      unfolding resolve_long_time kind_of number
      wide-from-int e =
          ap (λ (x : Scalar). cast_outcome (time_cast j x)) (int-read k n e h)
          ∙ time-made (of_twos 32 n) (long_of_int n) (ap (λ (x : Bool). to_twos (when x then 32 else 64) (of_twos 32 n)) (le-ltb j 0x12 s) ∙ int-long n (subst (λ (x : ℕ). n < 256 ^ x) (int-4 k e) h))
          ∙ sym (rw (ne_eqb k j (λ q. omega arith), ne_eqb k 3 (λ q. omega arith), eq-eqb k 2 e) refl)

      wide-from-long : k ≡ 0x03 → cast_outcome (time_cast j (of_content k n)) ≡ resolve_long_time j (Value.Scalar k n)
      unfolding resolve_long_time kind_of number
      wide-from-long e =
          ap (λ (x : Scalar). cast_outcome (time_cast j x)) (of-kind-3 k n e)
          ∙ ap (λ (x : Bool). cast_outcome (when x then Err Unsuited else Ok (time_of j (of_twos 64 n)))) (le-ltb j 0x12 s)
          ∙ time-made (of_twos 64 n) n (ap (λ (x : Bool). to_twos (when x then 32 else 64) (of_twos 64 n)) (le-ltb j 0x12 s) ∙ twos_back 64 n (subst (λ (x : ℕ). n < 256 ^ x) (long-8 k e) h))
          ∙ sym (rw (ne_eqb k j (λ q. omega arith), eq-eqb k 3 e) refl)

      wide-from-other : (k ≡ 0x02 → ⊥) → (k ≡ 0x03 → ⊥) → cast_outcome (time_cast j (of_content k n)) ≡ resolve_long_time j (Value.Scalar k n)
      unfolding resolve_long_time kind_of number
      wide-from-other f g = ap cast_outcome ((neither k n t f g).2 j) ∙ time-kept k n t h ∙ go (eqb k j) ∙ sym (rw (ne_eqb k 3 g, ne_eqb k 2 f) refl)
        where
          go : (x : Bool) → (when x then ok (Value.Scalar j n) else stop 6) ≡ (when x || false then ok (Value.Scalar j n) else stop 6)
          go true = refl
          go false = refl

    from_each : ((k ≡ 0x02) → cast_outcome (time_cast j (of_content k n)) ≡ resolve_plain j (Value.Scalar k n)) → ((k ≡ 0x03) → cast_outcome (time_cast j (of_content k n)) ≡ resolve_plain j (Value.Scalar k n))
        → ((k ≡ 0x02 → ⊥) → (k ≡ 0x03 → ⊥) → cast_outcome (time_cast j (of_content k n)) ≡ resolve_plain j (Value.Scalar k n)) → cast_outcome (time_cast j (of_content k n)) ≡ resolve_plain j (Value.Scalar k n)
    from_each f g i = go (eqb k 2) (eqb k 3) refl refl
      where
        go : (x y : Bool) → eqb k 2 ≡ x → eqb k 3 ≡ y → cast_outcome (time_cast j (of_content k n)) ≡ resolve_plain j (Value.Scalar k n)
        go true y e q = f (eqb-true k 2 e)
        go false true e q = g (eqb-true k 3 q)
        go false false e q = i (eqb-false k 2 e) (eqb-false k 3 q)

  pub time-cast : (k n : ℕ) → ScalarKind k → n < 256 ^ width_of k → cast_outcome (time_cast j (of_content k n)) ≡ resolve_plain j (Value.Scalar k n)
  time-cast k n t h = go (ltb j 0x12) refl
    where
      go : (x : Bool) → ltb j 0x12 ≡ x → cast_outcome (time_cast j (of_content k n)) ≡ resolve_plain j (Value.Scalar k n)
      go true e =
          let s = ltb-true j 0x12 e in
          let p = sym (plain-int-time j a (omega arith) (Value.Scalar k n)) in
          from_each k n t h (λ q. short-from-int k n t h s q ∙ p) (λ q. short-from-long k n t h s q ∙ p) (λ f g. short-from-other k n t h s f g ∙ p)
      go false e =
          let s = ltb-false j 0x12 e in
          let p = sym (plain-long-time j s (Value.Scalar k n)) in
          from_each k n t h (λ q. wide-from-int k n t h s q ∙ p) (λ q. wide-from-long k n t h s q ∙ p) (λ f g. wide-from-other k n t h s f g ∙ p)

-- ---- a schema that is its kind alone

-- what f answers, at a kind that goes to f
pub plain-answered : (f : Value → Outcome) (j : ℕ) → ((w : Value) → resolve_plain j w ≡ f w) → (k : ℕ) → k ≡ j
    → (x : Read Value) (o : List ℕ) (a : std.Result ℕ Refusal) → Wrote (on_read (λ w. encoded (f w)) x) o a → Wrote (on_read (λ w. encoded (resolve_plain k w)) x) o a
unfolding on_read
plain-answered f j g k e none o a h = h
plain-answered f j g k e (some w) o a h = subst (λ z. Wrote (encoded z) o a) (sym (ap (λ (i : ℕ). resolve_plain i w.0) e ∙ g w.0)) h
