-- What stops a leaf, by the rules' numbers: 6, 7, 8, 9, 10, 11, and 12 and 13 before the value is looked at, 14, 15.
use Prim.Native.Nat.{ℕ, ◌≤◌, ◌<◌}
use mathlib.Core.Path.{◌≡◌, refl}
use mathlib.Core.List.{List}
use mathlib.Core.Option.{Option, none, some}
use mathlib.Core.Bool.{true, false}
use borrow.Author.Tests.{eq-eqb, ne_eqb, lt-ltb, le-ltb, lt-leb}
use lib.ListN.{length}
use Rattle.base.specs.Base.{ok, stop, after}
use Rattle.text.specs.Text.{Text}
use Rattle.decimal.specs.Decimal.{too_short_for}
use Rattle.uuid_text.specs.Uuid.{uuid_of_text}
use Rattle.scalar.specs.Conversion.{in_int, int_of_long}
use Rattle.frame.specs.Kind
use Rattle.frame.specs.Tree.{Value, Schema, UuidForm, kind_of, number, octets, peel}
use Rattle.types.specs.Types.{resolve_int, resolve_plain, in_byte, int_byte, try_u8, resolve_fixed, resolve_duration, resolve_uuid, uuid_of_bytes, parsed_uuid, fixed_too_short, resolve_decimal, position, enum_at, or_default, resolve_enum}
use Rattle.avro.specs.Resolve.{resolve}

-- ---- 7: a Long outside Int; inside it is that Int

pub long-outside : (n : ℕ) → in_int n ≡ false → resolve (Schema.Plain Kind.Int) (Value.Scalar Kind.Long n) ≡ stop 7
unfolding resolve resolve_plain resolve_int kind_of number peel
long-outside n h = rw h refl

pub long-inside : (n : ℕ) → in_int n ≡ true → resolve (Schema.Plain Kind.Int) (Value.Scalar Kind.Long n) ≡ ok (Value.Scalar Kind.Int (int_of_long n))
unfolding resolve resolve_plain resolve_int kind_of number peel
long-inside n h = rw h refl

-- ---- 8: an Int meant as a byte

pub byte-outside : (n : ℕ) → 255 < n → try_u8 (Value.Scalar Kind.Int n) ≡ stop 8
unfolding try_u8 int_byte in_byte resolve_int kind_of number peel after
byte-outside n h = rw (lt-leb n 255 h) refl

-- ---- 10 and 11: sizes

pub fixed-size : (size : ℕ) (b : List ℕ) → (length b ≡ size → ⊥) → resolve (Schema.Fixed size) (Value.Octets Kind.Fixed b) ≡ stop 10
unfolding resolve resolve_fixed kind_of octets peel
fixed-size size b h = rw (ne_eqb (length b) size h) refl

pub fixed_kept : (size : ℕ) (b : List ℕ) → length b ≡ size → resolve (Schema.Fixed size) (Value.Octets Kind.Fixed b) ≡ ok (Value.Octets Kind.Fixed b)
unfolding resolve resolve_fixed kind_of octets peel
fixed_kept size b h = rw (eq-eqb (length b) size h) refl

pub duration_size : (size : ℕ) (b : List ℕ) → (length b ≡ 12 → ⊥) → resolve (Schema.Duration size) (Value.Octets Kind.Fixed b) ≡ stop 10
unfolding resolve resolve_duration kind_of octets peel
duration_size size b h = rw (ne_eqb (length b) 12 h) refl

pub duration-made : (size : ℕ) (b : List ℕ) → length b ≡ 12 → resolve (Schema.Duration size) (Value.Octets Kind.Fixed b) ≡ ok (Value.Octets Kind.Duration b)
unfolding resolve resolve_duration kind_of octets peel
duration-made size b h = rw (eq-eqb (length b) 12 h) refl

pub uuid-fixed-size : (size : ℕ) (b : List ℕ) → (length b ≡ 16 → ⊥) → resolve (Schema.Uuid (UuidForm.fixed size)) (Value.Octets Kind.Fixed b) ≡ stop 10
unfolding resolve resolve_uuid uuid_of_bytes kind_of octets peel
uuid-fixed-size size b h = rw (ne_eqb (length b) 16 h) refl

pub uuid-bytes-size : (b : List ℕ) → (length b ≡ 16 → ⊥) → resolve (Schema.Uuid UuidForm.bytes) (Value.Octets Kind.Bytes b) ≡ stop 11
unfolding resolve resolve_uuid uuid_of_bytes kind_of octets peel
uuid-bytes-size b h = rw (ne_eqb (length b) 16 h) refl

pub uuid-text : (t : Text) → uuid_of_text t ≡ none → resolve (Schema.Uuid UuidForm.string) (Value.Octets Kind.String t) ≡ stop 11
unfolding resolve resolve_uuid parsed_uuid kind_of octets peel
uuid-text t h = rw h refl

-- ---- 12, then 13, whatever the value is; 14 behind both

module _ (precision scale : ℕ) where
  pub scale-first : precision < scale → (size : Option ℕ) (v : Value) → resolve (Schema.Decimal precision scale size) v ≡ stop 12
  unfolding resolve resolve_decimal
  scale-first h size v = rw (lt-ltb precision scale h) refl

  pub size-second : scale ≤ precision → (size : ℕ) → too_short_for precision size ≡ true → (v : Value) → resolve (Schema.Decimal precision scale (some size)) v ≡ stop 13
  unfolding resolve resolve_decimal fixed_too_short
  size-second h size q v = rw (le-ltb precision scale h, q) refl

  pub bytes-third : scale ≤ precision → (b : List ℕ) → too_short_for precision (length b) ≡ true → resolve (Schema.Decimal precision scale none) (Value.Octets Kind.Bytes b) ≡ stop 14
  unfolding resolve resolve_decimal fixed_too_short kind_of octets peel
  bytes-third h b q = rw (le-ltb precision scale h, q) refl

  pub decimal-made : scale ≤ precision → (b : List ℕ) → too_short_for precision (length b) ≡ false → resolve (Schema.Decimal precision scale none) (Value.Octets Kind.Bytes b) ≡ ok (Value.Octets Kind.Decimal b)
  unfolding resolve resolve_decimal fixed_too_short kind_of octets peel
  decimal-made h b q = rw (le-ltb precision scale h, q) refl

-- ---- 15: neither the symbol nor the default is among the symbols

pub default-unknown : (symbols : List Text) (default : Text) (i : ℕ) (s : Text) → position s symbols ≡ none → position default symbols ≡ none
    → resolve (Schema.Enum symbols (some default)) (Value.Enum i s) ≡ stop 15
unfolding resolve resolve_enum enum_at or_default kind_of octets peel
default-unknown symbols default i s e d = rw (e, d) refl
