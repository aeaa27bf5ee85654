-- Number 4 as docs/RULES.md says it: in a sound schema some default that its union's first variant accepts becomes longer than 4,096 bytes there.
use Prim.Native.Nat.{ℕ, ◌<◌}
use mathlib.Core.Path.{◌≡◌, refl, sym, ◌∙◌}
use mathlib.Core.List.{List}
use mathlib.Core.Option.{Option, none, some}
use mathlib.Core.Bool.{Bool, true, false, ◌&&◌, not, and-false}
use native.Mathlib.Omega.{arith}
use lib.Dec.{T, leb, eqb, eqb→eq, nleb→lt}
use lib.Arith.{lt→nleb}
use lib.ListN.{length}
use lib.Ieee.Bits.{is_false}
use lib.Ieee.Fits.{and_l}
use Rattle.base.specs.Base.{when◌then◌else◌, ok, stop, after}
use Rattle.number.specs.Number.{bytes_of}
use Rattle.text.specs.Text.{Text}
use Rattle.frame.specs.Kind
use Rattle.frame.specs.Tree.{Value, Schema, Fields, Variants, no_fields, field, no_variants, variant, kind_of, is, peel, schema_kind}
use Rattle.frame.specs.ValueFrame.{encode_value, write_scalar, contents}
use Rattle.frame.specs.Sound.{keys_rise, schema_sound, fields_sound, variants_sound, default_allowed, default_kinds, default_scalar}
use Rattle.frame.proofs.SoundLaws.{sound-union, sound-variant, sound-field}
use Rattle.types.specs.Types.{Outcome}
use Rattle.avro.specs.Resolve.{resolve, start_default, first}
use Rattle.avro.specs.Defaults.{short_start, short_default, defaults_short, field_defaults_short, variant_defaults_short}

mutual
  -- somewhere in the schema
  pub data LongDefault : Schema → Type 0 where
    in_items : {s : Schema} → LongDefault s → LongDefault (Schema.Array s)
    in_values : {s : Schema} → LongDefault s → LongDefault (Schema.Map s)
    in-fields : {fs : Fields} → LongField fs → LongDefault (Schema.Record fs)
    in_variants : {vs : Variants} {ks : List (ℕ × ℕ)} {ns : List ℕ} → LongVariant vs → LongDefault (Schema.Union vs ks ns)

  pub data LongField : Fields → Type 0 where
    -- the default of a union field, which the first variant, not Null, accepts and makes longer than 4,096 bytes
    own : {n : Text} {d : Value} {a : Schema} {vs : Variants} {ks : List (ℕ × ℕ)} {ns : List ℕ} {fs : Fields} (r : Value)
        → T (not (eqb (schema_kind a) Kind.Null)) → resolve a d ≡ ok r → 4096 < length (encode_value r)
        → LongField (field n (some d) (Schema.Union (variant a vs) ks ns) fs)
    in-schema : {n : Text} {d : Option Value} {s : Schema} {fs : Fields} → LongDefault s → LongField (field n d s fs)
    in-later : {n : Text} {d : Option Value} {s : Schema} {fs : Fields} → LongField fs → LongField (field n d s fs)

  pub data LongVariant : Variants → Type 0 where
    in_variant : {s : Schema} {vs : Variants} → LongDefault s → LongVariant (variant s vs)
    in-later-variant : {s : Schema} {vs : Variants} → LongVariant vs → LongVariant (variant s vs)

-- ---- such a default is told

own-told : (d : Value) (a : Schema) (vs : Variants) (ks : List (ℕ × ℕ)) (ns : List ℕ) (r : Value)
    → T (not (eqb (schema_kind a) Kind.Null)) → resolve a d ≡ ok r → 4096 < length (encode_value r) → short_default (Schema.Union (variant a vs) ks ns) (some d) ≡ false
unfolding short_default short_start resolve first after kind_of peel
own-told d a vs ks ns r k e h = rw (is_false (eqb (schema_kind a) Kind.Null) k, e) (is_false (leb (length (encode_value r)) 4096) (lt→nleb (length (encode_value r)) 4096 h))

mutual
  unfolding defaults_short

  pub long-told : {s : Schema} → LongDefault s → defaults_short s ≡ false
  long-told (in_items l) = long-told l
  long-told (in_values l) = long-told l
  long-told (in-fields l) = field_told l
  long-told (in_variants l) = variant-told l

  field_told : {fs : Fields} → LongField fs → field_defaults_short fs ≡ false
  field_told (own {d = d} {a = a} {vs = vs} {ks = ks} {ns = ns} r k e h) = rw (own-told d a vs ks ns r k e h)
  field_told (in-schema {d = d} {s = s} l) = rw (long-told l, and-false (short_default s d))
  field_told (in-later {d = d} {s = s} l) = rw (field_told l, and-false (short_default s d && defaults_short s))

  variant-told : {vs : Variants} → LongVariant vs → variant_defaults_short vs ≡ false
  variant-told (in_variant l) = rw (long-told l)
  variant-told (in-later-variant {s = s} l) = rw (variant-told l, and-false (defaults_short s))

-- ---- and nothing else is: the schema is sound, since 3 is tested before 4

true-not-false : {A : Type 0} → true ≡ false → A
true-not-false e = let z : ◌≡◌ {A = ℕ} 0 1 = cc in absurd (omega arith)

-- a default is no Union
no_union : (d : Value) → T (default_kinds d) → is Kind.Union d ≡ false
unfolding default_kinds default_scalar kind_of
no_union (Value.Scalar k n) h = go (eqb k Kind.Union) refl
  where
    go : (b : Bool) → eqb k Kind.Union ≡ b → b ≡ false
    go true e = absurd (rw (eqb→eq k Kind.Union (rw e tt)) at h)
    go false e = refl
no_union (Value.Octets k s) h = rw (eqb→eq k Kind.String h)
no_union (Value.Enum i s) h = refl
no_union (Value.Array vs) h = refl
no_union (Value.Map es) h = refl
no_union (Value.Record es) h = refl
no_union (Value.Union i v) h = absurd h

plain-short : (d : Value) → T (default_kinds d) → short_start (ok d) ≡ true
unfolding short_start
plain-short d h = rw (no_union d h)

own-long : (n : Text) (d : Value) (a : Schema) (vs : Variants) (ks : List (ℕ × ℕ)) (ns : List ℕ) (fs : Fields)
    → short_default (Schema.Union (variant a vs) ks ns) (some d) ≡ false → LongField (field n (some d) (Schema.Union (variant a vs) ks ns) fs)
unfolding short_default short_start resolve first after kind_of peel encode_value write_scalar contents bytes_of
own-long n d a vs ks ns fs e = go (eqb (schema_kind a) Kind.Null) refl e
  where
    size : (r : Value) → resolve a d ≡ ok r → T (not (eqb (schema_kind a) Kind.Null)) → (b : Bool) → leb (length (encode_value r)) 4096 ≡ b → b ≡ false
        → LongField (field n (some d) (Schema.Union (variant a vs) ks ns) fs)
    size r q k b p e = own r k q (nleb→lt (length (encode_value r)) 4096 (rw (p ∙ e) tt))

    outcome : (o : Outcome) → resolve a d ≡ o → T (not (eqb (schema_kind a) Kind.Null)) → short_start (after o (λ r. ok (Value.Union 0 r))) ≡ false
        → LongField (field n (some d) (Schema.Union (variant a vs) ks ns) fs)
    outcome (ok r) q k e = size r q k (leb (length (encode_value r)) 4096) refl e
    outcome (stop m) q k e = true-not-false e

    go : (b : Bool) → eqb (schema_kind a) Kind.Null ≡ b → short_start (after (when b then ok (Value.Scalar Kind.Null 0) else resolve a d) (λ r. ok (Value.Union 0 r))) ≡ false
        → LongField (field n (some d) (Schema.Union (variant a vs) ks ns) fs)
    go true p e = true-not-false e
    go false p e = outcome (resolve a d) refl (rw p tt) e

of-variants : (n : Text) (d : Value) (vs : Variants) (ks : List (ℕ × ℕ)) (ns : List ℕ) (fs : Fields)
    → short_default (Schema.Union vs ks ns) (some d) ≡ false → LongField (field n (some d) (Schema.Union vs ks ns) fs)
unfolding short_default short_start resolve first after
of-variants n d no_variants ks ns fs e = true-not-false e
of-variants n d (variant a vs) ks ns fs e = own-long n d a vs ks ns fs e

of-default : (n : Text) (d : Option Value) (s : Schema) (fs : Fields) → T (default_allowed d) → short_default s d ≡ false → LongField (field n d s fs)
unfolding short_default default_allowed start_default
of-default n none s fs h e = true-not-false e
of-default n (some d) s fs h e = go s e
  where
    allowed : T (default_kinds d)
    allowed = and_l (default_kinds d) (keys_rise d) h

    plain : (s : Schema) → short_start (ok d) ≡ false → LongField (field n (some d) s fs)
    plain s e = true-not-false (sym (plain-short d allowed) ∙ e)

    go : (s : Schema) → short_default s (some d) ≡ false → LongField (field n (some d) s fs)
    go (Schema.Plain k) e = plain (Schema.Plain k) e
    go (Schema.Fixed m) e = plain (Schema.Fixed m) e
    go (Schema.Decimal p c m) e = plain (Schema.Decimal p c m) e
    go (Schema.Uuid f) e = plain (Schema.Uuid f) e
    go (Schema.Duration m) e = plain (Schema.Duration m) e
    go (Schema.Enum ss t) e = plain (Schema.Enum ss t) e
    go (Schema.Array s) e = plain (Schema.Array s) e
    go (Schema.Map s) e = plain (Schema.Map s) e
    go (Schema.Record gs) e = plain (Schema.Record gs) e
    go (Schema.Union vs ks ns) e = of-variants n d vs ks ns fs e

one-false : {A : Type 0} (a b : Bool) → (a && b) ≡ false → (a ≡ false → A) → (b ≡ false → A) → A
one-false true b e f g = g e
one-false false b e f g = f refl

first-false : {A : Type 0} (a b c : Bool) → (a && b && c) ≡ false → (a ≡ false → A) → (b ≡ false → A) → (c ≡ false → A) → A
first-false a b c e f g h = one-false (a && b) c e (λ p. one-false a b p f g) h

mutual
  unfolding defaults_short schema_sound

  pub long-only : (s : Schema) → T (schema_sound s) → defaults_short s ≡ false → LongDefault s
  long-only (Schema.Plain k) h e = true-not-false e
  long-only (Schema.Fixed n) h e = true-not-false e
  long-only (Schema.Decimal p c n) h e = true-not-false e
  long-only (Schema.Uuid f) h e = true-not-false e
  long-only (Schema.Duration n) h e = true-not-false e
  long-only (Schema.Enum ss d) h e = true-not-false e
  long-only (Schema.Array s) h e = in_items (long-only s h e)
  long-only (Schema.Map s) h e = in_values (long-only s h e)
  long-only (Schema.Record fs) h e = in-fields (field-only fs h e)
  long-only (Schema.Union vs ks ns) h e = in_variants (variant-only vs (sound-union vs ks ns h).variants e)

  field-only : (fs : Fields) → T (fields_sound fs) → field_defaults_short fs ≡ false → LongField fs
  field-only no_fields h e = true-not-false e
  field-only (field n d s fs) h e =
      let f = sound-field n d s fs h in
      first-false (short_default s d) (defaults_short s) (field_defaults_short fs) e
      (λ p. of-default n d s fs f.allowed p) (λ p. in-schema (long-only s f.schema p)) (λ p. in-later (field-only fs f.rest p))

  variant-only : (vs : Variants) → T (variants_sound vs) → variant_defaults_short vs ≡ false → LongVariant vs
  variant-only no_variants h e = true-not-false e
  variant-only (variant s vs) h e =
      let v = sound-variant s vs h in
      one-false (defaults_short s) (variant_defaults_short vs) e
      (λ p. in_variant (long-only s v.schema p)) (λ p. in-later-variant (variant-only vs v.rest p))
