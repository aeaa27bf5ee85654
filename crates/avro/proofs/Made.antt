-- What each leaf makes of a value: the one account of the `resolve_` functions that look at one node. A refusal is one of resolution's numbers. What comes out fits
-- the schema and resolves to itself, holds no NaN, and a frame that holds schema and value can hold it. A new rule of a leaf is shown here, and nowhere else.
use Prim.Native.Nat.{ℕ, zero, suc, ◌^◌, ◌<◌, ◌≤◌}
use mathlib.Core.Path.{◌≡◌, refl, sym, ap, subst}
use mathlib.Core.List.{List, [], ◌∷◌}
use mathlib.Core.Option.{Option, none, some}
use mathlib.Core.Bool.{Bool, true, false, ◌&&◌, ◌||◌, not}
use native.Mathlib.Omega.{arith}
use lib.Dec.{T, leb, ltb, eqb, ltb→lt, lt→ltb, leb→le, eqb→eq, eqb_refl, not_T}
use lib.ListN.{length, get_or}
use lib.Ieee.Bits.{is_true, is_false}
use lib.Ieee.Fits.{and_l, and_r, and_i, eq→eqb}
use Rattle.base.specs.Base.{when◌then◌else◌, ok, stop}
use Rattle.base.proofs.AllBelow.{all_below, all_below-lookup}
use Rattle.base.proofs.Okay.{Found}
use Rattle.utf8.specs.Utf8.{is_utf8, code_points}
use Rattle.utf8.proofs.CodePoints.{length-code_points}
use Rattle.text.specs.Text.{Text, same}
use Rattle.text.proofs.TextLaws.{same→≡}
use Rattle.decimal.specs.Decimal.{too_short_for}
use Rattle.uuid_text.specs.Uuid.{uuid_of_text}
use Rattle.uuid_text.proofs.Sizes.{length-uuid_of_text}
use Rattle.scalar.specs.Conversion.{long_of_int, in_int, int_of_long, float_of_int, float_of_long, float_of_double, double_of_int, double_of_long, double_of_float, float_is_nan, double_is_nan, parse_special_float}
use Rattle.scalar.proofs.Bounds.{float_of_int-<, float_of_long-<, float_of_double-<, double_of_int-<, double_of_long-<, double_of_float-<, long_of_int-<, int_of_long-<, parse-special-float-<}
use Rattle.frame.specs.Kind
use Rattle.frame.specs.Tree.{Value, Values, Schema, UuidForm, no_items, item, kind_of, is, number, index, octets, items, peel}
use Rattle.frame.specs.ValueFrame.{Content, wide, flag, counted, text, plain, array, map, union, symbol, unknown, contents, kind_content, count_items}
use Rattle.frame.specs.SchemaFrame.{bare}
use Rattle.frame.specs.Sound.{keys_rise}
use Rattle.frame.proofs.RoundTrip.{held, scalar_held, octets_held, text_held}
use Rattle.frame.proofs.ReadHeld.{HeldSchema, HeldText}
use Rattle.frame.proofs.Inside.{items-count}
use Rattle.types.specs.Types.{Outcome, resolve_plain, resolve_null, resolve_boolean, resolve_int, resolve_long, float_of_bits, double_of_bits, special, resolve_float, resolve_double, resolve_bytes, resolve_string, resolve_int_time, resolve_long_time, in_byte, int_byte, try_u8, byte_items, fixed_of_bytes, resolve_fixed, point_bytes, text_points, fixed_too_short, decimal_of_bytes, resolve_decimal, parsed_uuid, uuid_of_bytes, resolve_uuid, resolve_duration, next_place, position, enum_at, or_default, resolve_enum}
use Rattle.types.proofs.ScalarLaws.{int-time-kept, long-time-kept}
use Rattle.avro.specs.Matches.{fits, symbol_at}
use Rattle.avro.specs.Resolve.{resolve}
use Rattle.avro.specs.Numbers.{listed}
use Rattle.avro.specs.Nans.{nan_of, no_nan}
use Rattle.avro.proofs.Ends.{Ends, ends-if, ends-after, ends-map}
use Rattle.avro.proofs.SchemaCases.{childless}

-- it fits the schema, and resolves to itself
pub record Stable (s : Schema) (r : Value) : Type 0 where
  pub fitting : T (fits s r)
  pub again : resolve s r ≡ ok r

-- what the leaf s makes of v, which is peeled
pub record Made (s : Schema) (v r : Value) : Type 0 where
  -- fits and repeats
  pub stable : Stable s r
  -- stands in a frame, where schema and value do
  pub holds : (d : ℕ) → HeldSchema s (suc d) → (e : ℕ) → T (held v e) → T (held r (suc d))
  -- its map keys rise
  pub keys : T (keys_rise r)
  -- it holds no NaN
  pub no_nan : T (no_nan r)

-- ---- kinds

pub kind-is : (k : ℕ) (v : Value) → T (is k v) → kind_of v ≡ k
kind-is k v h = eqb→eq (kind_of v) k h

pub peel-kind : (v : Value) → T (not (is Kind.Union v)) → peel v ≡ v
unfolding peel kind_of
peel-kind (Value.Scalar k n) h = refl
peel-kind (Value.Octets k s) h = refl
peel-kind (Value.Enum i s) h = refl
peel-kind (Value.Array vs) h = refl
peel-kind (Value.Map es) h = refl
peel-kind (Value.Record es) h = refl
peel-kind (Value.Union i v) h = absurd h

-- none of Array, Map, Union, Record and Enum
abbrev pub leaf_kind : ℕ → Bool
leaf_kind k = not (leb Kind.Array k && leb k Kind.Enum)

-- and neither Float nor Double
abbrev no_float : ℕ → Bool
no_float k = not (eqb k Kind.Float) && not (eqb k Kind.Double)

abbrev kept_kind : ℕ → Bool
kept_kind k = leaf_kind k && no_float k

pub data Leaf (k : ℕ) (v : Value) : Type 0 where
  scalar : (n : ℕ) → v ≡ Value.Scalar k n → Leaf k v
  bytes : (b : List ℕ) → v ≡ Value.Octets k b → Leaf k v

pub leaf-is : (k : ℕ) → T (leaf_kind k) → (v : Value) → T (is k v) → Leaf k v
unfolding kind_of
leaf-is k h v t = go v (eqb→eq (kind_of v) k t)
  where
    go : (v : Value) → kind_of v ≡ k → Leaf k v
    go (Value.Scalar j n) e = scalar n (ap (λ (i : ℕ). Value.Scalar i n) e)
    go (Value.Octets j b) e = bytes b (ap (λ (i : ℕ). Value.Octets i b) e)
    go (Value.Enum i s) e = absurd (subst (λ (j : ℕ). T (leaf_kind j)) (sym e) h)
    go (Value.Array vs) e = absurd (subst (λ (j : ℕ). T (leaf_kind j)) (sym e) h)
    go (Value.Map es) e = absurd (subst (λ (j : ℕ). T (leaf_kind j)) (sym e) h)
    go (Value.Record es) e = absurd (subst (λ (j : ℕ). T (leaf_kind j)) (sym e) h)
    go (Value.Union i v) e = absurd (subst (λ (j : ℕ). T (leaf_kind j)) (sym e) h)

held-scalar : (k n e : ℕ) → T (held (Value.Scalar k n) e) → T (scalar_held (kind_content k) n)
unfolding held
held-scalar k n zero h = absurd h
held-scalar k n (suc e) h = h

held-octets : (k : ℕ) (b : List ℕ) (e : ℕ) → T (held (Value.Octets k b) e) → T (octets_held (kind_content k) b)
unfolding held
held-octets k b zero h = absurd h
held-octets k b (suc e) h = h

-- a number of another kind is no NaN
no-nan-of : (k n : ℕ) → T (no_float k) → T (not (nan_of k n))
no-nan-of k n h = go (eqb k Kind.Float) (eqb k Kind.Double) h
  where
    go : (a b : Bool) → T (not a && not b) → T (not (when a then float_is_nan n else when b then double_is_nan n else false))
    go true b h = absurd h
    go false true h = absurd h
    go false false h = tt

leaf-no-nan : (k : ℕ) → T (kept_kind k) → (v : Value) → T (is k v) → T (no_nan v)
unfolding no_nan
leaf-no-nan k l v t = go (leaf-is k (and_l (leaf_kind k) (no_float k) l) v t)
  where
    go : Leaf k v → T (no_nan v)
    go (scalar n q) = rw q (no-nan-of k n (and_r (leaf_kind k) (no_float k) l))
    go (bytes b q) = rw q tt

leaf-keys : (k : ℕ) → T (leaf_kind k) → (v : Value) → T (is k v) → T (keys_rise v)
unfolding keys_rise
leaf-keys k l v t = go (leaf-is k l v t)
  where
    go : Leaf k v → T (keys_rise v)
    go (scalar n q) = rw q tt
    go (bytes b q) = rw q tt

module _ (k : ℕ) (l : T (leaf_kind k)) (v : Value) (e : ℕ) (h : T (held v e)) (t : T (is k v)) where
  -- a leaf is held at any depth
  leaf-held : (d : ℕ) → T (held v (suc d))
  unfolding held
  leaf-held d = go (leaf-is k l v t)
    where
      go : Leaf k v → T (held v (suc d))
      go (scalar n q) = rw q (held-scalar k n e (rw q at h))
      go (bytes b q) = rw q (held-octets k b e (rw q at h))

  number-of : (w : ℕ) → kind_content k ≡ wide w → number v < 256 ^ w
  unfolding scalar_held octets_held number
  number-of w c = go (leaf-is k l v t)
    where
      go : Leaf k v → number v < 256 ^ w
      go (scalar n q) = rw q (ltb→lt n (256 ^ w) (rw c at (held-scalar k n e (rw q at h))))
      go (bytes b q) = absurd (rw c at (held-octets k b e (rw q at h)))

  octets-of : (c : Content) → kind_content k ≡ c → ((n : ℕ) → T (scalar_held c n) → ⊥) → T (octets_held c (octets v))
  unfolding octets
  octets-of c p z = go (leaf-is k l v t)
    where
      go : Leaf k v → T (octets_held c (octets v))
      go (scalar n q) = absurd (z n (rw p at (held-scalar k n e (rw q at h))))
      go (bytes b q) = rw q (rw p at (held-octets k b e (rw q at h)))

or_cases : (a b : Bool) (X : Type 0) → T (a || b) → (T a → X) → (T b → X) → X
or_cases true b X t f g = f tt
or_cases false b X t f g = g t

-- ---- the ways to make something

-- the value as it was
as_it_was : (k : ℕ) → T (kept_kind k) → (s : Schema) (v : Value) → T (is k v) → (T (is k v) → T (fits s v)) → (peel v ≡ v → resolve s v ≡ ok v) → Made s v v
as_it_was k l s v t f q = record {
  stable = record { fitting = f t; again = q (peel-kind v (rw (kind-is k v t) (not-union k leaf))) };
  holds = λ d g e h. leaf-held k leaf v e h t d;
  keys = leaf-keys k leaf v t;
  no_nan = leaf-no-nan k l v t;
}
  where
    leaf : T (leaf_kind k)
    leaf = and_l (leaf_kind k) (no_float k) l

    not-union : (k : ℕ) → T (leaf_kind k) → T (not (eqb k Kind.Union))
    not-union k l = not_T (eqb k Kind.Union) (λ u. subst (λ (j : ℕ). T (leaf_kind j)) (eqb→eq k Kind.Union u) l)

-- a number of kind k
a-number : (k n : ℕ) (v : Value) → resolve_plain k (Value.Scalar k n) ≡ ok (Value.Scalar k n) → T (not (nan_of k n)) → (T (bare k) → (e : ℕ) → T (held v e) → T (scalar_held (kind_content k) n))
    → Made (Schema.Plain k) v (Value.Scalar k n)
unfolding fits resolve kind_of peel held keys_rise no_nan
a-number k n v q x b = record {
  stable = record { fitting = eqb_refl k; again = q };
  holds = λ d g e h. b g e h;
  keys = tt;
  no_nan = x;
}

-- octets of kind k
some-octets : (k : ℕ) (b : List ℕ) (s : Schema) (v : Value) → Stable s (Value.Octets k b) → ((e : ℕ) → T (held v e) → T (octets_held (kind_content k) b))
    → Made s v (Value.Octets k b)
unfolding held keys_rise no_nan
some-octets k b s v q h = record { stable = q; holds = λ d g e p. h e p; keys = tt; no_nan = tt }

-- the same under a schema without content
plain-as-it-was : (k : ℕ) → T (kept_kind k) → (v : Value) → T (is k v) → resolve_plain k v ≡ ok v → Made (Schema.Plain k) v v
unfolding fits resolve
plain-as-it-was k l v t q = as_it_was k l (Schema.Plain k) v t (λ u. u) (λ p. rw p q)

plain-octets : (k : ℕ) (b : List ℕ) (v : Value) → resolve_plain k (Value.Octets k b) ≡ ok (Value.Octets k b) → ((e : ℕ) → T (held v e) → T (octets_held (kind_content k) b))
    → Made (Schema.Plain k) v (Value.Octets k b)
unfolding fits resolve kind_of peel
plain-octets k b v q h = some-octets k b (Schema.Plain k) v (record { fitting = eqb_refl k; again = q }) h

abbrev PlainMade : ℕ → Value → Outcome → Type 0
PlainMade k v o = Ends (Made (Schema.Plain k) v) o

-- ---- numbers

module _ (v : Value) where
  made-null : PlainMade Kind.Null v (resolve_null v)
  unfolding resolve_plain resolve_null
  made-null = ends-if _ (is Kind.Null v) _ _ (λ t. plain-as-it-was Kind.Null tt v t (rw (kind-is Kind.Null v t))) (λ _. tt)

  made-boolean : PlainMade Kind.Boolean v (resolve_boolean v)
  unfolding resolve_plain resolve_boolean
  made-boolean = ends-if _ (is Kind.Boolean v) _ _ (λ t. plain-as-it-was Kind.Boolean tt v t (rw (kind-is Kind.Boolean v t))) (λ _. tt)

  int_lt : (e : ℕ) → T (held v e) → T (is Kind.Int v) → number v < 256 ^ 4
  unfolding contents
  int_lt e h t = number-of Kind.Int tt v e h t 4 refl

  made-int : PlainMade Kind.Int v (resolve_int v)
  unfolding resolve_plain resolve_int kind_of contents scalar_held
  made-int =
      ends-if _ (is Kind.Int v) _ _ (λ t. plain-as-it-was Kind.Int tt v t (rw (kind-is Kind.Int v t)))
      λ _. ends-if _ (is Kind.Long v) _ _
      (λ _. ends-if _ (in_int (number v)) _ _
      (λ _. a-number Kind.Int (int_of_long (number v)) v refl tt (λ _ e h. lt→ltb (int_of_long (number v)) (256 ^ 4) (int_of_long-< (number v)))) (λ _. tt))
      (λ _. tt)

  long-of-int : T (is Kind.Int v) → (e : ℕ) → T (held v e) → T (ltb (long_of_int (number v)) (256 ^ 8))
  long-of-int t e h = lt→ltb (long_of_int (number v)) (256 ^ 8) (long_of_int-< (number v) (int_lt e h t))

  made-long : PlainMade Kind.Long v (resolve_long v)
  unfolding resolve_plain resolve_long kind_of contents scalar_held
  made-long =
      ends-if _ (is Kind.Int v) _ _ (λ t. a-number Kind.Long (long_of_int (number v)) v refl tt (λ _. long-of-int t))
      λ _. ends-if _ (is Kind.Long v) _ _ (λ t. plain-as-it-was Kind.Long tt v t (rw (kind-is Kind.Long v t))) (λ _. tt)

  -- a Float by its bits, and a Double
  a-float : (b : ℕ) → ((e : ℕ) → T (held v e) → b < 256 ^ 4) → PlainMade Kind.Float v (float_of_bits b)
  unfolding resolve_plain resolve_float kind_of number contents scalar_held
  a-float b l = ends-if _ (float_is_nan b) _ _ (λ _. tt) λ h. a-number Kind.Float b v (rw (is_false (float_is_nan b) h) refl) h (λ _ e k. lt→ltb b (256 ^ 4) (l e k))

  a-double : (b : ℕ) → ((e : ℕ) → T (held v e) → b < 256 ^ 8) → PlainMade Kind.Double v (double_of_bits b)
  unfolding resolve_plain resolve_double kind_of number contents scalar_held
  a-double b l = ends-if _ (double_is_nan b) _ _ (λ _. tt) λ h. a-number Kind.Double b v (rw (is_false (double_is_nan b) h) refl) h (λ _ e k. lt→ltb b (256 ^ 8) (l e k))

  made_float : PlainMade Kind.Float v (resolve_float v)
  unfolding resolve_float special contents
  made_float =
      ends-if _ (is Kind.Int v) _ _ (λ _. a-float (float_of_int (number v)) (λ _ _. float_of_int-< (number v)))
      λ _. ends-if _ (is Kind.Long v) _ _ (λ _. a-float (float_of_long (number v)) (λ _ _. float_of_long-< (number v)))
      λ _. ends-if _ (is Kind.Float v) _ _ (λ t. a-float (number v) (λ e h. number-of Kind.Float tt v e h t 4 refl))
      λ _. ends-if _ (is Kind.Double v) _ _ (λ _. a-float (float_of_double (number v)) (λ _ _. float_of_double-< (number v)))
      λ _. ends-if _ (is Kind.String v) _ _ (λ _. by-text (parse_special_float (octets v)) (parse-special-float-< (octets v))) (λ _. tt)
    where
      by-text : (o : Option ℕ) → ((b : ℕ) → o ≡ some b → b < 256 ^ 4) → PlainMade Kind.Float v (special (λ b. float_of_bits b) o)
      by-text none p = tt
      by-text (some b) p = a-float b (λ _ _. p b refl)

  made-double : PlainMade Kind.Double v (resolve_double v)
  unfolding resolve_double special contents
  made-double =
      ends-if _ (is Kind.Int v) _ _ (λ _. a-double (double_of_int (number v)) (λ _ _. double_of_int-< (number v)))
      λ _. ends-if _ (is Kind.Long v) _ _ (λ _. a-double (double_of_long (number v)) (λ _ _. double_of_long-< (number v)))
      λ _. ends-if _ (is Kind.Float v) _ _ (λ _. a-double (double_of_float (number v)) (λ _ _. double_of_float-< (number v)))
      λ _. ends-if _ (is Kind.Double v) _ _ (λ t. a-double (number v) (λ e h. number-of Kind.Double tt v e h t 8 refl))
      λ _. ends-if _ (is Kind.String v) _ _ (λ _. by-text (parse_special_float (octets v))) (λ _. tt)
    where
      by-text : (o : Option ℕ) → PlainMade Kind.Double v (special (λ b. double_of_bits (double_of_float b)) o)
      by-text none = tt
      by-text (some b) = a-double (double_of_float b) (λ _ _. double_of_float-< b)

-- ---- dates and times

-- the number of a value of the kind itself, or of an Int or a Long as wide
same_number : (k j w : ℕ) (v : Value) → T (leaf_kind k) → T (leaf_kind j) → kind_content k ≡ wide w → kind_content j ≡ wide w → T (is k v || is j v) → (e : ℕ) → T (held v e)
    → T (scalar_held (kind_content k) (number v))
unfolding scalar_held
same_number k j w v l m c f t e h =
    rw c (lt→ltb (number v) (256 ^ w) (or_cases (is k v) (is j v) _ t (λ u. number-of k l v e h u w c) (λ u. number-of j m v e h u w f)))

made-int-time : (k : ℕ) (v : Value) → T (kept_kind k) → kind_content k ≡ wide 4 → ((n : ℕ) → resolve_plain k (Value.Scalar k n) ≡ ok (Value.Scalar k n)) → PlainMade k v (resolve_int_time k v)
unfolding resolve_int_time contents
made-int-time k v l c q = ends-if _ (is k v || is Kind.Int v) _ _ (λ t. a-number k (number v) v (q (number v)) (no-nan-of k (number v) (and_r (leaf_kind k) (no_float k) l)) (λ _. same_number k Kind.Int 4 v (and_l (leaf_kind k) (no_float k) l) tt c refl t)) (λ _. tt)

made-long-time : (k : ℕ) (v : Value) → T (no_float k) → (T (bare k) → (kind_content k ≡ wide 8) × T (leaf_kind k)) → ((n : ℕ) → resolve_plain k (Value.Scalar k n) ≡ ok (Value.Scalar k n))
    → PlainMade k v (resolve_long_time k v)
unfolding resolve_long_time contents scalar_held
made-long-time k v f c q =
    ends-if _ (is k v || is Kind.Long v) _ _ (λ t. a-number k (number v) v (q (number v)) (no-nan-of k (number v) f) (λ b. same_number k Kind.Long 8 v (c b).1 tt (c b).0 refl t))
    λ _. ends-if _ (is Kind.Int v) _ _ (λ t. a-number k (long_of_int (number v)) v (q (long_of_int (number v))) (no-nan-of k (long_of_int (number v)) f) (λ b e h. rw (c b).0 (long-of-int v t e h))) (λ _. tt)

-- ---- bytes and texts

module _ (v : Value) (e : ℕ) (h : T (held v e)) where
  -- the bytes of a Bytes, a Fixed or a Decimal are few enough
  counted-lt : (k : ℕ) → T (leaf_kind k) → kind_content k ≡ counted → T (is k v) → T (ltb (length (octets v)) 65536)
  unfolding octets_held scalar_held
  counted-lt k l c t = octets-of k l v e h t counted c (λ n z. z)

  string-text : T (is Kind.String v) → T (text_held (octets v))
  unfolding octets_held scalar_held text_held contents
  string-text t = octets-of Kind.String tt v e h t text refl (λ n z. z)

  string-lt : T (is Kind.String v) → T (ltb (length (octets v)) 65536)
  unfolding text_held
  string-lt t = and_l (ltb (length (octets v)) 65536) (is_utf8 (octets v)) (string-text t)

  bytes_lt : T (is Kind.Bytes v) → T (ltb (length (octets v)) 65536)
  unfolding contents
  bytes_lt t = counted-lt Kind.Bytes tt refl t

  fixed-lt : T (is Kind.Fixed v) → T (ltb (length (octets v)) 65536)
  unfolding contents
  fixed-lt t = counted-lt Kind.Fixed tt refl t

  decimal-lt : T (is Kind.Decimal v) → T (ltb (length (octets v)) 65536)
  unfolding contents
  decimal-lt t = counted-lt Kind.Decimal tt refl t

-- as many bytes as items
byte_items-length : (vs : Values) → Ends (λ s. length s ≡ count_items vs) (byte_items vs)
unfolding byte_items count_items try_u8 int_byte in_byte
byte_items-length no_items = refl
byte_items-length (item v vs) =
    ends-after (λ _. Unit) _ (try_u8 v) _
    (ends-after (Made (Schema.Plain Kind.Int) (peel v)) _ (resolve_int (peel v)) _ (made-int (peel v)) λ n _. ends-if _ (leb (number n) 255) _ _ (λ _. tt) (λ _. tt))
    λ b _. ends-after (λ s. length s ≡ count_items vs) _ (byte_items vs) _ (byte_items-length vs) λ s p. ap suc p

made_bytes : (v : Value) → PlainMade Kind.Bytes v (resolve_bytes v)
unfolding resolve_plain resolve_bytes kind_of contents octets_held
made_bytes v =
    ends-if _ (is Kind.Bytes v) _ _ (λ t. plain-as-it-was Kind.Bytes tt v t (rw (kind-is Kind.Bytes v t)))
    λ _. ends-if _ (is Kind.String v) _ _ (λ t. plain-octets Kind.Bytes (octets v) v refl (λ e h. string-lt v e h t))
    λ _. ends-if _ (is Kind.Array v) _ _
    (λ _. ends-after (λ s. length s ≡ count_items (items v)) _ (byte_items (items v)) _ (byte_items-length (items v))
    λ s p. plain-octets Kind.Bytes s v refl (λ e h. rw p (items-count v e h)))
    (λ _. tt)

made-string : (v : Value) → PlainMade Kind.String v (resolve_string v)
unfolding resolve_plain resolve_string kind_of contents octets_held
made-string v =
    ends-if _ (is Kind.String v) _ _ (λ t. plain-as-it-was Kind.String tt v t (rw (kind-is Kind.String v t)))
    λ _. ends-if _ (is Kind.Bytes v || is Kind.Fixed v) _ _
    (λ t. ends-if _ (is_utf8 (octets v)) _ _
    (λ u. plain-octets Kind.String (octets v) v refl
    (λ e h. and_i (ltb (length (octets v)) 65536) (is_utf8 (octets v)) (or_cases (is Kind.Bytes v) (is Kind.Fixed v) _ t (bytes_lt v e h) (fixed-lt v e h)) u))
    (λ _. tt))
    (λ _. tt)

-- ---- a schema without content

-- what is left of the kinds when the others are taken away is 8 bytes wide: one test over the table
wide8 : Content → Bool
wide8 (wide w) = eqb w 8
wide8 flag = false
wide8 counted = false
wide8 text = false
wide8 (plain n) = false
wide8 array = false
wide8 map = false
wide8 union = false
wide8 Content.entries = false
wide8 symbol = false
wide8 unknown = false

wide8-is : (c : Content) → T (wide8 c) → c ≡ wide 8
unfolding wide8
wide8-is (wide w) h = ap wide (eqb→eq w 8 h)
wide8-is flag h = absurd h
wide8-is counted h = absurd h
wide8-is text h = absurd h
wide8-is (plain n) h = absurd h
wide8-is array h = absurd h
wide8-is map h = absurd h
wide8-is union h = absurd h
wide8-is Content.entries h = absurd h
wide8-is symbol h = absurd h
wide8-is unknown h = absurd h

abbrev time_test : ℕ → Bool
time_test k =
    eqb k Kind.Null || (eqb k Kind.Boolean || (eqb k Kind.Int || (eqb k Kind.Long || (eqb k Kind.Float || (eqb k Kind.Double || (eqb k Kind.Bytes || (eqb k Kind.String
    || ((eqb k Kind.Date || eqb k Kind.TimeMillis) || (not (bare k) || (wide8 (kind_content k) && leaf_kind k))))))))))

times-hold : T (all_below 25 time_test)
unfolding all_below wide8 contents
times-hold = tt

bare-lt : (k : ℕ) → T (bare k) → k < 25
bare-lt k h = or_cases (leb k Kind.String) (leb Kind.Date k && leb k Kind.LocalTimestampNanos) (k < 25) h
    (λ t. omega (arith, leb→le k 7 t)) (λ t. omega (arith, leb→le k 24 (and_r (leb Kind.Date k) (leb k Kind.LocalTimestampNanos) t)))

other-of : (a b : Bool) → T (not a) → T (a || b) → T b
other-of true b n h = absurd n
other-of false b n h = h

T_not-not : (a : Bool) → T a → T (not (not a))
T_not-not true h = tt
T_not-not false h = h

at-kind : (j k : ℕ) (v : Value) (o : Outcome) → T (eqb k j) → PlainMade j v o → PlainMade k v o
at-kind j k v o t p = subst (λ (i : ℕ). PlainMade i v o) (sym (eqb→eq k j t)) p

made_plain : (k : ℕ) (v : Value) → PlainMade k v (resolve_plain k v)
unfolding resolve_plain contents
made_plain k v =
    ends-if _ (eqb k Kind.Null) _ _ (λ t. at-kind Kind.Null k v (resolve_null v) t (made-null v))
    λ n0. ends-if _ (eqb k Kind.Boolean) _ _ (λ t. at-kind Kind.Boolean k v (resolve_boolean v) t (made-boolean v))
    λ n1. ends-if _ (eqb k Kind.Int) _ _ (λ t. at-kind Kind.Int k v (resolve_int v) t (made-int v))
    λ n2. ends-if _ (eqb k Kind.Long) _ _ (λ t. at-kind Kind.Long k v (resolve_long v) t (made-long v))
    λ n3. ends-if _ (eqb k Kind.Float) _ _ (λ t. at-kind Kind.Float k v (resolve_float v) t (made_float v))
    λ n4. ends-if _ (eqb k Kind.Double) _ _ (λ t. at-kind Kind.Double k v (resolve_double v) t (made-double v))
    λ n5. ends-if _ (eqb k Kind.Bytes) _ _ (λ t. at-kind Kind.Bytes k v (resolve_bytes v) t (made_bytes v))
    λ n6. ends-if _ (eqb k Kind.String) _ _ (λ t. at-kind Kind.String k v (resolve_string v) t (made-string v))
    λ n7. ends-if _ (eqb k Kind.Date || eqb k Kind.TimeMillis) _ _
    (λ t. or_cases (eqb k Kind.Date) (eqb k Kind.TimeMillis) _ t
    (λ u. subst (λ (j : ℕ). PlainMade j v (resolve_int_time j v)) (sym (eqb→eq k Kind.Date u)) (made-int-time Kind.Date v tt refl (int-time-kept Kind.Date)))
    (λ u. subst (λ (j : ℕ). PlainMade j v (resolve_int_time j v)) (sym (eqb→eq k Kind.TimeMillis u)) (made-int-time Kind.TimeMillis v tt refl (int-time-kept Kind.TimeMillis))))
    (λ n8. made-long-time k v (and_i (not (eqb k Kind.Float)) (not (eqb k Kind.Double)) n4 n5)
    (λ b.
    let w : T (wide8 (kind_content k) && leaf_kind k) =
    other-of (not (bare k)) _ (T_not-not (bare k) b) (other-of (eqb k Kind.Date || eqb k Kind.TimeMillis) _ n8
    (other-of (eqb k Kind.String) _ n7 (other-of (eqb k Kind.Bytes) _ n6 (other-of (eqb k Kind.Double) _ n5 (other-of (eqb k Kind.Float) _ n4
    (other-of (eqb k Kind.Long) _ n3 (other-of (eqb k Kind.Int) _ n2 (other-of (eqb k Kind.Boolean) _ n1 (other-of (eqb k Kind.Null) _ n0
    (all_below-lookup 25 time_test times-hold k (bare-lt k b))))))))))) in
    (wide8-is (kind_content k) (and_l (wide8 (kind_content k)) (leaf_kind k) w), and_r (wide8 (kind_content k)) (leaf_kind k) w))
    (λ n. rw (
      is_false (eqb k Kind.Null) n0,
      is_false (eqb k Kind.Boolean) n1,
      is_false (eqb k Kind.Int) n2,
      is_false (eqb k Kind.Long) n3,
      is_false (eqb k Kind.Float) n4,
      is_false (eqb k Kind.Double) n5,
      is_false (eqb k Kind.Bytes) n6,
      is_false (eqb k Kind.String) n7,
      is_false (eqb k Kind.Date || eqb k Kind.TimeMillis) n8,
    ) (long-time-kept k n)))

-- ---- Fixed, Decimal, Duration

-- bytes as a Fixed, where they are few enough for a frame
sized : (size : ℕ) (v : Value) (b : List ℕ) → ((e : ℕ) → T (held v e) → T (ltb (length b) 65536)) → Ends (Made (Schema.Fixed size) v) (fixed_of_bytes size b)
unfolding resolve_fixed fits resolve peel kind_of octets contents octets_held
sized size v b h =
    ends-if _ (eqb (length b) size) _ _
    (λ u. some-octets Kind.Fixed b (Schema.Fixed size) v (record { fitting = u; again = rw (is_true (eqb (length b) size) u) }) h)
    (λ _. tt)

pub made-fixed : (size : ℕ) (v : Value) → Ends (Made (Schema.Fixed size) v) (resolve_fixed size v)
unfolding resolve_fixed
made-fixed size v =
    ends-if _ (is Kind.String v) _ _ (λ t. sized size v (octets v) (λ e h. string-lt v e h t))
    λ _. ends-if _ (is Kind.Fixed v || is Kind.Bytes v) _ _
    (λ t. sized size v (octets v) (λ e h. or_cases (is Kind.Fixed v) (is Kind.Bytes v) _ t (fixed-lt v e h) (bytes_lt v e h)))
    (λ _. tt)

-- as many bytes as code points
point_bytes-length : (ps : List ℕ) → Ends (λ s. length s ≡ length ps) (point_bytes ps)
unfolding point_bytes
point_bytes-length [] = refl
point_bytes-length (p ∷ ps) = ends-if _ (leb p 255) _ _ (λ _. ends-after (λ s. length s ≡ length ps) _ (point_bytes ps) _ (point_bytes-length ps) λ s e. ap suc e) (λ _. tt)

-- no more bytes come of a text than it has
text_points-length : (t : Text) → Ends (λ s. length s ≤ length t) (text_points (code_points t))
unfolding text_points
text_points-length t = go (code_points t) refl
  where
    go : (o : Option (List ℕ)) → code_points t ≡ o → Ends (λ s. length s ≤ length t) (text_points o)
    go none e = tt
    go (some ps) e = ends-map (λ s. length s ≡ length ps) _ (point_bytes ps) (λ s q. rw q (length-code_points t ps e)) (point_bytes-length ps)

-- bytes as a Decimal, where neither 12 nor 13 stops the schema and they are few enough for a frame
precise : (p s : ℕ) (n : Option ℕ) → T (not (ltb p s)) → T (not (fixed_too_short p n)) → (v : Value) (b : List ℕ)
    → ((e : ℕ) → T (held v e) → T (ltb (length b) 65536)) → Ends (Made (Schema.Decimal p s n) v) (decimal_of_bytes p b)
unfolding resolve_decimal fits resolve peel kind_of octets contents octets_held
precise p s n x y v b h =
    ends-if _ (too_short_for p (length b)) _ _ (λ _. tt)
    (λ z. some-octets Kind.Decimal b (Schema.Decimal p s n) v
    (record { fitting = tt; again = rw (is_false (ltb p s) x, is_false (fixed_too_short p n) y, is_false (too_short_for p (length b)) z) }) h)

pub made-decimal : (p s : ℕ) (n : Option ℕ) (v : Value) → Ends (Made (Schema.Decimal p s n) v) (resolve_decimal p s n v)
unfolding resolve_decimal
made-decimal p s n v =
    ends-if _ (ltb p s) _ _ (λ _. tt)
    λ x. ends-if _ (fixed_too_short p n) _ _ (λ _. tt)
    λ y. ends-if _ (is Kind.Decimal v || is Kind.Fixed v || is Kind.Bytes v) _ _
    (λ t. precise p s n x y v (octets v)
    (λ e h. or_cases (is Kind.Decimal v || is Kind.Fixed v) (is Kind.Bytes v) _ t
    (λ u. or_cases (is Kind.Decimal v) (is Kind.Fixed v) _ u (decimal-lt v e h) (fixed-lt v e h)) (bytes_lt v e h)))
    λ _. ends-if _ (is Kind.String v) _ _
    (λ t. ends-after (λ b. length b ≤ length (octets v)) _ (text_points (code_points (octets v))) _ (text_points-length (octets v))
    λ b l. precise p s n x y v b (λ e h. lt→ltb (length b) 65536 (omega (arith, ltb→lt (length (octets v)) 65536 (string-lt v e h t)))))
    (λ _. tt)

pub made-duration : (n : ℕ) (v : Value) → Ends (Made (Schema.Duration n) v) (resolve_duration v)
unfolding resolve_duration fits resolve peel kind_of contents octets_held
made-duration n v =
    ends-if _ (is Kind.Duration v) _ _ (λ t. as_it_was Kind.Duration tt (Schema.Duration n) v t (λ u. u) (λ p. rw (p, is_true (is Kind.Duration v) t)))
    λ _. ends-if _ (is Kind.Fixed v) _ _
    (λ _. ends-if _ (eqb (length (octets v)) 12) _ _
    (λ t. some-octets Kind.Duration (octets v) (Schema.Duration n) v (record { fitting = tt; again = refl }) (λ e h. t)) (λ _. tt))
    (λ _. tt)

-- ---- Uuid

uuid-stable : (f : UuidForm) (s : List ℕ) → Stable (Schema.Uuid f) (Value.Octets Kind.Uuid s)
unfolding fits resolve resolve_uuid peel kind_of
uuid-stable UuidForm.bytes s = record { fitting = tt; again = refl }
uuid-stable UuidForm.string s = record { fitting = tt; again = refl }
uuid-stable (UuidForm.fixed n) s = record { fitting = tt; again = refl }

module _ (f : UuidForm) (v : Value) where
  a-uuid : (s : List ℕ) → length s ≡ 16 → Made (Schema.Uuid f) v (Value.Octets Kind.Uuid s)
  unfolding contents octets_held
  a-uuid s p = some-octets Kind.Uuid s (Schema.Uuid f) v (uuid-stable f s) (λ e h. eq→eqb p)

  uuid-sized : (n : ℕ) (s : List ℕ) → T (listed n) → Ends (Made (Schema.Uuid f) v) (uuid_of_bytes n s)
  unfolding uuid_of_bytes
  uuid-sized n s l = ends-if _ (eqb (length s) 16) _ _ (λ t. a-uuid s (eqb→eq (length s) 16 t)) (λ _. l)

  uuid-parsed : (o : Option (List ℕ)) → ((s : List ℕ) → o ≡ some s → length s ≡ 16) → Ends (Made (Schema.Uuid f) v) (parsed_uuid o)
  unfolding parsed_uuid
  uuid-parsed none p = tt
  uuid-parsed (some s) p = a-uuid s (p s refl)

  uuid-kept : (peel v ≡ v → resolve (Schema.Uuid f) v ≡ ok v) → T (is Kind.Uuid v) → Made (Schema.Uuid f) v v
  unfolding fits
  uuid-kept q t = as_it_was Kind.Uuid tt (Schema.Uuid f) v t (λ u. u) q

pub made-uuid : (f : UuidForm) (v : Value) → Ends (Made (Schema.Uuid f) v) (resolve_uuid f v)
unfolding resolve_uuid resolve
made-uuid UuidForm.bytes v =
    ends-if _ (is Kind.Uuid v) _ _ (λ t. uuid-kept UuidForm.bytes v (λ p. rw (p, is_true (is Kind.Uuid v) t)) t)
    λ _. ends-if _ (is Kind.Bytes v) _ _ (λ _. uuid-sized UuidForm.bytes v 11 (octets v) tt) (λ _. tt)
made-uuid UuidForm.string v =
    ends-if _ (is Kind.Uuid v) _ _ (λ t. uuid-kept UuidForm.string v (λ p. rw (p, is_true (is Kind.Uuid v) t)) t)
    λ _. ends-if _ (is Kind.String v) _ _ (λ _. uuid-parsed UuidForm.string v (uuid_of_text (octets v)) (length-uuid_of_text (octets v))) (λ _. tt)
made-uuid (UuidForm.fixed n) v =
    ends-if _ (is Kind.Uuid v) _ _ (λ t. uuid-kept (UuidForm.fixed n) v (λ p. rw (p, is_true (is Kind.Uuid v) t)) t)
    λ _. ends-if _ (is Kind.Fixed v || is Kind.String v) _ _ (λ _. uuid-sized (UuidForm.fixed n) v 10 (octets v) tt) (λ _. tt)

-- ---- symbols

-- the symbol that was looked for stands at its place
position-found : (s : Text) (ss : List Text) → Found (λ i. T (symbol_at ss i s)) (position s ss)
unfolding position symbol_at next_place
position-found s [] = tt
position-found s (t ∷ ts) = go (same t s) refl (position s ts) (position-found s ts)
  where
    go : (b : Bool) → same t s ≡ b → (o : Option ℕ) → Found (λ i. T (symbol_at ts i s)) o → Found (λ i. T (symbol_at (t ∷ ts) i s)) (when b then some 0 else next_place o)
    go true e o p = subst (λ (b : Bool). T b) (sym e) tt
    go false e none p = tt
    go false e (some i) p = p

pub symbol-at : (ss : List Text) (i : ℕ) (t : Text) → T (symbol_at ss i t) → (i < length ss) × (get_or ss i [] ≡ t)
unfolding symbol_at
symbol-at [] i t h = absurd h
symbol-at (s ∷ ss) zero t h = (omega arith, same→≡ s t h)
symbol-at (s ∷ ss) (suc i) t h = let r : (i < length ss) × (get_or ss i [] ≡ t) = symbol-at ss i t h in (omega (arith, r.0), r.1)

module _ (ss : List Text) (d : Option Text) (v : Value) where
  made-symbol : (s : Text) → (HeldText d → (e : ℕ) → T (held v e) → T (text_held s)) → (o : Option ℕ) → position s ss ≡ o → Found (λ i. T (symbol_at ss i s)) o
      → Ends (Made (Schema.Enum ss d) v) (enum_at s o)
  unfolding enum_at resolve_enum or_default fits resolve peel kind_of octets index held keys_rise no_nan
  made-symbol s t none q p = tt
  made-symbol s t (some i) q p = record {
    stable = record { fitting = p; again = rw q };
    holds = λ f g e h. and_i (ltb i (256 ^ 4)) (text_held s) (lt→ltb i (256 ^ 4) (omega (arith, (symbol-at ss i s p).0, ltb→lt (length ss) 65536 g.1))) (t g.2 e h);
    keys = tt;
    no_nan = tt;
  }

  made-or-default : (o : Outcome) → Ends (Made (Schema.Enum ss d) v) o → (c : Option Text) → d ≡ c → Ends (Made (Schema.Enum ss d) v) (or_default ss c o)
  unfolding or_default
  made-or-default (ok r) p c q = p
  made-or-default (stop n) p none q = p
  made-or-default (stop n) p (some t) q = made-symbol t (λ g e h. subst HeldText q g) (position t ss) refl (position-found t ss)

enum-text : (v : Value) (e : ℕ) → T (held v e) → T (is Kind.Enum v) → T (text_held (octets v))
unfolding held kind_of octets scalar_held octets_held contents
enum-text (Value.Scalar k n) e h t = absurd (rw (eqb→eq k Kind.Enum t) at (held-scalar k n e h))
enum-text (Value.Octets k b) e h t = absurd (rw (eqb→eq k Kind.Enum t) at (held-octets k b e h))
enum-text (Value.Enum i s) zero h t = absurd h
enum-text (Value.Enum i s) (suc e) h t = and_r (ltb i (256 ^ 4)) (text_held s) h
enum-text (Value.Array vs) e h t = absurd t
enum-text (Value.Map es) e h t = absurd t
enum-text (Value.Record es) e h t = absurd t
enum-text (Value.Union i v) e h t = absurd t

pub made_enum : (ss : List Text) (d : Option Text) (v : Value) → Ends (Made (Schema.Enum ss d) v) (resolve_enum ss d v)
unfolding resolve_enum
made_enum ss d v =
    ends-if _ (is Kind.Enum v || is Kind.String v) _ _
    (λ c. made-or-default ss d v (enum_at (octets v) (position (octets v) ss))
    (made-symbol ss d v (octets v) (λ g e h. or_cases (is Kind.Enum v) (is Kind.String v) _ c (enum-text v e h) (string-text v e h)) (position (octets v) ss) refl (position-found (octets v) ss))
    d refl)
    (λ _. tt)

-- ---- any leaf

pub made : (s : Schema) → T (childless s) → (v : Value) → Ends (Made s (peel v)) (resolve s v)
unfolding childless resolve
made (Schema.Plain k) l v = made_plain k (peel v)
made (Schema.Fixed n) l v = made-fixed n (peel v)
made (Schema.Decimal p s n) l v = made-decimal p s n (peel v)
made (Schema.Uuid f) l v = made-uuid f (peel v)
made (Schema.Duration n) l v = made-duration n (peel v)
made (Schema.Enum ss d) l v = made_enum ss d (peel v)
made (Schema.Array s) l v = absurd l
made (Schema.Map s) l v = absurd l
made (Schema.Record fs) l v = absurd l
made (Schema.Union vs ks ns) l v = absurd l
