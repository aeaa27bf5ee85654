-- Q-10: no result holds a NaN, whatever schema and value are; a Float and a Double refuse with 28 what is no number, and nothing else; infinities pass.
use Prim.Native.Nat.{ℕ}
use mathlib.Core.Path.{◌≡◌, refl, sym, ap, ◌∙◌, subst}
use mathlib.Core.Logic.{◌⊎◌, inl, inr}
use mathlib.Core.Option.{Option, none, some}
use mathlib.Core.Bool.{Bool, true, false, not}
use native.Mathlib.Omega.{arith}
use lib.Dec.{T}
use lib.Ieee.Bits.{is_true}
use lib.Ieee.Fits.{and_i}
use Rattle.base.specs.Base.{when◌then◌else◌, ok, stop}
use Rattle.base.proofs.Okay.{Okay}
use Rattle.text.specs.Text.{Text, ascii, same}
use Rattle.rounding.specs.Rounding.{infinity, signed, convert_magnitude, convert}
use Rattle.scalar.specs.Conversion.{float_of_int, float_of_long, float_of_double, double_of_int, double_of_long, double_of_float, float_is_nan, double_is_nan, parse_special_float}
use Rattle.scalar.proofs.Nans
use Rattle.frame.specs.Kind
use Rattle.frame.specs.Tree.{Value, Values, Entries, Schema, no_items, item, no_entries, entry, kind_of, is, number, octets, peel}
use Rattle.types.specs.Types.{Outcome, float_of_bits, double_of_bits, special, resolve_plain, resolve_float, resolve_double}
use Rattle.avro.specs.Resolve.{resolve}
use Rattle.avro.specs.Nans.{no_nan, items_no_nan, entries_no_nan, NotANumber, float_nan, double_nan, nan_text}
use Rattle.avro.proofs.Ends.{ends-map, ends-okay}
use Rattle.avro.proofs.Closure.{AllItems, AllEntries, entries-each, fields-each, variant-each, always}
use Rattle.avro.proofs.Made.{leaf_kind, Leaf, scalar, bytes, leaf-is, Made, made}

-- ---- no result holds a NaN

abbrev NoNan : Value → Type 0
NoNan r = T (no_nan r)

items-out : (rs : Values) → AllItems NoNan rs → T (items_no_nan rs)
unfolding no_nan
items-out no_items a = tt
items-out (item r rs) a = and_i (no_nan r) (items_no_nan rs) a.0 (items-out rs a.1)

entries-out : (rs : Entries) → AllEntries NoNan rs → T (entries_no_nan rs)
unfolding no_nan
entries-out no_entries a = tt
entries-out (entry n r rs) a = and_i (no_nan r) (entries_no_nan rs) a.0 (entries-out rs a.1)

pub no_nan-resolve : (s : Schema) (v : Value) → Okay NoNan (resolve s v)
unfolding no_nan
no_nan-resolve s v = ends-okay NoNan (resolve s v) (always (λ _. NoNan) (record {
  leaf = λ s l v. ends-map (Made s (peel v)) NoNan (resolve s v) (λ r m. m.no_nan) (made s l v);
  array = λ s vs rs m. items-out rs m.each;
  map = λ s es rs m. entries-out rs (entries-each NoNan es rs m);
  fields = λ fs rs m. entries-out rs (fields-each NoNan fs rs m);
  union = λ vs ks ns i r m. variant-each NoNan vs i r m;
}) s v)

-- ---- what is no number gives 28

pub nan-refused : (v : Value) → NotANumber (peel v) → (resolve (Schema.Plain Kind.Float) v ≡ stop 28) × (resolve (Schema.Plain Kind.Double) v ≡ stop 28)
unfolding resolve resolve_plain resolve_float resolve_double special parse_special_float double_of_float convert ascii same kind_of number octets
nan-refused v h = (to-float (peel v) h, to-double (peel v) h)
  where
    to-float : (w : Value) → NotANumber w → resolve_float w ≡ stop 28
    to-float _ (float_nan b h) = rw (is_true (float_is_nan b) h) refl
    to-float _ (double_nan b h) = rw (Nans.float_is_nan-float_of_double b, is_true (double_is_nan b) h) refl
    to-float _ nan_text = refl

    to-double : (w : Value) → NotANumber w → resolve_double w ≡ stop 28
    to-double _ (float_nan b h) = rw (Nans.double_is_nan-double_of_float b, is_true (float_is_nan b) h) refl
    to-double _ (double_nan b h) = rw (is_true (double_is_nan b) h) refl
    to-double _ nan_text = refl

-- ---- and nothing else does

-- 28 is given of w only where w is no number
abbrev Of28 : Value → Outcome → Type 0
Of28 w (ok r) = Unit
Of28 w (stop n) = n ≡ 28 → NotANumber w

of-if : (w : Value) (b : Bool) (x y : Outcome) → (T b → Of28 w x) → (T (not b) → Of28 w y) → Of28 w (when b then x else y)
of-if w true x y f g = f tt
of-if w false x y f g = g tt

of-six : (w : Value) → Of28 w (stop 6)
of-six w e = absurd (omega (arith, e))

never : (n : Bool) (w : Value) → n ≡ false → T n → NotANumber w
never true w e h = let z : ◌≡◌ {A = ℕ} 0 1 = cc in absurd (omega arith)
never false w e h = absurd h

module _ (w : Value) where
  -- a Float or a Double, of kind k, whose bits are a NaN's
  bits_are : (k : ℕ) → T (leaf_kind k) → (nan : ℕ → Bool) → nan 0 ≡ false → ((b : ℕ) → T (nan b) → NotANumber (Value.Scalar k b)) → T (is k w) → T (nan (number w)) → NotANumber w
  unfolding number
  bits_are k l nan z f t h = go (leaf-is k l w t)
    where
      go : Leaf k w → NotANumber w
      go (scalar b q) = rw q (f b (rw q at h))
      go (bytes b q) = never (nan 0) w z (rw q at h)

  float_is : T (is Kind.Float w) → T (float_is_nan (number w)) → NotANumber w
  float_is = bits_are Kind.Float tt (λ b. float_is_nan b) refl float_nan

  double-is : T (is Kind.Double w) → T (double_is_nan (number w)) → NotANumber w
  double-is = bits_are Kind.Double tt (λ b. double_is_nan b) refl double_nan

  text-is : T (is Kind.String w) → octets w ≡ ascii "NaN" → NotANumber w
  unfolding octets ascii
  text-is t e = go (leaf-is Kind.String tt w t)
    where
      go : Leaf Kind.String w → NotANumber w
      go (scalar n q) = let z : ◌≡◌ {A = ℕ} 0 1 = cc in absurd (omega arith)
      go (bytes b q) = subst NotANumber (sym (q ∙ ap (Value.Octets Kind.String) (sym (ap octets q) ∙ e))) nan_text

  -- the bits b, of which n says whether they are a NaN's
  by_bits : (j b : ℕ) (n : Bool) → (T n → NotANumber w) → Of28 w (when n then stop 28 else ok (Value.Scalar j b))
  by_bits j b n f = of-if w n _ _ (λ h _. f h) (λ _. tt)

  by-float : (b : ℕ) → (T (float_is_nan b) → NotANumber w) → Of28 w (float_of_bits b)
  by-float b = by_bits Kind.Float b (float_is_nan b)

  by-double : (b : ℕ) → (T (double_is_nan b) → NotANumber w) → Of28 w (double_of_bits b)
  by-double b = by_bits Kind.Double b (double_is_nan b)

  by-text : (f : ℕ → Outcome) → ((b : ℕ) → (T (float_is_nan b) → NotANumber w) → Of28 w (f b)) → T (is Kind.String w) → Of28 w (special f (parse_special_float (octets w)))
  unfolding special
  by-text f g t = go (parse_special_float (octets w)) refl
    where
      go : (o : Option ℕ) → parse_special_float (octets w) ≡ o → Of28 w (special f o)
      go none e = of-six w
      go (some b) e = g b (λ h. text-is t (Nans.float_is_nan-text (octets w) b e (is_true (float_is_nan b) h)))

  float-28 : Of28 w (resolve_float w)
  unfolding resolve_float
  float-28 =
      of-if w (is Kind.Int w) _ _ (λ _. by-float (float_of_int (number w)) (never _ w (Nans.float_is_nan-float_of_int (number w))))
      λ _. of-if w (is Kind.Long w) _ _ (λ _. by-float (float_of_long (number w)) (never _ w (Nans.float_is_nan-float_of_long (number w))))
      λ _. of-if w (is Kind.Float w) _ _ (λ t. by-float (number w) (float_is t))
      λ _. of-if w (is Kind.Double w) _ _ (λ t. by-float (float_of_double (number w)) (λ h. double-is t (subst T (Nans.float_is_nan-float_of_double (number w)) h)))
      λ _. of-if w (is Kind.String w) _ _ (λ t. by-text (λ b. float_of_bits b) by-float t) (λ _. of-six w)

  double-28 : Of28 w (resolve_double w)
  unfolding resolve_double
  double-28 =
      of-if w (is Kind.Int w) _ _ (λ _. by-double (double_of_int (number w)) (never _ w (Nans.double_is_nan-double_of_int (number w))))
      λ _. of-if w (is Kind.Long w) _ _ (λ _. by-double (double_of_long (number w)) (never _ w (Nans.double_is_nan-double_of_long (number w))))
      λ _. of-if w (is Kind.Float w) _ _ (λ t. by-double (double_of_float (number w)) (λ h. float_is t (subst T (Nans.double_is_nan-double_of_float (number w)) h)))
      λ _. of-if w (is Kind.Double w) _ _ (λ t. by-double (number w) (double-is t))
      λ _. of-if w (is Kind.String w) _ _ (λ t. by-text (λ b. double_of_bits (double_of_float b)) (λ b f. by-double (double_of_float b) (λ h. f (subst T (Nans.double_is_nan-double_of_float b) h))) t) (λ _. of-six w)

pub refused-nan : (v : Value) → (resolve (Schema.Plain Kind.Float) v ≡ stop 28) ⊎ (resolve (Schema.Plain Kind.Double) v ≡ stop 28) → NotANumber (peel v)
unfolding resolve resolve_plain
refused-nan v (inl e) = subst (Of28 (peel v)) e (float-28 (peel v)) refl
refused-nan v (inr e) = subst (Of28 (peel v)) e (double-28 (peel v)) refl

-- ---- infinities pass, with either sign

abbrev float_infinity : Bool → ℕ
float_infinity s = signed 24 127 s (infinity 24 127)

abbrev double_infinity : Bool → ℕ
double_infinity s = signed 53 1023 s (infinity 53 1023)

-- kept
pub infinity-kept : (s : Bool) → (resolve (Schema.Plain Kind.Float) (Value.Scalar Kind.Float (float_infinity s)) ≡ ok (Value.Scalar Kind.Float (float_infinity s)))
    × (resolve (Schema.Plain Kind.Double) (Value.Scalar Kind.Double (double_infinity s)) ≡ ok (Value.Scalar Kind.Double (double_infinity s)))
unfolding resolve resolve_plain resolve_float resolve_double kind_of number peel
infinity-kept true = (refl, refl)
infinity-kept false = (refl, refl)

-- converted
pub infinity-converted : (s : Bool) → (resolve (Schema.Plain Kind.Double) (Value.Scalar Kind.Float (float_infinity s)) ≡ ok (Value.Scalar Kind.Double (double_infinity s)))
    × (resolve (Schema.Plain Kind.Float) (Value.Scalar Kind.Double (double_infinity s)) ≡ ok (Value.Scalar Kind.Float (float_infinity s)))
unfolding resolve resolve_plain resolve_float resolve_double kind_of number peel double_of_float float_of_double convert convert_magnitude
infinity-converted true = (refl, refl)
infinity-converted false = (refl, refl)

-- from text: the short form, or the long one
abbrev infinity_text : Bool → Bool → Text
infinity_text true true = ascii "-INF"
infinity_text true false = ascii "-Infinity"
infinity_text false true = ascii "INF"
infinity_text false false = ascii "Infinity"

pub infinity-text : (s short : Bool) → (resolve (Schema.Plain Kind.Float) (Value.Octets Kind.String (infinity_text s short)) ≡ ok (Value.Scalar Kind.Float (float_infinity s)))
    × (resolve (Schema.Plain Kind.Double) (Value.Octets Kind.String (infinity_text s short)) ≡ ok (Value.Scalar Kind.Double (double_infinity s)))
unfolding resolve resolve_plain resolve_float resolve_double special parse_special_float ascii same kind_of octets peel double_of_float convert convert_magnitude
infinity-text true true = (refl, refl)
infinity-text true false = (refl, refl)
infinity-text false true = (refl, refl)
infinity-text false false = (refl, refl)
