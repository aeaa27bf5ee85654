-- To fit is to match, with exactly the schema's field names, a Decimal's length apart (docs/RULES.md, "What is promised of results").
use Prim.Native.Nat.{ℕ, zero, suc}
use mathlib.Core.Path.{◌≡◌, refl, ap, ◌∙◌, sym}
use mathlib.Core.Bool.{Bool, true, false, ◌&&◌, and-true}
use native.Mathlib.Omega.{arith}
use lib.Dec.{T, eqb, eqb→eq}
use lib.ListN.{length}
use lib.Ieee.Fits.{and_l, and_r, and_i}
use Rattle.base.specs.Base.{when◌then◌else◌}
use Rattle.text.specs.Text.{same}
use Rattle.frame.specs.Kind
use Rattle.frame.specs.Tree.{Value, Values, Entries, Schema, Fields, Variants, UuidForm, no_items, item, no_entries, entry, no_fields, field, no_variants, variant, kind_of, is, index, octets, items, entries, peel}
use Rattle.frame.specs.ValueFrame.{plain, contents, kind_content}
use Rattle.frame.specs.Sound.{schema_sound, uuid_size_sound}
use Rattle.frame.proofs.RoundTrip.{held, octets_held, scalar_held}
use Rattle.avro.specs.Matches.{all_items, all_entries, symbol_at, stated_size, any_size, agrees, fields_agree, variant_agrees, matches, names_are, exact_names, exact_fields, exact_variant, fits, fields_fit, variant_fits}

-- ---- two tests of a list are a test of both

regroup : (a b c d : Bool) → ((a && b) && (c && d)) ≡ ((a && c) && (b && d))
regroup true b true d = refl
regroup true true false d = refl
regroup true false false d = refl
regroup false b c d = refl

all-items : (f g h : Value → Bool) → ((v : Value) → f v ≡ (g v && h v)) → (vs : Values) → all_items f vs ≡ (all_items g vs && all_items h vs)
unfolding all_items
all-items f g h e no_items = refl
all-items f g h e (item v vs) = rw (e v, all-items f g h e vs) (regroup (g v) (h v) (all_items g vs) (all_items h vs))

all-entries : (f g h : Value → Bool) → ((v : Value) → f v ≡ (g v && h v)) → (es : Entries) → all_entries f es ≡ (all_entries g es && all_entries h es)
unfolding all_entries
all-entries f g h e no_entries = refl
all-entries f g h e (entry n v es) = rw (e v, all-entries f g h e es) (regroup (g v) (h v) (all_entries g es) (all_entries h es))

under : (k a b c : Bool) → a ≡ (b && c) → (k && a) ≡ ((k && b) && c)
under true a b c e = e
under false a b c e = refl

alone : (a : Bool) → a ≡ (a && true)
alone a = sym (and-true a)

-- one field, by its name, its value and what is left of the record
one_field : (n a x fa na ef other : Bool) → ((n && (a && x)) && (fa && (na && ef))) ≡ ((when n then a && fa else other) && ((n && na) && (x && ef)))
one_field true true true fa na ef other = refl
one_field true true false true true ef other = refl
one_field true true false true false ef other = refl
one_field true true false false na ef other = refl
one_field true false x fa na ef other = refl
one_field false a x fa na ef true = refl
one_field false a x fa na ef false = refl

mutual
  unfolding fits agrees exact_names names_are

  pub fits-matches : (s : Schema) (v : Value) → fits s v ≡ (agrees any_size s v && exact_names s v)
  fits-matches (Schema.Plain k) v = alone (is k v)
  fits-matches (Schema.Fixed n) v = alone (is Kind.Fixed v && eqb (length (octets v)) n)
  fits-matches (Schema.Decimal p c n) v = alone (is Kind.Decimal v) ∙ alone (is Kind.Decimal v && true)
  fits-matches (Schema.Uuid f) v = alone (is Kind.Uuid v)
  fits-matches (Schema.Duration n) v = alone (is Kind.Duration v)
  fits-matches (Schema.Enum ss d) v = alone (is Kind.Enum v && symbol_at ss (index v) (octets v))
  fits-matches (Schema.Array s) v =
      under (is Kind.Array v) (all_items (λ w. fits s w) (items v)) (all_items (λ w. agrees any_size s w) (items v)) (all_items (λ w. exact_names s w) (items v))
      (all-items (λ w. fits s w) (λ w. agrees any_size s w) (λ w. exact_names s w) (λ w. fits-matches s w) (items v))
  fits-matches (Schema.Map s) v =
      under (is Kind.Map v) (all_entries (λ w. fits s w) (entries v)) (all_entries (λ w. agrees any_size s w) (entries v)) (all_entries (λ w. exact_names s w) (entries v))
      (all-entries (λ w. fits s w) (λ w. agrees any_size s w) (λ w. exact_names s w) (λ w. fits-matches s w) (entries v))
  fits-matches (Schema.Record fs) v =
      under (is Kind.Record v) (fields_fit fs (entries v)) (fields_agree any_size fs (entries v)) (names_are fs (entries v) && exact_fields fs (entries v)) (fields-match fs (entries v))
  fits-matches (Schema.Union vs ks ns) v =
      under (is Kind.Union v) (variant_fits vs (index v) (peel v)) (variant_agrees any_size vs (index v) (peel v)) (exact_variant vs (index v) (peel v)) (variant-matches vs (index v) (peel v))

  fields-match : (fs : Fields) (es : Entries) → fields_fit fs es ≡ (fields_agree any_size fs es && (names_are fs es && exact_fields fs es))
  fields-match no_fields no_entries = refl
  fields-match no_fields (entry m v es) = refl
  fields-match (field n d s fs) no_entries = refl
  fields-match (field n d s fs) (entry m v es) =
      rw (fits-matches s v, fields-match fs es)
      (one_field (same m n) (agrees any_size s v) (exact_names s v) (fields_agree any_size fs es) (names_are fs es) (exact_fields fs es) (fields_agree any_size fs (entry m v es)))

  variant-matches : (vs : Variants) (i : ℕ) (v : Value) → variant_fits vs i v ≡ (variant_agrees any_size vs i v && exact_variant vs i v)
  variant-matches no_variants i v = refl
  variant-matches (variant s vs) zero v = fits-matches s v
  variant-matches (variant s vs) (suc i) v = variant-matches vs i v

-- ---- what matches, with exactly the schema's field names, fits

and_both : (a b c d : Bool) → (T a → T c) → (T b → T d) → T (a && b) → T (c && d)
and_both a b c d f g h = and_i c d (f (and_l a b h)) (g (and_r a b h))

items-mono : (f g : Value → Bool) → ((v : Value) → T (f v) → T (g v)) → (vs : Values) → T (all_items f vs) → T (all_items g vs)
unfolding all_items
items-mono f g e no_items h = tt
items-mono f g e (item v vs) h = and_both (f v) (all_items f vs) (g v) (all_items g vs) (e v) (items-mono f g e vs) h

entries-mono : (f g : Value → Bool) → ((v : Value) → T (f v) → T (g v)) → (es : Entries) → T (all_entries f es) → T (all_entries g es)
unfolding all_entries
entries-mono f g e no_entries h = tt
entries-mono f g e (entry n v es) h = and_both (f v) (all_entries f es) (g v) (all_entries g es) (e v) (entries-mono f g e es) h

either : (n a b c d : Bool) → (T a → T b) → (T c → T d) → T (when n then a else c) → T (when n then b else d)
either true a b c d f g h = f h
either false a b c d f g h = g h

mutual
  unfolding agrees

  any-size : (s : Schema) (v : Value) → T (matches s v) → T (agrees any_size s v)
  any-size (Schema.Plain k) v h = h
  any-size (Schema.Fixed n) v h = h
  any-size (Schema.Decimal p c n) v h = and_both (is Kind.Decimal v) (stated_size n (octets v)) (is Kind.Decimal v) true (λ x. x) (λ x. tt) h
  any-size (Schema.Uuid u) v h = h
  any-size (Schema.Duration n) v h = h
  any-size (Schema.Enum ss d) v h = h
  any-size (Schema.Array s) v h =
      and_both (is Kind.Array v) (all_items (λ w. matches s w) (items v)) (is Kind.Array v) (all_items (λ w. agrees any_size s w) (items v)) (λ x. x)
      (items-mono (λ w. matches s w) (λ w. agrees any_size s w) (λ w x. any-size s w x) (items v)) h
  any-size (Schema.Map s) v h =
      and_both (is Kind.Map v) (all_entries (λ w. matches s w) (entries v)) (is Kind.Map v) (all_entries (λ w. agrees any_size s w) (entries v)) (λ x. x)
      (entries-mono (λ w. matches s w) (λ w. agrees any_size s w) (λ w x. any-size s w x) (entries v)) h
  any-size (Schema.Record fs) v h =
      and_both (is Kind.Record v) (fields_agree stated_size fs (entries v)) (is Kind.Record v) (fields_agree any_size fs (entries v)) (λ x. x) (λ x. fields-any fs (entries v) x) h
  any-size (Schema.Union vs ks ns) v h =
      and_both (is Kind.Union v) (variant_agrees stated_size vs (index v) (peel v)) (is Kind.Union v) (variant_agrees any_size vs (index v) (peel v)) (λ x. x)
      (λ x. variant-any vs (index v) (peel v) x) h

  fields-any : (fs : Fields) (es : Entries) → T (fields_agree stated_size fs es) → T (fields_agree any_size fs es)
  fields-any no_fields no_entries h = h
  fields-any no_fields (entry m v es) h = h
  fields-any (field n d s fs) no_entries h = h
  fields-any (field n d s fs) (entry m v es) h =
      either (same m n) (matches s v && fields_agree stated_size fs es) (agrees any_size s v && fields_agree any_size fs es)
      (fields_agree stated_size fs (entry m v es)) (fields_agree any_size fs (entry m v es))
      (and_both (matches s v) (fields_agree stated_size fs es) (agrees any_size s v) (fields_agree any_size fs es) (λ x. any-size s v x) (λ x. fields-any fs es x))
      (λ x. fields-any fs (entry m v es) x) h

  variant-any : (vs : Variants) (i : ℕ) (v : Value) → T (variant_agrees stated_size vs i v) → T (variant_agrees any_size vs i v)
  variant-any no_variants i v h = h
  variant-any (variant s vs) zero v h = any-size s v h
  variant-any (variant s vs) (suc i) v h = variant-any vs i v h

pub matches-fits : (s : Schema) (v : Value) → T (matches s v) → T (exact_names s v) → T (fits s v)
matches-fits s v h k = rw (fits-matches s v) (and_i (agrees any_size s v) (exact_names s v) (any-size s v h) k)

-- ---- the sizes of a Duration and of a Uuid are equal without a test

-- a kind of so many bytes has so many in every frame
plain_size : (k w : ℕ) → kind_content k ≡ plain w → (v : Value) (d : ℕ) → T (held v d) → T (is k v) → length (octets v) ≡ w
unfolding held scalar_held octets_held kind_of octets contents
plain_size k w c (Value.Scalar j n) (suc d) h i = absurd (rw (eqb→eq j k i, c) at h)
plain_size k w c (Value.Octets j b) (suc d) h i = eqb→eq (length b) w (rw (eqb→eq j k i, c) at h)
plain_size k w c (Value.Enum j s) (suc d) h i = let e : kind_content Kind.Enum ≡ plain w = ap kind_content (eqb→eq Kind.Enum k i) ∙ c in let z : ◌≡◌ {A = ℕ} 0 1 = cc in absurd (omega arith)
plain_size k w c (Value.Array vs) (suc d) h i = let e : kind_content Kind.Array ≡ plain w = ap kind_content (eqb→eq Kind.Array k i) ∙ c in let z : ◌≡◌ {A = ℕ} 0 1 = cc in absurd (omega arith)
plain_size k w c (Value.Map es) (suc d) h i = let e : kind_content Kind.Map ≡ plain w = ap kind_content (eqb→eq Kind.Map k i) ∙ c in let z : ◌≡◌ {A = ℕ} 0 1 = cc in absurd (omega arith)
plain_size k w c (Value.Record es) (suc d) h i = let e : kind_content Kind.Record ≡ plain w = ap kind_content (eqb→eq Kind.Record k i) ∙ c in let z : ◌≡◌ {A = ℕ} 0 1 = cc in absurd (omega arith)
plain_size k w c (Value.Union j v) (suc d) h i = let e : kind_content Kind.Union ≡ plain w = ap kind_content (eqb→eq Kind.Union k i) ∙ c in let z : ◌≡◌ {A = ℕ} 0 1 = cc in absurd (omega arith)
plain_size k w c (Value.Scalar j n) zero h i = absurd h
plain_size k w c (Value.Octets j b) zero h i = absurd h
plain_size k w c (Value.Enum j s) zero h i = absurd h
plain_size k w c (Value.Array vs) zero h i = absurd h
plain_size k w c (Value.Map es) zero h i = absurd h
plain_size k w c (Value.Record es) zero h i = absurd h
plain_size k w c (Value.Union j v) zero h i = absurd h

pub duration_size : (n : ℕ) (v : Value) (d : ℕ) → T (schema_sound (Schema.Duration n)) → T (held v d) → T (fits (Schema.Duration n) v) → length (octets v) ≡ n
unfolding schema_sound fits contents
duration_size n v d s h i = plain_size Kind.Duration 12 refl v d h i ∙ sym (eqb→eq n 12 s)

pub uuid_size : (n : ℕ) (v : Value) (d : ℕ) → T (schema_sound (Schema.Uuid (UuidForm.fixed n))) → T (held v d) → T (fits (Schema.Uuid (UuidForm.fixed n)) v) → length (octets v) ≡ n
unfolding schema_sound uuid_size_sound fits contents
uuid_size n v d s h i = plain_size Kind.Uuid 16 refl v d h i ∙ sym (eqb→eq n 16 s)
