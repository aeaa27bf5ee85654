-- What matching says, sentence by sentence (docs/RULES.md, "What is promised of results"), whatever judges a Decimal's length: so it holds of fitting too.
use Prim.Native.Nat.{ℕ, zero, suc, ◌<◌}
use mathlib.Core.Path.{◌≡◌, refl}
use mathlib.Core.List.{List, [], ◌∷◌}
use mathlib.Core.Option.{Option, some}
use mathlib.Core.Bool.{Bool, true, false, ◌&&◌, ◌||◌}
use lib.Dec.{T, eqb, eqb→eq}
use lib.ListN.{length, get_or}
use lib.Ieee.Fits.{and_l, and_r}
use Rattle.base.specs.Base.{when◌then◌else◌}
use Rattle.text.specs.Text.{Text, same}
use Rattle.text.proofs.TextLaws.{same→≡}
use Rattle.frame.specs.Kind
use Rattle.frame.specs.Tree.{Value, Values, Entries, Schema, Fields, Variants, no_entries, entry, no_fields, field, no_variants, variant, kind_of, is, index, octets, items, entries, peel, schema_kind}
use Rattle.frame.specs.Faults.{ItemOf, first_item, later_item, EntryOf, first_entry, later_entry}
use Rattle.avro.specs.Matches.{all_items, all_entries, symbol_at, stated_size, agrees, fields_agree, variant_agrees, matches, names_are, exact_names, exact_fields}
use Rattle.avro.proofs.Made.{symbol-at}
use Rattle.stability.specs.Stability.{has_name}
use Rattle.stability.proofs.Stripping.{names}

unfoldable pub field_names : Fields → List Text
field_names no_fields = []
field_names (field n d s fs) = n ∷ field_names fs

-- the first names stand among the second, in their order
pub data InOrder : List Text → List Text → Type 0 where
  ended : {ns : List Text} → InOrder [] ns
  taken : {n : Text} {ms ns : List Text} → InOrder ms ns → InOrder (n ∷ ms) (n ∷ ns)
  passed : {n : Text} {ms ns : List Text} → InOrder ms ns → InOrder ms (n ∷ ns)

-- the variant at an index
pub data VariantAt (s : Schema) : ℕ → Variants → Type 0 where
  at_zero : {vs : Variants} → VariantAt s 0 (variant s vs)
  at_suc : {i : ℕ} {t : Schema} {vs : Variants} → VariantAt s i vs → VariantAt s (suc i) (variant t vs)

item-holds : (f : Value → Bool) {v : Value} {vs : Values} → ItemOf v vs → T (all_items f vs) → T (f v)
unfolding all_items
item-holds f {v} (first_item {vs = vs}) h = and_l (f v) (all_items f vs) h
item-holds f (later_item {w = w} {vs = vs} i) h = item-holds f i (and_r (f w) (all_items f vs) h)

entry-holds : (f : Value → Bool) {v : Value} {es : Entries} → EntryOf v es → T (all_entries f es) → T (f v)
unfolding all_entries
entry-holds f {v} (first_entry {es = es}) h = and_l (f v) (all_entries f es) h
entry-holds f (later_entry {w = w} {es = es} i) h = entry-holds f i (and_r (f w) (all_entries f es) h)

module _ (decimal : Option ℕ → List ℕ → Bool) where
  -- "kinds .. are equal"
  pub matches-kind : (s : Schema) (v : Value) → T (agrees decimal s v) → kind_of v ≡ schema_kind s
  unfolding agrees schema_kind
  matches-kind (Schema.Plain k) v h = eqb→eq (kind_of v) k h
  matches-kind (Schema.Fixed n) v h = eqb→eq (kind_of v) Kind.Fixed (and_l (is Kind.Fixed v) (eqb (length (octets v)) n) h)
  matches-kind (Schema.Decimal p c n) v h = eqb→eq (kind_of v) Kind.Decimal (and_l (is Kind.Decimal v) (decimal n (octets v)) h)
  matches-kind (Schema.Uuid f) v h = eqb→eq (kind_of v) Kind.Uuid h
  matches-kind (Schema.Duration n) v h = eqb→eq (kind_of v) Kind.Duration h
  matches-kind (Schema.Enum ss d) v h = eqb→eq (kind_of v) Kind.Enum (and_l (is Kind.Enum v) (symbol_at ss (index v) (octets v)) h)
  matches-kind (Schema.Array s) v h = eqb→eq (kind_of v) Kind.Array (and_l (is Kind.Array v) (all_items (λ w. agrees decimal s w) (items v)) h)
  matches-kind (Schema.Map s) v h = eqb→eq (kind_of v) Kind.Map (and_l (is Kind.Map v) (all_entries (λ w. agrees decimal s w) (entries v)) h)
  matches-kind (Schema.Record fs) v h = eqb→eq (kind_of v) Kind.Record (and_l (is Kind.Record v) (fields_agree decimal fs (entries v)) h)
  matches-kind (Schema.Union vs ks ns) v h = eqb→eq (kind_of v) Kind.Union (and_l (is Kind.Union v) (variant_agrees decimal vs (index v) (peel v)) h)

  -- "kinds and sizes are equal": a Fixed's; a Decimal's is `decimal-size`
  pub fixed-size : (n : ℕ) (v : Value) → T (agrees decimal (Schema.Fixed n) v) → length (octets v) ≡ n
  unfolding agrees
  fixed-size n v h = eqb→eq (length (octets v)) n (and_r (is Kind.Fixed v) (eqb (length (octets v)) n) h)

  -- "record fields stand in schema order"
  in_order : (fs : Fields) (es : Entries) → T (fields_agree decimal fs es) → InOrder (names es) (field_names fs)
  unfolding agrees names field_names
  in_order no_fields no_entries h = ended
  in_order no_fields (entry m v es) h = absurd h
  in_order (field n d s fs) no_entries h = ended
  in_order (field n d s fs) (entry m v es) h = go (same m n) refl h (λ k. in_order fs es k) (λ k. in_order fs (entry m v es) k)
    where
      go : (b : Bool) → same m n ≡ b → T (when b then agrees decimal s v && fields_agree decimal fs es else fields_agree decimal fs (entry m v es))
          → (T (fields_agree decimal fs es) → InOrder (names es) (field_names fs)) → (T (fields_agree decimal fs (entry m v es)) → InOrder (m ∷ names es) (field_names fs))
          → InOrder (m ∷ names es) (n ∷ field_names fs)
      go true p h f g = rw (same→≡ m n (rw p tt)) (taken (f (and_r (agrees decimal s v) (fields_agree decimal fs es) h)))
      go false p h f g = passed (g h)

  pub fields-in-order : (fs : Fields) (es : Entries) → T (agrees decimal (Schema.Record fs) (Value.Record es)) → InOrder (names es) (field_names fs)
  unfolding agrees kind_of entries
  fields-in-order fs es h = in_order fs es h

  -- a field that is missing is no matter
  pub field-missing : (n : Text) (d : Option Value) (s : Schema) (fs : Fields) (es : Entries) → has_name n es ≡ false → T (agrees decimal (Schema.Record fs) (Value.Record es))
      → T (agrees decimal (Schema.Record (field n d s fs)) (Value.Record es))
  unfolding agrees kind_of entries has_name
  field-missing n d s fs no_entries e h = tt
  field-missing n d s fs (entry m v es) e h = rw (first-false (same m n) (has_name n es) e) h
    where
      first-false : (a b : Bool) → (a || b) ≡ false → a ≡ false
      first-false true b e = e
      first-false false b e = refl

  -- "each symbol is the one at its index"
  pub matches-symbol : (ss : List Text) (d : Option Text) (i : ℕ) (t : Text) → T (agrees decimal (Schema.Enum ss d) (Value.Enum i t)) → (i < length ss) × (get_or ss i [] ≡ t)
  unfolding agrees kind_of index octets
  matches-symbol ss d i t h = symbol-at ss i t h

  -- "each union node matches the variant at its index"
  variant-at : (vs : Variants) (i : ℕ) (v : Value) → T (variant_agrees decimal vs i v) → (s : Schema) × VariantAt s i vs × T (agrees decimal s v)
  unfolding agrees
  variant-at no_variants i v h = absurd h
  variant-at (variant s vs) zero v h = (s, at_zero, h)
  variant-at (variant s vs) (suc i) v h = let r = variant-at vs i v h in (r.0, at_suc r.1, r.2)

  pub matches-variant : (vs : Variants) (ks : List (ℕ × ℕ)) (ns : List ℕ) (i : ℕ) (v : Value) → T (agrees decimal (Schema.Union vs ks ns) (Value.Union i v))
      → (s : Schema) × VariantAt s i vs × T (agrees decimal s v)
  unfolding agrees kind_of index peel
  matches-variant vs ks ns i v h = variant-at vs i v h

  -- node for node: items and map nodes match too
  pub matches-item : (s : Schema) (vs : Values) (x : Value) → ItemOf x vs → T (agrees decimal (Schema.Array s) (Value.Array vs)) → T (agrees decimal s x)
  unfolding agrees kind_of items
  matches-item s vs x i h = item-holds (λ w. agrees decimal s w) i h

  pub matches-entry : (s : Schema) (es : Entries) (x : Value) → EntryOf x es → T (agrees decimal (Schema.Map s) (Value.Map es)) → T (agrees decimal s x)
  unfolding agrees kind_of entries
  matches-entry s es x i h = entry-holds (λ w. agrees decimal s w) i h

pub decimal-size : (p c n : ℕ) (v : Value) → T (matches (Schema.Decimal p c (some n)) v) → length (octets v) ≡ n
unfolding agrees stated_size
decimal-size p c n v h = eqb→eq (length (octets v)) n (and_r (is Kind.Decimal v) (eqb (length (octets v)) n) h)

-- "exactly the schema's field names in each Record"
names-are : (fs : Fields) (es : Entries) → T (names_are fs es) → names es ≡ field_names fs
unfolding names_are names field_names
names-are no_fields no_entries h = refl
names-are no_fields (entry m v es) h = absurd h
names-are (field n d s fs) no_entries h = absurd h
names-are (field n d s fs) (entry m v es) h =
    let p : m ≡ n = same→≡ m n (and_l (same m n) (names_are fs es) h) in
    let q : names es ≡ field_names fs = names-are fs es (and_r (same m n) (names_are fs es) h) in
    λ i. p i ∷ q i

pub exact-record : (fs : Fields) (es : Entries) → T (exact_names (Schema.Record fs) (Value.Record es)) → names es ≡ field_names fs
unfolding exact_names entries
exact-record fs es h = names-are fs es (and_l (names_are fs es) (exact_fields fs es) h)
