-- Under nullable pairs an accepted result fits the schema and resolves to itself.
use Prim.Native.Nat.{ℕ, zero, suc}
use mathlib.Core.Path.{◌≡◌, refl}
use mathlib.Core.List.{List}
use mathlib.Core.Option.{Option, none, some, or_else}
use mathlib.Core.Bool.{Bool, true, false, ◌&&◌, ◌||◌, not}
use lib.Dec.{T}
use lib.Ieee.Bits.{is_true}
use lib.Ieee.Fits.{and_l, and_r, and_i}
use Rattle.base.specs.Base.{when◌then◌else◌, ok, stop, after}
use Rattle.base.proofs.Okay.{okay-is}
use Rattle.text.specs.Text.{Text, same}
use Rattle.text.proofs.TextLaws.{same→≡}
use Rattle.frame.specs.Tree.{Value, Values, Entries, Schema, Fields, Variants, no_items, item, no_entries, entry, no_fields, field, no_variants, variant, kind_of, items, entries, peel, schema_kind}
use Rattle.frame.specs.Sound.{schema_sound, fields_sound, variants_sound, has_field, count_variants}
use Rattle.frame.proofs.SoundLaws.{SoundUnion, SoundVariant, sound-union, sound-variant, sound-field}
use Rattle.types.specs.Types.{Outcome, resolve_enum}
use Rattle.avro.specs.Resolve.{each_item, each_entry, resolve_array, resolve_map, resolve_record, last_under, field_value, resolve, resolve_fields}
use Rattle.avro.specs.Matches.{all_items, all_entries, fits, fields_fit}
use Rattle.avro.specs.Pairs.{nullable_pair, nullable_pairs, field_pairs, variant_pairs}
use Rattle.avro.proofs.Ends.{Ends, ends-map, ends-okay}
use Rattle.avro.proofs.SchemaCases.{pair, by-pair, EveryVariant}
use Rattle.avro.proofs.Closure.{AllItems, AllEntries, ItemsMade, EntriesMade, FieldsMade, AtVariant, InFields, First, Comes, comes}
use Rattle.avro.proofs.Made.{Stable, Made, made, made_enum, peel-kind}
use Rattle.avro.proofs.PairChoice.{fits-kind, stable-0, stable-1}
use Rattle.stability.proofs.Alike.{same_refl}

-- ---- what is asked: number 3 passes the schema, and its unions are nullable pairs; of a value nothing is

record Fine (s : Schema) : Type 0 where
  sound : T (schema_sound s)
  pairs : T (nullable_pairs s)

abbrev In : Schema → Value → Type 0
In s v = Fine s

-- ---- arrays and maps

items-in : (s : Schema) → Fine s → (vs : Values) → AllItems (In s) vs
items-in s f no_items = tt
items-in s f (item v vs) = (f, items-in s f vs)

entries-in : (s : Schema) → Fine s → (es : Entries) → AllEntries (In s) es
entries-in s f no_entries = tt
entries-in s f (entry n v es) = (f, entries-in s f es)

items-out : (s : Schema) (rs : Values) → AllItems (Stable s) rs → T (all_items (λ w. fits s w) rs) × (each_item (λ w. resolve s w) rs ≡ ok rs)
unfolding all_items each_item after
items-out s no_items m = (tt, refl)
items-out s (item r rs) m =
    let q : T (all_items (λ w. fits s w) rs) × (each_item (λ w. resolve s w) rs ≡ ok rs) = items-out s rs m.1 in
    (and_i (fits s r) (all_items (λ w. fits s w) rs) m.0.fitting q.0, rw (m.0.again, q.1))

entries-out : (s : Schema) (es rs : Entries) → EntriesMade (Stable s) es rs → T (all_entries (λ w. fits s w) rs) × (each_entry (λ w. resolve s w) rs ≡ ok rs)
unfolding all_entries each_entry after
entries-out s no_entries no_entries m = (tt, refl)
entries-out s no_entries (entry n r rs) m = absurd m
entries-out s (entry n v es) no_entries m = absurd m
entries-out s (entry n v es) (entry n' r rs) m =
    let q : T (all_entries (λ w. fits s w) rs) × (each_entry (λ w. resolve s w) rs ≡ ok rs) = entries-out s es rs m.2 in
    (and_i (fits s r) (all_entries (λ w. fits s w) rs) m.1.fitting q.0, rw (m.1.again, q.1))

fine-array : (s : Schema) → Fine (Schema.Array s) → Fine s
unfolding schema_sound nullable_pairs
fine-array s f = record { sound = f.sound; pairs = f.pairs }

fine-map : (s : Schema) → Fine (Schema.Map s) → Fine s
unfolding schema_sound nullable_pairs
fine-map s f = record { sound = f.sound; pairs = f.pairs }

array-out : (s : Schema) (vs rs : Values) → ItemsMade (Stable s) vs rs → Stable (Schema.Array s) (Value.Array rs)
unfolding resolve resolve_array fits kind_of peel items after
array-out s vs rs m = let q = items-out s rs m.each in record { fitting = q.0; again = rw q.1 }

map-out : (s : Schema) (es rs : Entries) → EntriesMade (Stable s) es rs → Stable (Schema.Map s) (Value.Map rs)
unfolding resolve resolve_map fits kind_of peel entries after
map-out s es rs m = let q = entries-out s es rs m in record { fitting = q.0; again = rw q.1 }

-- ---- records

fields_in : (fs : Fields) → T (fields_sound fs) → T (field_pairs fs) → (es : Entries) → InFields In Stable fs es
unfolding nullable_pairs
fields_in no_fields z p es = tt
fields_in (field n d s fs) z p es =
    let f = sound-field n d s fs z in
    let g : Fine s = record { sound = f.schema; pairs = and_l (nullable_pairs s) (field_pairs fs) p } in
    (record { value = λ _ _. g; default = λ _ _ _. g }, fields_in fs f.rest (and_r (nullable_pairs s) (field_pairs fs) p) es)

record-in : (fs : Fields) → Fine (Schema.Record fs) → (es : Entries) → InFields In Stable fs es
unfolding schema_sound nullable_pairs
record-in fs f es = fields_in fs f.sound f.pairs es

-- ws has each field's value of rs under its name
abbrev EachUnder : Fields → Entries → Entries → Type 0
EachUnder no_fields rs ws = Unit
EachUnder (field n d s fs) no_entries ws = ⊥
EachUnder (field n d s fs) (entry m v rs) ws = (last_under n ws ≡ some v) × EachUnder fs rs ws

fields_fit_lem : (fs : Fields) (rs : Entries) → FieldsMade Stable fs rs → T (fields_fit fs rs)
unfolding fits
fields_fit_lem no_fields no_entries m = tt
fields_fit_lem no_fields (entry n r rs) m = absurd m
fields_fit_lem (field n d s fs) no_entries m = absurd m
fields_fit_lem (field n d s fs) (entry n' r rs) m =
    and_i (same n' n && fits s r) (fields_fit fs rs) (and_i (same n' n) (fits s r) (rw m.0 (same_refl n)) m.1.fitting) (fields_fit_lem fs rs m.2)

fields-again : (fs : Fields) (rs : Entries) → FieldsMade Stable fs rs → (ws : Entries) → EachUnder fs rs ws → resolve_fields fs ws ≡ ok rs
unfolding resolve field_value after
fields-again no_fields no_entries m ws k = refl
fields-again no_fields (entry n r rs) m ws k = absurd m
fields-again (field n d s fs) no_entries m ws k = absurd m
fields-again (field n d s fs) (entry n' r rs) m ws k = rw (k.0, m.1.again, fields-again fs rs m.2 ws k.1, m.0)

last_under-none : (n : Text) (fs : Fields) (rs : Entries) → T (fields_fit fs rs) → T (not (has_field n fs)) → last_under n rs ≡ none
unfolding fits has_field last_under or_else
last_under-none n no_fields no_entries f h = refl
last_under-none n no_fields (entry m v rs) f h = absurd f
last_under-none n (field k d s fs) no_entries f h = absurd f
last_under-none n (field k d s fs) (entry m v rs) f h =
    let f₁ : T (same m k && fits s v) = and_l (same m k && fits s v) (fields_fit fs rs) f in
    let e : m ≡ k = same→≡ m k (and_l (same m k) (fits s v) f₁) in
    go (same k n) refl h (λ g. last_under-none n fs rs (and_r (same m k && fits s v) (fields_fit fs rs) f) g) e
  where
    go : (b : Bool) → same k n ≡ b → T (not (b || has_field n fs)) → (T (not (has_field n fs)) → last_under n rs ≡ none) → m ≡ k
        → or_else (last_under n rs) (when same m n then some v else none) ≡ none
    go true p g rest e = absurd g
    go false p g rest e = rw (rest g, e, p)

holds-behind : (fs : Fields) (rs ws : Entries) (m : Text) (v : Value) → EachUnder fs rs ws → EachUnder fs rs (entry m v ws)
unfolding last_under or_else
holds-behind no_fields rs ws m v h = tt
holds-behind (field n d s fs) no_entries ws m v h = h
holds-behind (field n d s fs) (entry k w rs) ws m v h = (rw h.0, holds-behind fs rs ws m v h.1)

holds-self : (fs : Fields) (rs : Entries) → T (fields_sound fs) → T (fields_fit fs rs) → EachUnder fs rs rs
unfolding schema_sound fits last_under or_else
holds-self no_fields rs h f = tt
holds-self (field n d s fs) no_entries h f = f
holds-self (field n d s fs) (entry m v rs) h f =
    let z = sound-field n d s fs h in
    let f₁ : T (same m n && fits s v) = and_l (same m n && fits s v) (fields_fit fs rs) f in
    let f₂ : T (fields_fit fs rs) = and_r (same m n && fits s v) (fields_fit fs rs) f in (
      rw (last_under-none n fs rs f₂ z.new, is_true (same m n) (and_l (same m n) (fits s v) f₁)),
      holds-behind fs rs rs m v (holds-self fs rs z.rest f₂),
    )

record-out : (fs : Fields) → Fine (Schema.Record fs) → (rs : Entries) → FieldsMade Stable fs rs → Stable (Schema.Record fs) (Value.Record rs)
unfolding resolve resolve_record fits kind_of peel entries after schema_sound
record-out fs g rs m =
    let f : T (fields_fit fs rs) = fields_fit_lem fs rs m in
    record { fitting = f; again = rw (fields-again fs rs m rs (holds-self fs rs g.sound f)) }

-- ---- unions

variants-in : (vs : Variants) → T (variants_sound vs) → T (variant_pairs vs) → EveryVariant Fine vs
unfolding nullable_pairs
variants-in no_variants z p = tt
variants-in (variant s vs) z p =
    let f = sound-variant s vs z in
    (record { sound = f.schema; pairs = and_l (nullable_pairs s) (variant_pairs vs) p }, variants-in vs f.rest (and_r (nullable_pairs s) (variant_pairs vs) p))

module _ (vs : Variants) (ks : List (ℕ × ℕ)) (ns : List ℕ) (f : Fine (Schema.Union vs ks ns)) where
  is-pair : T (nullable_pair vs ks)
  unfolding nullable_pairs
  is-pair = and_l (nullable_pair vs ks) (variant_pairs vs) f.pairs

  union-in : EveryVariant Fine vs
  unfolding nullable_pairs
  union-in = variants-in vs (sound-union vs ks ns f.sound).variants (and_r (nullable_pair vs ks) (variant_pairs vs) f.pairs)

module _ (a b : Schema) (ks : List (ℕ × ℕ)) (ns : List ℕ) (f : Fine (Schema.Union (pair a b) ks ns)) where
  pair-sound : SoundUnion (pair a b) ks ns
  pair-sound = sound-union (pair a b) ks ns f.sound

  side-a : SoundVariant a (variant b no_variants)
  side-a = sound-variant a (variant b no_variants) pair-sound.variants

  side-b : SoundVariant b no_variants
  side-b = sound-variant b no_variants side-a.rest

  -- whichever variant something stable came of, its Union is stable
  pair-out : (i : ℕ) (r : Value) → AtVariant Stable (pair a b) i r → Stable (Schema.Union (pair a b) ks ns) (Value.Union i r)
  unfolding count_variants
  pair-out zero r m = stable-0 a b ks ns side-a.no_union side-b.no_union (is-pair (pair a b) ks ns f) pair-sound.kinds r m
  pair-out (suc zero) r m = stable-1 a b ks ns side-a.no_union side-b.no_union (is-pair (pair a b) ks ns f) pair-sound.kinds r m
  pair-out (suc (suc i)) r m = absurd m

union-out : (vs : Variants) (ks : List (ℕ × ℕ)) (ns : List ℕ) → Fine (Schema.Union vs ks ns) → (i : ℕ) (r : Value) → AtVariant Stable vs i r → Stable (Schema.Union vs ks ns) (Value.Union i r)
union-out vs ks ns f =
    by-pair (λ us. Fine (Schema.Union us ks ns) → (i : ℕ) (r : Value) → AtVariant Stable us i r → Stable (Schema.Union us ks ns) (Value.Union i r)) vs ks
    (is-pair vs ks ns f) (λ a b. pair-out a b ks ns) f

-- ---- defaults

first-in : (u : Schema) → Fine u → (vs : Variants) → EveryVariant Fine vs → (d : Value) → First In Stable u vs d
first-in u f no_variants g d = tt
first-in u f (variant s vs) g d = (g.0, λ _ _. f)

-- ---- any schema

-- a result that comes out fits its schema and resolves to itself
pub settled : (s : Schema) → T (schema_sound s) → T (nullable_pairs s) → (v r : Value) → resolve s v ≡ ok r → Stable s r
settled s h p v r e = okay-is (Stable s) (resolve s v) r (ends-okay (Stable s) (resolve s v) (settles s v (record { sound = h; pairs = p }))) e
  where
    settles : (s : Schema) → Comes In Stable s
    settles = comes In Stable (record {
      leaf = λ s l v p. ends-map (Made s (peel v)) (Stable s) (resolve s v) (λ r m. m.stable) (made s l v);
      array-in = λ s v p. items-in s (fine-array s p) (items (peel v));
      array-out = λ s v p rs m. array-out s (items (peel v)) rs m;
      map-in = λ s v p t. entries-in s (fine-map s p) (entries (peel v));
      map-out = λ s v p t rs m. map-out s (entries (peel v)) rs m;
      record-in = λ fs v p t. record-in fs p (entries (peel v));
      record-out = λ fs v p rs m. record-out fs p rs m;
      union-in = λ vs ks ns v p. union-in vs ks ns p;
      union-out = λ vs ks ns v p. union-out vs ks ns p;
      null-in = λ vs ks ns d p. p;
      first-in = λ vs ks ns d p. first-in (Schema.Union vs ks ns) p vs (union-in vs ks ns p) d;
    })

-- the Rust resolves the default of an Enum field twice, which is once
pub enum-twice : (ss : List Text) (d : Option Text) (v : Value) → after (resolve_enum ss d v) (resolve_enum ss d) ≡ resolve_enum ss d v
unfolding after resolve schema_kind
enum-twice ss d v = go (resolve_enum ss d v) (made_enum ss d v)
  where
    go : (o : Outcome) → Ends (Made (Schema.Enum ss d) v) o → after o (resolve_enum ss d) ≡ o
    go (ok r) p = rw (peel-kind r (rw (fits-kind (Schema.Enum ss d) r p.stable.fitting) tt)) at p.stable.again
    go (stop n) p = refl
