-- Where map keys rise in a value and in a sound schema's defaults, they rise in what resolution makes.
use Prim.Native.Nat.{ℕ}
use mathlib.Core.Path.{◌≡◌, refl, subst}
use mathlib.Core.List.{List}
use mathlib.Core.Option.{Option, none, some, or_else}
use mathlib.Core.Bool.{Bool, true, false}
use lib.Dec.{T}
use lib.Ieee.Fits.{and_l, and_r, and_i}
use Rattle.base.specs.Base.{when◌then◌else◌}
use Rattle.base.proofs.Okay.{Okay, Found}
use Rattle.text.specs.Text.{Text, same}
use Rattle.frame.specs.Kind
use Rattle.frame.specs.Tree.{Value, Values, Entries, Schema, Fields, Variants, no_items, item, no_entries, entry, no_fields, field, no_variants, variant, is, items, entries, peel}
use Rattle.frame.specs.Sound.{keys_rise, item_keys_rise, entry_keys_rise, rising, past_key, schema_sound, fields_sound, variants_sound, default_allowed, default_kinds}
use Rattle.frame.proofs.SoundLaws.{sound-union, sound-variant, sound-field}
use Rattle.frame.proofs.Inside.{peel-keys, items-keys, entries-keys, map-rising}
use Rattle.avro.specs.Resolve.{last_under, resolve}
use Rattle.avro.proofs.Ends.{ends-map, ends-okay}
use Rattle.avro.proofs.SchemaCases.{EveryVariant}
use Rattle.avro.proofs.Closure.{AllItems, AllEntries, ItemsMade, EntriesMade, FieldsMade, AtVariant, entries-each, fields-each, variant-each, InFields, First, comes}
use Rattle.avro.proofs.Made.{Made, made}

record In (s : Schema) (v : Value) : Type 0 where
  sound : T (schema_sound s)
  keys : T (keys_rise v)

abbrev Rising : Value → Type 0
Rising v = T (keys_rise v)

abbrev Out : Schema → Value → Type 0
Out s r = Rising r

-- ---- arrays and maps

items-in : (s : Schema) → T (schema_sound s) → (vs : Values) → T (item_keys_rise vs) → AllItems (In s) vs
unfolding keys_rise
items-in s z no_items k = tt
items-in s z (item v vs) k = (record { sound = z; keys = and_l (keys_rise v) (item_keys_rise vs) k }, items-in s z vs (and_r (keys_rise v) (item_keys_rise vs) k))

entries-in : (s : Schema) → T (schema_sound s) → (es : Entries) → T (entry_keys_rise es) → AllEntries (In s) es
unfolding keys_rise
entries-in s z no_entries k = tt
entries-in s z (entry n v es) k = (record { sound = z; keys = and_l (keys_rise v) (entry_keys_rise es) k }, entries-in s z es (and_r (keys_rise v) (entry_keys_rise es) k))

items-out : (rs : Values) → AllItems Rising rs → T (item_keys_rise rs)
unfolding keys_rise
items-out no_items a = tt
items-out (item r rs) a = and_i (keys_rise r) (item_keys_rise rs) a.0 (items-out rs a.1)

entries-out : (rs : Entries) → AllEntries Rising rs → T (entry_keys_rise rs)
unfolding keys_rise
entries-out no_entries a = tt
entries-out (entry n r rs) a = and_i (keys_rise r) (entry_keys_rise rs) a.0 (entries-out rs a.1)

-- the keys stay
past-stays : (s : Schema) (k : Text) (es rs : Entries) → EntriesMade (Out s) es rs → past_key k rs ≡ past_key k es
unfolding past_key
past-stays s k no_entries no_entries m = refl
past-stays s k no_entries (entry n r rs) m = absurd m
past-stays s k (entry n v es) no_entries m = absurd m
past-stays s k (entry n v es) (entry n' r rs) m = rw m.0

rising_stays : (s : Schema) (es rs : Entries) → EntriesMade (Out s) es rs → rising rs ≡ rising es
unfolding rising
rising_stays s no_entries no_entries m = refl
rising_stays s no_entries (entry n r rs) m = absurd m
rising_stays s (entry n v es) no_entries m = absurd m
rising_stays s (entry n v es) (entry n' r rs) m = rw (m.0, past-stays s n es rs m.2, rising_stays s es rs m.2)

array-in : (s : Schema) (v : Value) → In (Schema.Array s) v → AllItems (In s) (items (peel v))
unfolding schema_sound
array-in s v p = items-in s p.sound (items (peel v)) (items-keys (peel v) (peel-keys v p.keys))

array-out : (s : Schema) (vs rs : Values) → ItemsMade (Out s) vs rs → Out (Schema.Array s) (Value.Array rs)
unfolding keys_rise
array-out s vs rs m = items-out rs m.each

map-in : (s : Schema) (v : Value) → In (Schema.Map s) v → AllEntries (In s) (entries (peel v))
unfolding schema_sound
map-in s v p = entries-in s p.sound (entries (peel v)) (entries-keys (peel v) (peel-keys v p.keys))

map-out : (s : Schema) (v : Value) → In (Schema.Map s) v → T (is Kind.Map (peel v)) → (rs : Entries) → EntriesMade (Out s) (entries (peel v)) rs → Out (Schema.Map s) (Value.Map rs)
unfolding keys_rise
map-out s v p t rs m =
    and_i (rising rs) (entry_keys_rise rs) (rw (rising_stays s (entries (peel v)) rs m) (map-rising (peel v) t (peel-keys v p.keys))) (entries-out rs (entries-each Rising (entries (peel v)) rs m))

-- ---- records

keys-last_under : (n : Text) (es : Entries) → T (entry_keys_rise es) → Found Rising (last_under n es)
unfolding keys_rise last_under or_else
keys-last_under n no_entries k = tt
keys-last_under n (entry m v es) k = go (last_under n es) (same m n) (and_l (keys_rise v) (entry_keys_rise es) k) (keys-last_under n es (and_r (keys_rise v) (entry_keys_rise es) k))
  where
    go : (o : Option Value) (c : Bool) → Rising v → Found Rising o → Found Rising (or_else o (when c then some v else none))
    go none true p q = p
    go none false p q = tt
    go (some w) c p q = q

pub default-keys : (d : Option Value) (x : Value) → d ≡ some x → T (default_allowed d) → T (keys_rise x)
unfolding default_allowed
default-keys d x q a = and_r (default_kinds x) (keys_rise x) (subst (λ (o : Option Value). T (default_allowed o)) q a)

fields_in : (fs : Fields) → T (fields_sound fs) → (es : Entries) → T (entry_keys_rise es) → InFields In Out fs es
fields_in no_fields z es k = tt
fields_in (field n d s fs) z es k =
    let f = sound-field n d s fs z in (
      record {
        value = λ v q. record { sound = f.schema; keys = subst (λ (o : Option Value). Found Rising o) q (keys-last_under n es k) };
        default = λ x _ q. record { sound = f.schema; keys = default-keys d x q f.allowed };
      },
      fields_in fs f.rest es k,
    )

record-in : (fs : Fields) (v : Value) → In (Schema.Record fs) v → InFields In Out fs (entries (peel v))
unfolding schema_sound
record-in fs v p = fields_in fs p.sound (entries (peel v)) (entries-keys (peel v) (peel-keys v p.keys))

record-out : (fs : Fields) (rs : Entries) → FieldsMade Out fs rs → Out (Schema.Record fs) (Value.Record rs)
unfolding keys_rise
record-out fs rs m = entries-out rs (fields-each Rising fs rs m)

-- ---- unions

variants-in : (vs : Variants) → T (variants_sound vs) → (w : Value) → T (keys_rise w) → EveryVariant (λ s. In s w) vs
variants-in no_variants z w k = tt
variants-in (variant s vs) z w k = let f = sound-variant s vs z in (record { sound = f.schema; keys = k }, variants-in vs f.rest w k)

module _ (vs : Variants) (ks : List (ℕ × ℕ)) (ns : List ℕ) where
  union-in : (v : Value) → In (Schema.Union vs ks ns) v → (w : Value) → T (keys_rise w) → EveryVariant (λ s. In s w) vs
  union-in v p w k = variants-in vs (sound-union vs ks ns p.sound).variants w k

  union-out : (i : ℕ) (r : Value) → AtVariant Out vs i r → Out (Schema.Union vs ks ns) (Value.Union i r)
  unfolding keys_rise
  union-out i r m = variant-each Rising vs i r m

  first_of : (u : Schema) → T (schema_sound u) → (us : Variants) (d : Value) → EveryVariant (λ s. In s d) us → First In Out u us d
  unfolding keys_rise
  first_of u z no_variants d p = tt
  first_of u z (variant s us) d p = (p.0, λ r o. record { sound = z; keys = o })

  null-in : (d : Value) → In (Schema.Union vs ks ns) d → In (Schema.Union vs ks ns) (Value.Union 0 (Value.Scalar Kind.Null 0))
  unfolding keys_rise
  null-in d p = record { sound = p.sound; keys = tt }

  first-in : (d : Value) → In (Schema.Union vs ks ns) d → First In Out (Schema.Union vs ks ns) vs d
  first-in d p = first_of (Schema.Union vs ks ns) p.sound vs d (union-in d p d p.keys)

-- ---- any sound schema

pub keys-resolve : (s : Schema) → T (schema_sound s) → (v : Value) → T (keys_rise v) → Okay (λ r. T (keys_rise r)) (resolve s v)
keys-resolve s z v k = ends-okay (Out s) (resolve s v) (comes In Out (record {
  leaf = λ s l v p. ends-map (Made s (peel v)) (Out s) (resolve s v) (λ r m. m.keys) (made s l v);
  array-in = array-in;
  array-out = λ s v p rs m. array-out s (items (peel v)) rs m;
  map-in = λ s v p t. map-in s v p;
  map-out = map-out;
  record-in = λ fs v p t. record-in fs v p;
  record-out = λ fs v p rs m. record-out fs rs m;
  union-in = λ vs ks ns v p. union-in vs ks ns v p (peel v) (peel-keys v p.keys);
  union-out = λ vs ks ns v p i r m. union-out vs ks ns i r m;
  null-in = null-in;
  first-in = first-in;
}) s v (record { sound = z; keys = k }))
