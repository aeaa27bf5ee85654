-- What holds of everything that resolution makes, shown once along the text of `resolve`: what is asked of a value passes to what it holds, a leaf makes what is
-- claimed, and arrays, maps, records and unions of such are such.
use Prim.Native.Nat.{ℕ, zero, suc}
use mathlib.Core.Path.{◌≡◌, refl, ap}
use mathlib.Core.List.{List}
use mathlib.Core.Option.{Option, none, some}
use mathlib.Core.Bool.{◌||◌}
use lib.Dec.{T, eqb}
use lib.ListN.{get_or}
use Rattle.base.specs.Base.{after}
use Rattle.text.specs.Text.{Text}
use Rattle.frame.specs.Kind
use Rattle.frame.specs.Tree.{Value, Values, Entries, Schema, Fields, Variants, no_items, item, no_entries, entry, no_fields, field, no_variants, variant, kind_of, is, items, entries, peel, schema_kind}
use Rattle.frame.specs.ValueFrame.{count_items}
use Rattle.types.specs.Types.{Outcome}
use Rattle.avro.specs.Union.{no_trial, find_schema_with_known_schemata, in_union, resolve_union}
use Rattle.avro.specs.Resolve.{each_item, each_entry, resolve_array, resolve_map, last_under, first, field_value, resolve_record, resolve, resolve_fields, start_default, trials}
use Rattle.avro.proofs.Ends.{Ends, ends-if, ends-after, ends-map}
use Rattle.avro.proofs.SchemaCases.{childless, EveryField, EveryVariant, every}

-- ---- what holds of each part of a value, and of what comes of each

abbrev pub AllItems : (Value → Type 0) → Values → Type 0
AllItems P no_items = Unit
AllItems P (item v vs) = P v × AllItems P vs

abbrev pub AllEntries : (Value → Type 0) → Entries → Type 0
AllEntries P no_entries = Unit
AllEntries P (entry n v es) = P v × AllEntries P es

-- one item for each
pub record ItemsMade (P : Value → Type 0) (vs rs : Values) : Type 0 where
  pub each : AllItems P rs
  pub count : count_items rs ≡ count_items vs

-- one entry for each, under its name
abbrev pub EntriesMade : (Value → Type 0) → Entries → Entries → Type 0
EntriesMade P no_entries no_entries = Unit
EntriesMade P no_entries (entry m r rs) = ⊥
EntriesMade P (entry n v es) no_entries = ⊥
EntriesMade P (entry n v es) (entry m r rs) = (m ≡ n) × P r × EntriesMade P es rs

-- one entry for each field, under its name
abbrev pub FieldsMade : (Schema → Value → Type 0) → Fields → Entries → Type 0
FieldsMade P no_fields no_entries = Unit
FieldsMade P no_fields (entry m r rs) = ⊥
FieldsMade P (field n d s fs) no_entries = ⊥
FieldsMade P (field n d s fs) (entry m r rs) = (m ≡ n) × P s r × FieldsMade P fs rs

-- what holds under the variant at a position
abbrev pub AtVariant : (Schema → Value → Type 0) → Variants → ℕ → Value → Type 0
AtVariant P no_variants i r = ⊥
AtVariant P (variant s vs) zero r = P s r
AtVariant P (variant s vs) (suc i) r = AtVariant P vs i r

-- what is claimed of each part whatever it was made of and under whatever schema
module _ (P : Value → Type 0) where
  pub entries-each : (es rs : Entries) → EntriesMade P es rs → AllEntries P rs
  entries-each no_entries no_entries m = tt
  entries-each no_entries (entry n r rs) m = absurd m
  entries-each (entry n v es) no_entries m = absurd m
  entries-each (entry n v es) (entry n' r rs) m = (m.1, entries-each es rs m.2)

  pub fields-each : (fs : Fields) (rs : Entries) → FieldsMade (λ _. P) fs rs → AllEntries P rs
  fields-each no_fields no_entries m = tt
  fields-each no_fields (entry n r rs) m = absurd m
  fields-each (field n d s fs) no_entries m = absurd m
  fields-each (field n d s fs) (entry n' r rs) m = (m.1, fields-each fs rs m.2)

  pub variant-each : (vs : Variants) (i : ℕ) (r : Value) → AtVariant (λ _. P) vs i r → P r
  variant-each no_variants i r m = absurd m
  variant-each (variant s vs) zero r m = m
  variant-each (variant s vs) (suc i) r m = variant-each vs i r m

-- ---- arrays and maps

module _ (P Q : Value → Type 0) (f : Value → Outcome) (c : (v : Value) → P v → Ends Q (f v)) where
  ends-items : (vs : Values) → AllItems P vs → Ends (ItemsMade Q vs) (each_item f vs)
  unfolding each_item count_items
  ends-items no_items a = record { each = tt; count = refl }
  ends-items (item v vs) a = ends-after Q _ (f v) _ (c v a.0) λ r q. ends-after (ItemsMade Q vs) _ (each_item f vs) _ (ends-items vs a.1) λ rs p. record { each = (q, p.each); count = ap suc p.count }

  ends-entries : (es : Entries) → AllEntries P es → Ends (EntriesMade Q es) (each_entry f es)
  unfolding each_entry
  ends-entries no_entries a = tt
  ends-entries (entry n v es) a =
      ends-after Q _ (f v) _ (c v a.0) λ r q. ends-after (EntriesMade Q es) _ (each_entry f es) _ (ends-entries es a.1) λ rs p. (refl, q, p)

-- ---- any schema

-- `In` is asked of a value, a default among them, and `Out` holds of what comes out
module _ (In Out : Schema → Value → Type 0) where
  abbrev pub Comes : Schema → Type 0
  Comes s = (v : Value) → In s v → Ends (Out s) (resolve s v)

  -- a default as it starts out
  abbrev Starts : Schema → Type 0
  Starts s = (d : Value) → In s d → Ends (λ w. Ends (Out s) (resolve s w)) (start_default s d)

  -- the last value under a field's name, or where there is none its default
  pub record InField (n : Text) (d : Option Value) (s : Schema) (es : Entries) : Type 0 where
    pub value : (v : Value) → last_under n es ≡ some v → In s v
    pub default : (x : Value) → last_under n es ≡ none → d ≡ some x → In s x

  abbrev pub InFields : Fields → Entries → Type 0
  InFields no_fields es = Unit
  InFields (field n d s fs) es = InField n d s es × InFields fs es

  -- what the first variant makes of a default may go to the union
  abbrev pub First : Schema → Variants → Value → Type 0
  First u no_variants d = Unit
  First u (variant s vs) d = In s d × ((r : Value) → Out s r → In u (Value.Union 0 r))

  pub record Closed : Type 0 where
    pub leaf : (s : Schema) → T (childless s) → Comes s
    pub array-in : (s : Schema) (v : Value) → In (Schema.Array s) v → AllItems (In s) (items (peel v))
    pub array-out : (s : Schema) (v : Value) → In (Schema.Array s) v → (rs : Values) → ItemsMade (Out s) (items (peel v)) rs → Out (Schema.Array s) (Value.Array rs)
    pub map-in : (s : Schema) (v : Value) → In (Schema.Map s) v → T (is Kind.Map (peel v)) → AllEntries (In s) (entries (peel v))
    pub map-out : (s : Schema) (v : Value) → In (Schema.Map s) v → T (is Kind.Map (peel v)) → (rs : Entries) → EntriesMade (Out s) (entries (peel v)) rs → Out (Schema.Map s) (Value.Map rs)
    pub record-in : (fs : Fields) (v : Value) → In (Schema.Record fs) v → T (is Kind.Map (peel v) || is Kind.Record (peel v)) → InFields fs (entries (peel v))
    pub record-out : (fs : Fields) (v : Value) → In (Schema.Record fs) v → (rs : Entries) → FieldsMade Out fs rs → Out (Schema.Record fs) (Value.Record rs)
    pub union-in : (vs : Variants) (ks : List (ℕ × ℕ)) (ns : List ℕ) (v : Value) → In (Schema.Union vs ks ns) v → EveryVariant (λ s. In s (peel v)) vs
    pub union-out : (vs : Variants) (ks : List (ℕ × ℕ)) (ns : List ℕ) (v : Value) → In (Schema.Union vs ks ns) v → (i : ℕ) (r : Value) → AtVariant Out vs i r
        → Out (Schema.Union vs ks ns) (Value.Union i r)
    pub null-in : (vs : Variants) (ks : List (ℕ × ℕ)) (ns : List ℕ) (d : Value) → In (Schema.Union vs ks ns) d → In (Schema.Union vs ks ns) (Value.Union 0 (Value.Scalar Kind.Null 0))
    pub first-in : (vs : Variants) (ks : List (ℕ × ℕ)) (ns : List ℕ) (d : Value) → In (Schema.Union vs ks ns) d → First (Schema.Union vs ks ns) vs d

  -- a position past the variants gives 16
  ends-trial : (vs : Variants) (w : Value) → EveryVariant (λ s. Ends (Out s) (resolve s w)) vs → (i : ℕ) → Ends (AtVariant Out vs i) (get_or (trials vs w) i no_trial).outcome
  unfolding resolve
  ends-trial no_variants w c i = tt
  ends-trial (variant s vs) w c zero = c.0
  ends-trial (variant s vs) w c (suc i) = ends-trial vs w c.1 i

  -- whichever variant is found
  ends-union : (vs : Variants) (u : Schema) → ((i : ℕ) (r : Value) → AtVariant Out vs i r → Out u (Value.Union i r)) → (w : Value)
      → EveryVariant (λ s. Ends (Out s) (resolve s w)) vs → (o : Option ℕ) → Ends (Out u) (in_union (trials vs w) o)
  unfolding in_union
  ends-union vs u made w c none = tt
  ends-union vs u made w c (some i) = ends-after (AtVariant Out vs i) _ (get_or (trials vs w) i no_trial).outcome _ (ends-trial vs w c i) λ r q. made i r q

  each-trial : (vs : Variants) (w : Value) → EveryVariant Comes vs → EveryVariant (λ s. In s w) vs → EveryVariant (λ s. Ends (Out s) (resolve s w)) vs
  each-trial no_variants w c i = tt
  each-trial (variant s vs) w c i = (c.0 w i.0, each-trial vs w c.1 i.1)

  start_first : (vs : Variants) (ks : List (ℕ × ℕ)) (ns : List ℕ) → EveryVariant Comes vs → Comes (Schema.Union vs ks ns) → (d : Value)
      → In (Schema.Union vs ks ns) (Value.Union 0 (Value.Scalar Kind.Null 0)) → First (Schema.Union vs ks ns) vs d
      → Ends (λ w. Ends (Out (Schema.Union vs ks ns)) (resolve (Schema.Union vs ks ns) w)) (start_default (Schema.Union vs ks ns) d)
  unfolding resolve first after
  start_first no_variants ks ns c f d null p = tt
  start_first (variant s vs) ks ns c f d null p =
      let u : Schema = Schema.Union (variant s vs) ks ns in
      ends-after (λ r. In u (Value.Union 0 r)) _ (first (trials (variant s vs) d)) _
      (ends-if _ (eqb (schema_kind s) Kind.Null) _ _ (λ _. null) (λ _. ends-map (Out s) _ (resolve s d) (λ r o. p.1 r o) (c.0 d p.0)))
      λ r i. f (Value.Union 0 r) i

  module _ (c : Closed) where
    start-leaf : (s : Schema) → T (childless s) → Comes s → Starts s
    unfolding childless resolve
    start-leaf (Schema.Plain k) l f d p = f d p
    start-leaf (Schema.Fixed n) l f d p = f d p
    start-leaf (Schema.Decimal q s n) l f d p = f d p
    start-leaf (Schema.Uuid u) l f d p = f d p
    start-leaf (Schema.Duration n) l f d p = f d p
    start-leaf (Schema.Enum ss t) l f d p = f d p
    start-leaf (Schema.Array s) l f d p = absurd l
    start-leaf (Schema.Map s) l f d p = absurd l
    start-leaf (Schema.Record fs) l f d p = absurd l
    start-leaf (Schema.Union vs ks ns) l f d p = absurd l

    array-comes : (s : Schema) → Comes s → Comes (Schema.Array s)
    unfolding resolve resolve_array
    array-comes s f v p =
        ends-if _ (is Kind.Array (peel v)) _ _
        (λ _. ends-after (ItemsMade (Out s) (items (peel v))) _ (each_item (λ w. resolve s w) (items (peel v))) _
        (ends-items (In s) (Out s) (λ w. resolve s w) f (items (peel v)) (c.array-in s v p)) λ rs q. c.array-out s v p rs q)
        (λ _. tt)

    map-comes : (s : Schema) → Comes s → Comes (Schema.Map s)
    unfolding resolve resolve_map
    map-comes s f v p =
        ends-if _ (is Kind.Map (peel v)) _ _
        (λ t. ends-after (EntriesMade (Out s) (entries (peel v))) _ (each_entry (λ w. resolve s w) (entries (peel v))) _
        (ends-entries (In s) (Out s) (λ w. resolve s w) f (entries (peel v)) (c.map-in s v p t)) λ rs q. c.map-out s v p t rs q)
        (λ _. tt)

    value-ends : (s : Schema) → Comes s → Starts s → (l d : Option Value) → ((v : Value) → l ≡ some v → In s v) → ((x : Value) → l ≡ none → d ≡ some x → In s x)
        → Ends (λ w. Ends (Out s) (resolve s w)) (field_value l d (λ w. start_default s w))
    unfolding field_value
    value-ends s f g (some v) d p q = f v (p v refl)
    value-ends s f g none none p q = tt
    value-ends s f g none (some x) p q = g x (q x refl refl)

    fields-end : (fs : Fields) → EveryField (λ s. Comes s × Starts s) fs → (es : Entries) → InFields fs es → Ends (FieldsMade Out fs) (resolve_fields fs es)
    unfolding resolve
    fields-end no_fields g es p = tt
    fields-end (field n d s fs) g es p =
        ends-after (λ w. Ends (Out s) (resolve s w)) _ (field_value (last_under n es) d (λ w. start_default s w)) _
        (value-ends s g.0.0 g.0.1 (last_under n es) d p.0.value p.0.default)
        λ v q. ends-after (Out s) _ (resolve s v) _ q
        λ r o. ends-after (FieldsMade Out fs) _ (resolve_fields fs es) _ (fields-end fs g.1 es p.1) λ rs t. (refl, o, t)

    record-comes : (fs : Fields) → EveryField (λ s. Comes s × Starts s) fs → Comes (Schema.Record fs)
    unfolding resolve resolve_record
    record-comes fs g v p =
        ends-if _ (is Kind.Map (peel v) || is Kind.Record (peel v)) _ _
        (λ t. ends-after (FieldsMade Out fs) _ (resolve_fields fs (entries (peel v))) _ (fields-end fs g (entries (peel v)) (c.record-in fs v p t)) λ rs q. c.record-out fs v p rs q)
        (λ _. tt)

    first_of : (vs : Variants) → EveryVariant (λ s. Comes s × Starts s) vs → EveryVariant Comes vs
    first_of no_variants g = tt
    first_of (variant s vs) g = (g.0.0, first_of vs g.1)

    union-comes : (vs : Variants) (ks : List (ℕ × ℕ)) (ns : List ℕ) → EveryVariant Comes vs → Comes (Schema.Union vs ks ns)
    unfolding resolve resolve_union
    union-comes vs ks ns g v p =
        ends-union vs (Schema.Union vs ks ns) (c.union-out vs ks ns v p) (peel v) (each-trial vs (peel v) g (c.union-in vs ks ns v p))
        (find_schema_with_known_schemata (trials vs (peel v)) ks ns (kind_of (peel v)))

    both : (s : Schema) → Comes s × Starts s
    unfolding resolve
    both = every (λ s. Comes s × Starts s) (record {
      leaf = λ s l. (c.leaf s l, start-leaf s l (c.leaf s l));
      array = λ s g. (array-comes s g.0, array-comes s g.0);
      map = λ s g. (map-comes s g.0, map-comes s g.0);
      fields = λ fs g. (record-comes fs g, record-comes fs g);
      union = λ vs ks ns g. (
        union-comes vs ks ns (first_of vs g),
        λ d p. start_first vs ks ns (first_of vs g) (union-comes vs ks ns (first_of vs g)) d (c.null-in vs ks ns d p) (c.first-in vs ks ns d p),
      );
    })

    -- what comes of a value
    pub comes : (s : Schema) → Comes s
    comes s = (both s).0

-- ---- what holds of every result, whatever goes in

any-items : (vs : Values) → AllItems (λ _. Unit) vs
any-items no_items = tt
any-items (item v vs) = (tt, any-items vs)

any-entries : (es : Entries) → AllEntries (λ _. Unit) es
any-entries no_entries = tt
any-entries (entry n v es) = (tt, any-entries es)

any-variants : (vs : Variants) → EveryVariant (λ _. Unit) vs
any-variants no_variants = tt
any-variants (variant s vs) = (tt, any-variants vs)

abbrev Any : Schema → Value → Type 0
Any s v = Unit

module _ (Out : Schema → Value → Type 0) where
  any-fields : (fs : Fields) (es : Entries) → InFields Any Out fs es
  any-fields no_fields es = tt
  any-fields (field n d s fs) es = (record { value = λ v e. tt; default = λ x e q. tt }, any-fields fs es)

  any-first : (u : Schema) (vs : Variants) (d : Value) → First Any Out u vs d
  any-first u no_variants d = tt
  any-first u (variant s vs) d = (tt, λ r o. tt)

  pub record Always : Type 0 where
    pub leaf : (s : Schema) → T (childless s) → (v : Value) → Ends (Out s) (resolve s v)
    pub array : (s : Schema) (vs rs : Values) → ItemsMade (Out s) vs rs → Out (Schema.Array s) (Value.Array rs)
    pub map : (s : Schema) (es rs : Entries) → EntriesMade (Out s) es rs → Out (Schema.Map s) (Value.Map rs)
    pub fields : (fs : Fields) (rs : Entries) → FieldsMade Out fs rs → Out (Schema.Record fs) (Value.Record rs)
    pub union : (vs : Variants) (ks : List (ℕ × ℕ)) (ns : List ℕ) (i : ℕ) (r : Value) → AtVariant Out vs i r → Out (Schema.Union vs ks ns) (Value.Union i r)

  pub always : Always → (s : Schema) (v : Value) → Ends (Out s) (resolve s v)
  always a s v = comes Any Out (record {
    leaf = λ s l v _. a.leaf s l v;
    array-in = λ s v _. any-items (items (peel v));
    array-out = λ s v _ rs m. a.array s (items (peel v)) rs m;
    map-in = λ s v _ t. any-entries (entries (peel v));
    map-out = λ s v _ t rs m. a.map s (entries (peel v)) rs m;
    record-in = λ fs v _ t. any-fields fs (entries (peel v));
    record-out = λ fs v _ rs m. a.fields fs rs m;
    union-in = λ vs ks ns v _. any-variants vs;
    union-out = λ vs ks ns v _ i r m. a.union vs ks ns i r m;
    null-in = λ vs ks ns d _. tt;
    first-in = λ vs ks ns d _. any-first (Schema.Union vs ks ns) vs d;
  }) s v tt
