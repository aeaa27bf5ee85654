-- Number 3, and the map keys of number 5, in the rules' words: a constructor for each thing that its sentence names. The tests of Sound are exactly these.
use Rattle.std.specs.Prelude.{ℕ, ◌≤◌, ◌<◌, ◌-◌, ◌/◌, ◌%◌, ◌^◌, ◌≡◌}
use mathlib.Core.List.{List, ◌∷◌, Memᴰ}
use Rattle.std.proofs.Math.Option.{Option, some}
use Rattle.text.specs.Text.{Text}
use Rattle.text.specs.Order.{Below}
use Rattle.frame.specs.Kind
use Rattle.frame.specs.Tree.{Value, Values, Entries, Schema, Fields, Variants, UuidForm, no_items, item, no_entries, entry, field, no_variants, variant, schema_kind}
use Rattle.frame.specs.Sound.{count_variants}

-- ---- map keys rise strictly by their bytes

-- k is below every key
pub data BelowAll : Text → Entries → Type 0 where
  none_left : {k : Text} → BelowAll k no_entries
  one_more : {k n : Text} {v : Value} {es : Entries} → Below k n → BelowAll k es → BelowAll k (entry n v es)

pub data Rises : Entries → Type 0 where
  no_keys : Rises no_entries
  key : {n : Text} {v : Value} {es : Entries} → BelowAll n es → Rises es → Rises (entry n v es)

pub data ItemOf : Value → Values → Type 0 where
  first_item : {v : Value} {vs : Values} → ItemOf v (item v vs)
  later_item : {v w : Value} {vs : Values} → ItemOf v vs → ItemOf v (item w vs)

pub data EntryOf : Value → Entries → Type 0 where
  first_entry : {n : Text} {v : Value} {es : Entries} → EntryOf v (entry n v es)
  later_entry : {n : Text} {v w : Value} {es : Entries} → EntryOf v es → EntryOf v (entry n w es)

-- a Map with these entries is the value, or stands in it
pub data MapIn : Entries → Value → Type 0 where
  itself : {es : Entries} → MapIn es (Value.Map es)
  in_item : {es : Entries} {v : Value} {vs : Values} → ItemOf v vs → MapIn es v → MapIn es (Value.Array vs)
  in_map : {es fs : Entries} {v : Value} → EntryOf v fs → MapIn es v → MapIn es (Value.Map fs)
  in_record : {es fs : Entries} {v : Value} → EntryOf v fs → MapIn es v → MapIn es (Value.Record fs)
  in_union : {es : Entries} {i : ℕ} {v : Value} → MapIn es v → MapIn es (Value.Union i v)

-- ---- what a default may be

mutual
  pub data Allowed : Value → Type 0 where
    null : {n : ℕ} → Allowed (Value.Scalar Kind.Null n)
    boolean : {n : ℕ} → Allowed (Value.Scalar Kind.Boolean n)
    int : {n : ℕ} → Allowed (Value.Scalar Kind.Int n)
    -- outside Int: as a signed number of 64 bits, 2^31 or more, or less than -2^31
    long : {n : ℕ} → 2 ^ 31 ≤ n → n < 2 ^ 64 - 2 ^ 31 → Allowed (Value.Scalar Kind.Long n)
    -- finite: the 11 bits of the exponent are not all ones
    double : {n : ℕ} → (n / 2 ^ 52 % 2 ^ 11 ≡ 2047 → ⊥) → Allowed (Value.Scalar Kind.Double n)
    string : {s : List ℕ} → Allowed (Value.Octets Kind.String s)
    array : {vs : Values} → AllowedItems vs → Allowed (Value.Array vs)
    map : {es : Entries} → Rises es → AllowedEntries es → Allowed (Value.Map es)

  pub data AllowedItems : Values → Type 0 where
    no_item : AllowedItems no_items
    an_item : {v : Value} {vs : Values} → Allowed v → AllowedItems vs → AllowedItems (item v vs)

  pub data AllowedEntries : Entries → Type 0 where
    no_entry : AllowedEntries no_entries
    an_entry : {n : Text} {v : Value} {es : Entries} → Allowed v → AllowedEntries es → AllowedEntries (entry n v es)

-- ---- number 3

pub data VariantOf : Schema → Variants → Type 0 where
  first_variant : {s : Schema} {vs : Variants} → VariantOf s (variant s vs)
  later_variant : {s t : Schema} {vs : Variants} → VariantOf s vs → VariantOf s (variant t vs)

pub data FieldOf : Text → Option Value → Schema → Fields → Type 0 where
  first_field : {n : Text} {d : Option Value} {s : Schema} {fs : Fields} → FieldOf n d s (field n d s fs)
  later_field : {n m : Text} {d e : Option Value} {s t : Schema} {fs : Fields} → FieldOf n d s fs → FieldOf n d s (field m e t fs)

-- a name stands again at a later field
pub data NameTwice : Fields → Type 0 where
  again : {n : Text} {d e : Option Value} {s t : Schema} {fs : Fields} → FieldOf n e t fs → NameTwice (field n d s fs)
  further : {n : Text} {d : Option Value} {s : Schema} {fs : Fields} → NameTwice fs → NameTwice (field n d s fs)

-- a kind of the table is not past one before it
pub data NotRising : List (ℕ × ℕ) → Type 0 where
  behind : {e f : ℕ × ℕ} {es : List (ℕ × ℕ)} → Memᴰ f es → f.0 ≤ e.0 → NotRising (e ∷ es)
  further_on : {e : ℕ × ℕ} {es : List (ℕ × ℕ)} → NotRising es → NotRising (e ∷ es)

pub data Faulty : Schema → Type 0 where
  -- a union is empty, has a union as variant
  empty_union : {ks : List (ℕ × ℕ)} {ns : List ℕ} → Faulty (Schema.Union no_variants ks ns)
  union_variant : {s : Schema} {vs : Variants} {ks : List (ℕ × ℕ)} {ns : List ℕ} → VariantOf s vs → schema_kind s ≡ Kind.Union → Faulty (Schema.Union vs ks ns)
  -- or its tables hold a kind past 19, a non-rising one or a position past the variants
  kind_past : {e : ℕ × ℕ} {vs : Variants} {ks : List (ℕ × ℕ)} {ns : List ℕ} → Memᴰ e ks → 0x19 < e.0 → Faulty (Schema.Union vs ks ns)
  kind_falls : {vs : Variants} {ks : List (ℕ × ℕ)} {ns : List ℕ} → NotRising ks → Faulty (Schema.Union vs ks ns)
  lead_past : {e : ℕ × ℕ} {vs : Variants} {ks : List (ℕ × ℕ)} {ns : List ℕ} → Memᴰ e ks → count_variants vs ≤ e.1 → Faulty (Schema.Union vs ks ns)
  named_past : {p : ℕ} {vs : Variants} {ks : List (ℕ × ℕ)} {ns : List ℕ} → Memᴰ p ns → count_variants vs ≤ p → Faulty (Schema.Union vs ks ns)
  -- a record repeats a field name
  name_repeats : {fs : Fields} → NameTwice fs → Faulty (Schema.Record fs)
  -- a Duration's size isn't 12 or a fixed UUID's 16
  duration_size : {n : ℕ} → (n ≡ 12 → ⊥) → Faulty (Schema.Duration n)
  uuid_size : {n : ℕ} → (n ≡ 16 → ⊥) → Faulty (Schema.Uuid (UuidForm.fixed n))
  -- or a default isn't one of those
  default_kind : {n : Text} {v : Value} {s : Schema} {fs : Fields} → FieldOf n (some v) s fs → (Allowed v → ⊥) → Faulty (Schema.Record fs)
  -- anywhere in the schema
  in_items : {s : Schema} → Faulty s → Faulty (Schema.Array s)
  in_values : {s : Schema} → Faulty s → Faulty (Schema.Map s)
  in_field : {n : Text} {d : Option Value} {s : Schema} {fs : Fields} → FieldOf n d s fs → Faulty s → Faulty (Schema.Record fs)
  in_variant : {s : Schema} {vs : Variants} {ks : List (ℕ × ℕ)} {ns : List ℕ} → VariantOf s vs → Faulty s → Faulty (Schema.Union vs ks ns)
