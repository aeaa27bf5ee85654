-- What alike records lose (docs/RULES.md, "What is promised of results").
use Rattle.std.proofs.Math.Option.{Option, none, some}
use Rattle.std.specs.Prelude.{Bool, true, false, ◌||◌}
use Rattle.base.specs.Base.{when◌then◌else◌}
use Rattle.text.specs.Text.{Text, same}
use Rattle.frame.specs.Tree.{Value, Values, Entries, Schema, Fields, Variants, no_items, item, no_entries, entry, no_fields, field, no_variants, variant}

-- under one Union, if the value is one
unfoldable pub under_union : (Value → Value) → Value → Value
under_union f (Value.Scalar k n) = f (Value.Scalar k n)
under_union f (Value.Octets k s) = f (Value.Octets k s)
under_union f (Value.Enum i s) = f (Value.Enum i s)
under_union f (Value.Array vs) = f (Value.Array vs)
under_union f (Value.Map es) = f (Value.Map es)
under_union f (Value.Record es) = f (Value.Record es)
under_union f (Value.Union i v) = Value.Union i (f v)

unfoldable pub map_items : (Value → Value) → Values → Values
map_items f no_items = no_items
map_items f (item v vs) = item (f v) (map_items f vs)

unfoldable pub map_entries : (Value → Value) → Entries → Entries
map_entries f no_entries = no_entries
map_entries f (entry n v es) = entry n (f v) (map_entries f es)

-- the value with its items, its Map entries or its Record entries changed; any other stays
unfoldable pub change : (Values → Values) → (Entries → Entries) → (Entries → Entries) → Value → Value
change f g h (Value.Scalar k n) = Value.Scalar k n
change f g h (Value.Octets k s) = Value.Octets k s
change f g h (Value.Enum i s) = Value.Enum i s
change f g h (Value.Array vs) = Value.Array (f vs)
change f g h (Value.Map es) = Value.Map (g es)
change f g h (Value.Record es) = Value.Record (h es)
change f g h (Value.Union i v) = Value.Union i v

unfoldable pub has_name : Text → Entries → Bool
has_name n no_entries = false
has_name n (entry m v es) = same m n || has_name n es

-- an entry stays, with what `f` makes of its value if it is the last of its name, or goes
unfoldable pub keep_entry : Text → Value → Option Value → Bool → Entries → Entries
keep_entry n v none later es = es
keep_entry n v (some w) true es = entry n v es
keep_entry n v (some w) false es = entry n w es

unfoldable pub keep_entries : (Text → Value → Option Value) → Entries → Entries
keep_entries f no_entries = no_entries
keep_entries f (entry n v es) = keep_entry n v (f n v) (has_name n es) (keep_entries f es)

unfoldable mutual
  -- the value when each Record or Map in it that meets a Record schema has lost what stands under names that schema lacks
  pub strip : Schema → Value → Value
  strip (Schema.Plain k) v = v
  strip (Schema.Fixed n) v = v
  strip (Schema.Decimal p s n) v = v
  strip (Schema.Uuid f) v = v
  strip (Schema.Duration n) v = v
  strip (Schema.Enum ss d) v = v
  strip (Schema.Array s) v = under_union (change (map_items (λ w. strip s w)) (λ es. es) (λ es. es)) v
  strip (Schema.Map s) v = under_union (change (λ vs. vs) (map_entries (λ w. strip s w)) (λ es. es)) v
  strip (Schema.Record fs) v =
      under_union (change (λ vs. vs) (keep_entries (λ n w. strip_field fs n w)) (keep_entries (λ n w. strip_field fs n w))) v
  strip (Schema.Union vs ks ns) v = under_union (λ w. strip_variants vs w) v

  -- the value of a field, or none under a name that the schema lacks
  pub strip_field : Fields → Text → Value → Option Value
  strip_field no_fields n v = none
  strip_field (field m d s fs) n v = when same m n then some (strip s v) else strip_field fs n v

  -- what a union's value meets: each variant
  pub strip_variants : Variants → Value → Value
  strip_variants no_variants v = v
  strip_variants (variant s vs) v = strip_variants vs (strip s v)
