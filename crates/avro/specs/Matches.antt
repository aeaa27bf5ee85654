-- What it is for a value to match a schema, to have exactly its field names, and to fit it (docs/RULES.md, "What is promised of results").
use Rattle.std.specs.Prelude.{ℕ, zero, suc, List, [], ◌∷◌, Bool, true, false, ◌&&◌, eqb, length}
use Rattle.std.proofs.Math.Option.{Option, none, some}
use Rattle.base.specs.Base.{when◌then◌else◌}
use Rattle.text.specs.Text.{Text, same}
use Rattle.frame.specs.Kind
use Rattle.frame.specs.Tree.{Value, Values, Entries, Schema, Fields, Variants, no_items, item, no_entries, entry, no_fields, field, no_variants, variant, is, index, octets, items, entries, peel}

unfoldable pub all_items : (Value → Bool) → Values → Bool
all_items f no_items = true
all_items f (item v vs) = f v && all_items f vs

unfoldable pub all_entries : (Value → Bool) → Entries → Bool
all_entries f no_entries = true
all_entries f (entry n v es) = f v && all_entries f es

-- the symbol is the one at its index
unfoldable pub symbol_at : List Text → ℕ → Text → Bool
symbol_at [] i t = false
symbol_at (s ∷ ss) zero t = same s t
symbol_at (s ∷ ss) (suc i) t = symbol_at ss i t

-- a Decimal has the stated size, if there is one
unfoldable pub stated_size : Option ℕ → List ℕ → Bool
stated_size none b = true
stated_size (some n) b = eqb (length b) n

-- a Decimal has any size
abbrev pub any_size : Option ℕ → List ℕ → Bool
any_size n b = true

-- kinds and sizes are equal, a Decimal's as `decimal` judges it; record fields stand in schema order; each symbol is the one at its index;
-- each union node matches the variant at its index. (A Duration has its 12 bytes and a Uuid its 16 in every frame, and number 3 asks the schema for
-- these sizes: `duration_size`, `uuid_size`.)
module _ (decimal : Option ℕ → List ℕ → Bool) where
  unfoldable mutual
    pub agrees : Schema → Value → Bool
    agrees (Schema.Plain k) v = is k v
    agrees (Schema.Fixed n) v = is Kind.Fixed v && eqb (length (octets v)) n
    agrees (Schema.Decimal p s n) v = is Kind.Decimal v && decimal n (octets v)
    agrees (Schema.Uuid f) v = is Kind.Uuid v
    agrees (Schema.Duration n) v = is Kind.Duration v
    agrees (Schema.Enum ss d) v = is Kind.Enum v && symbol_at ss (index v) (octets v)
    agrees (Schema.Array s) v = is Kind.Array v && all_items (λ w. agrees s w) (items v)
    agrees (Schema.Map s) v = is Kind.Map v && all_entries (λ w. agrees s w) (entries v)
    agrees (Schema.Record fs) v = is Kind.Record v && fields_agree fs (entries v)
    agrees (Schema.Union vs ks ns) v = is Kind.Union v && variant_agrees vs (index v) (peel v)

    -- each entry is a field of the schema, in schema order; a field may be missing
    pub fields_agree : Fields → Entries → Bool
    fields_agree no_fields no_entries = true
    fields_agree no_fields (entry m v es) = false
    fields_agree (field n d s fs) no_entries = true
    fields_agree (field n d s fs) (entry m v es) = when same m n then agrees s v && fields_agree fs es else fields_agree fs (entry m v es)

    pub variant_agrees : Variants → ℕ → Value → Bool
    variant_agrees no_variants i v = false
    variant_agrees (variant s vs) zero v = agrees s v
    variant_agrees (variant s vs) (suc i) v = variant_agrees vs i v

-- a value matches a schema (the rules' term)
abbrev pub matches : Schema → Value → Bool
matches s v = agrees stated_size s v

-- exactly the schema's field names in each Record
unfoldable pub names_are : Fields → Entries → Bool
names_are no_fields no_entries = true
names_are no_fields (entry m v es) = false
names_are (field n d s fs) no_entries = false
names_are (field n d s fs) (entry m v es) = same m n && names_are fs es

unfoldable mutual
  pub exact_names : Schema → Value → Bool
  exact_names (Schema.Plain k) v = true
  exact_names (Schema.Fixed n) v = true
  exact_names (Schema.Decimal p s n) v = true
  exact_names (Schema.Uuid f) v = true
  exact_names (Schema.Duration n) v = true
  exact_names (Schema.Enum ss d) v = true
  exact_names (Schema.Array s) v = all_items (λ w. exact_names s w) (items v)
  exact_names (Schema.Map s) v = all_entries (λ w. exact_names s w) (entries v)
  exact_names (Schema.Record fs) v = names_are fs (entries v) && exact_fields fs (entries v)
  exact_names (Schema.Union vs ks ns) v = exact_variant vs (index v) (peel v)

  pub exact_fields : Fields → Entries → Bool
  exact_fields no_fields es = true
  exact_fields (field n d s fs) no_entries = true
  exact_fields (field n d s fs) (entry m v es) = exact_names s v && exact_fields fs es

  pub exact_variant : Variants → ℕ → Value → Bool
  exact_variant no_variants i v = true
  exact_variant (variant s vs) zero v = exact_names s v
  exact_variant (variant s vs) (suc i) v = exact_variant vs i v

-- ---- fitting

unfoldable mutual
  -- a value fits a schema (the rules' term): kinds and sizes are equal, but for a Decimal's length; exactly the schema's field names in each Record, in schema order;
  -- each symbol is the one at its index; each Union fits the variant at its index
  pub fits : Schema → Value → Bool
  fits (Schema.Plain k) v = is k v
  fits (Schema.Fixed n) v = is Kind.Fixed v && eqb (length (octets v)) n
  fits (Schema.Decimal p s n) v = is Kind.Decimal v
  fits (Schema.Uuid f) v = is Kind.Uuid v
  fits (Schema.Duration n) v = is Kind.Duration v
  fits (Schema.Enum ss d) v = is Kind.Enum v && symbol_at ss (index v) (octets v)
  fits (Schema.Array s) v = is Kind.Array v && all_items (λ w. fits s w) (items v)
  fits (Schema.Map s) v = is Kind.Map v && all_entries (λ w. fits s w) (entries v)
  fits (Schema.Record fs) v = is Kind.Record v && fields_fit fs (entries v)
  fits (Schema.Union vs ks ns) v = is Kind.Union v && variant_fits vs (index v) (peel v)

  pub fields_fit : Fields → Entries → Bool
  fields_fit no_fields no_entries = true
  fields_fit no_fields (entry m v es) = false
  fields_fit (field n d s fs) no_entries = false
  fields_fit (field n d s fs) (entry m v es) = same m n && fits s v && fields_fit fs es

  pub variant_fits : Variants → ℕ → Value → Bool
  variant_fits no_variants i v = false
  variant_fits (variant s vs) zero v = fits s v
  variant_fits (variant s vs) (suc i) v = variant_fits vs i v
