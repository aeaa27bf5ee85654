-- What the ways into a union schema require, and what their answers say.
use Rattle.std.specs.Prelude as std
use Rattle.std.specs.Prelude.{ℕ, ◌+◌, ◌-◌, ◌*◌, ◌≤◌, ◌<◌, ◌≡◌, List, [], ◌∷◌, Bool, true, false, T, eqb, length, drop, get_or, Some, None}
use Rattle.std.proofs.Math.Option.{Option, none, some}
use Rattle.number.specs.Number.{number_at}
use Rattle.text.specs.Read.{Read}
use Rattle.frame.specs.Tree.{Schema, Variants, schema_to_base_schemakind}
use Rattle.frame.specs.Readers.{read_many}
use Rattle.frame.specs.SchemaFrame.{read_schema}
use Rattle.frame.specs.Sound.{count_variants, schema_sound}
use Rattle.avro.specs.Defaults.{defaults_short}
use Rattle.avro.specs.Union.{lookup_kind}
use Rattle.variants.specs.declared.Positions.{Positions}

-- ---- a union's parts

-- the variants of a union schema and its two tables, and none of any other schema
unfoldable pub union_parts : Schema → Variants × List (ℕ × ℕ) × List ℕ
union_parts (Schema.Plain k) = (Variants.no_variants, [], [])
union_parts (Schema.Fixed n) = (Variants.no_variants, [], [])
union_parts (Schema.Decimal p s n) = (Variants.no_variants, [], [])
union_parts (Schema.Uuid f) = (Variants.no_variants, [], [])
union_parts (Schema.Duration n) = (Variants.no_variants, [], [])
union_parts (Schema.Enum ss d) = (Variants.no_variants, [], [])
union_parts (Schema.Array s) = (Variants.no_variants, [], [])
union_parts (Schema.Map s) = (Variants.no_variants, [], [])
union_parts (Schema.Record fs) = (Variants.no_variants, [], [])
union_parts (Schema.Union vs ks ns) = (vs, ks, ns)

abbrev pub union_variants : Schema → Variants
union_variants t = (union_parts t).0

abbrev pub kind_table : Schema → List (ℕ × ℕ)
kind_table t = (union_parts t).1

abbrev pub named_table : Schema → List ℕ
named_table t = (union_parts t).2

abbrev pub count_of : Schema → ℕ
count_of t = count_variants (union_variants t)

-- the i-th variant
unfoldable pub variant_list : Variants → List Schema
variant_list Variants.no_variants = []
variant_list (Variants.variant s vs) = s ∷ variant_list vs

abbrev pub variant_nth : Schema → ℕ → Schema
variant_nth t i = get_or (variant_list (union_variants t)) i (Schema.Plain 0)

unfoldable pub base_at : Schema → ℕ → ℕ
base_at t i = schema_to_base_schemakind (variant_nth t i)

-- ---- of what was read

-- a schema that was checked: sound, and its defaults short
pub record Ready (depth : ℕ) (s : List ℕ) : Type 0 where
  pub tree : Schema
  pub rest : List ℕ
  pub reads : read_schema depth s ≡ some (tree, rest)
  pub sound : T (schema_sound tree)
  pub short : T (defaults_short tree)

-- P of what a part holds
unfoldable pub OnRead : {A : Type 0} → (A → Type 0) → Read A → Type 0
OnRead P none = ⊥
OnRead P (some x) = P x.0

-- the base kind of the schema that a part holds
unfoldable pub base_read : Read Schema → ℕ
base_read none = 0
base_read (some x) = schema_to_base_schemakind x.0

-- ---- kinds and positions

unfoldable pub found_of : Option ℕ → std.Option ℕ
found_of none = None
found_of (some i) = Some i

-- the kind to look for
unfoldable pub wanted_of : std.Option ℕ → Option ℕ
wanted_of (Some k) = some k
wanted_of None = none

-- ---- places in a union's part

-- i of the variants are passed at r
pub record VariantAt (depth : ℕ) (s : List ℕ) (i r : ℕ) : Type 0 where
  pub variants : List Schema
  pub rest : List ℕ
  pub all : read_many (read_schema (depth - 1)) (number_at s 1 2) (drop 3 s) ≡ some (variants, rest)
  pub inside : r ≤ length s
  pub left : read_many (read_schema (depth - 1)) (number_at s 1 2 - i) (drop r s) ≡ some (drop i variants, rest)

-- the 2-byte numbers xs stand in s
pub record Numbers (s : List ℕ) (xs : List ℕ) (p : Positions) : Type 0 where
  pub inside : p.at + 2 * p.count ≤ length s
  pub counted : length xs ≡ p.count
  pub each : (j : ℕ) → j < p.count → number_at s (p.at + 2 * j) 2 ≡ get_or xs j 0

-- i stands among the n numbers of 2 bytes at a place, or does not
unfoldable pub Among : List ℕ → ℕ → ℕ → ℕ → Bool → Type 0
Among s at n i true = (j : ℕ) × ((j < n) × (number_at s (at + 2 * j) 2 ≡ i))
Among s at n i false = (j : ℕ) → j < n → number_at s (at + 2 * j) 2 ≡ i → ⊥

unfoldable pub is_at : std.Option ℕ → ℕ → Bool
is_at (Some u) i = eqb u i
is_at None i = false

-- the position that a kind table gives for a kind, of a table that was read
unfoldable pub lookup_read : ℕ → Read (List (ℕ × ℕ)) → Option ℕ
lookup_read k none = none
lookup_read k (some x) = lookup_kind k x.0
