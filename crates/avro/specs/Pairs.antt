-- Nullable pairs (docs/RULES.md, "What is promised of results"): Null and one other variant, with a kind table that keeps them apart.
use Rattle.std.specs.Prelude.{ℕ, List, [], ◌∷◌, Bool, true, false, ◌&&◌, not, eqb}
use Rattle.std.specs.Bool.{beq}
use Rattle.base.specs.Base.{when◌then◌else◌}
use Rattle.frame.specs.Kind
use Rattle.frame.specs.Tree.{Schema, Fields, Variants, no_fields, field, no_variants, variant, schema_kind}

-- the kind table leads to position p from kind 00 and no other, and never leads kind 00 elsewhere
unfoldable pub only_null_leads_to : ℕ → List (ℕ × ℕ) → Bool
only_null_leads_to p [] = true
only_null_leads_to p (e ∷ es) = beq (eqb e.0 Kind.Null) (eqb e.1 p) && only_null_leads_to p es

abbrev pub is_null : Schema → Bool
is_null s = eqb (schema_kind s) Kind.Null

-- a nullable pair (the rules' term): Null and one variant that isn't Null, with such a kind table
unfoldable pub nullable_pair : Variants → List (ℕ × ℕ) → Bool
nullable_pair no_variants ks = false
nullable_pair (variant a no_variants) ks = false
nullable_pair (variant a (variant b no_variants)) ks =
    when is_null a then not (is_null b) && only_null_leads_to 0 ks else is_null b && only_null_leads_to 1 ks
nullable_pair (variant a (variant b (variant c vs))) ks = false

-- every union of the schema is a nullable pair
unfoldable mutual
  pub nullable_pairs : Schema → Bool
  nullable_pairs (Schema.Plain k) = true
  nullable_pairs (Schema.Fixed n) = true
  nullable_pairs (Schema.Decimal p s n) = true
  nullable_pairs (Schema.Uuid f) = true
  nullable_pairs (Schema.Duration n) = true
  nullable_pairs (Schema.Enum ss d) = true
  nullable_pairs (Schema.Array s) = nullable_pairs s
  nullable_pairs (Schema.Map s) = nullable_pairs s
  nullable_pairs (Schema.Record fs) = field_pairs fs
  nullable_pairs (Schema.Union vs ks ns) = nullable_pair vs ks && variant_pairs vs

  pub field_pairs : Fields → Bool
  field_pairs no_fields = true
  field_pairs (field n d s fs) = nullable_pairs s && field_pairs fs

  pub variant_pairs : Variants → Bool
  variant_pairs no_variants = true
  variant_pairs (variant s vs) = nullable_pairs s && variant_pairs vs
