-- What holds of every schema: shown once, by the schema's cases, and of every sound schema whose unions are nullable pairs.
use Prim.Native.Nat.{ℕ}
use mathlib.Core.List.{List}
use mathlib.Core.Bool.{Bool, true, false, not}
use lib.Dec.{T, eqb}
use lib.Ieee.Fits.{and_l, and_r}
use Rattle.frame.specs.Kind
use Rattle.frame.specs.Tree.{Schema, Fields, Variants, no_fields, field, no_variants, variant, schema_kind}
use Rattle.frame.specs.Sound.{schema_sound, fields_sound, variants_sound, kinds_sound, count_variants}
use Rattle.frame.proofs.SoundLaws.{sound-union, sound-variant, sound-field}
use Rattle.avro.specs.Pairs.{nullable_pair, nullable_pairs, field_pairs, variant_pairs}

-- a schema without children: a leaf
unfoldable pub childless : Schema → Bool
childless (Schema.Plain k) = true
childless (Schema.Fixed n) = true
childless (Schema.Decimal p s n) = true
childless (Schema.Uuid f) = true
childless (Schema.Duration n) = true
childless (Schema.Enum ss d) = true
childless (Schema.Array s) = false
childless (Schema.Map s) = false
childless (Schema.Record fs) = false
childless (Schema.Union vs ks ns) = false

abbrev pub NotUnion : Schema → Type 0
NotUnion s = T (not (eqb (schema_kind s) Kind.Union))

-- ---- every schema

module _ (P : Schema → Type 0) where
  abbrev pub EveryField : Fields → Type 0
  EveryField no_fields = Unit
  EveryField (field n d s fs) = P s × EveryField fs

  abbrev pub EveryVariant : Variants → Type 0
  EveryVariant no_variants = Unit
  EveryVariant (variant s vs) = P s × EveryVariant vs

  pub record Cases : Type 0 where
    pub leaf : (s : Schema) → T (childless s) → P s
    pub array : (s : Schema) → P s → P (Schema.Array s)
    pub map : (s : Schema) → P s → P (Schema.Map s)
    pub fields : (fs : Fields) → EveryField fs → P (Schema.Record fs)
    pub union : (vs : Variants) (ks : List (ℕ × ℕ)) (ns : List ℕ) → EveryVariant vs → P (Schema.Union vs ks ns)

  module _ (cases : Cases) where
    mutual
      unfolding childless

      pub every : (s : Schema) → P s
      every (Schema.Plain k) = cases.leaf (Schema.Plain k) tt
      every (Schema.Fixed n) = cases.leaf (Schema.Fixed n) tt
      every (Schema.Decimal p s n) = cases.leaf (Schema.Decimal p s n) tt
      every (Schema.Uuid f) = cases.leaf (Schema.Uuid f) tt
      every (Schema.Duration n) = cases.leaf (Schema.Duration n) tt
      every (Schema.Enum ss d) = cases.leaf (Schema.Enum ss d) tt
      every (Schema.Array s) = cases.array s (every s)
      every (Schema.Map s) = cases.map s (every s)
      every (Schema.Record fs) = cases.fields fs (every-field fs)
      every (Schema.Union vs ks ns) = cases.union vs ks ns (every-variant vs)

      every-field : (fs : Fields) → EveryField fs
      every-field no_fields = tt
      every-field (field n d s fs) = (every s, every-field fs)

      every-variant : (vs : Variants) → EveryVariant vs
      every-variant no_variants = tt
      every-variant (variant s vs) = (every s, every-variant vs)

-- ---- every sound schema whose unions are nullable pairs

abbrev pub pair : Schema → Schema → Variants
pair a b = variant a (variant b no_variants)

-- what holds of two variants holds of a nullable pair
pub by-pair : (P : Variants → Type 0) (vs : Variants) (ks : List (ℕ × ℕ)) → T (nullable_pair vs ks) → ((a b : Schema) → P (pair a b)) → P vs
unfolding nullable_pair
by-pair P no_variants ks h f = absurd h
by-pair P (variant a no_variants) ks h f = absurd h
by-pair P (variant a (variant b no_variants)) ks h f = f a b
by-pair P (variant a (variant b (variant c vs))) ks h f = absurd h

-- one variant of a pair
pub record Side (P : Schema → Type 0) (s : Schema) : Type 0 where
  pub no_union : NotUnion s
  pub sound : T (schema_sound s)
  pub pairs : T (nullable_pairs s)
  pub holds : P s

module _ (P : Schema → Type 0) where
  pub record Steps : Type 0 where
    pub leaf : (s : Schema) → T (childless s) → P s
    pub array : (s : Schema) → P s → P (Schema.Array s)
    pub map : (s : Schema) → P s → P (Schema.Map s)
    pub fields : (fs : Fields) → T (fields_sound fs) → EveryField P fs → P (Schema.Record fs)
    pub union : (a b : Schema) (ks : List (ℕ × ℕ)) (ns : List ℕ) → Side P a → Side P b → T (nullable_pair (pair a b) ks) → T (kinds_sound 2 0 ks)
        → P (Schema.Union (pair a b) ks ns)

  abbrev Sound : Schema → Type 0
  Sound s = T (schema_sound s) → T (nullable_pairs s) → P s

  sound-fields : (fs : Fields) → EveryField Sound fs → T (fields_sound fs) → T (field_pairs fs) → EveryField P fs
  unfolding nullable_pairs
  sound-fields no_fields c h p = tt
  sound-fields (field n d s fs) c h p =
      let f = sound-field n d s fs h in
      (c.0 f.schema (and_l (nullable_pairs s) (field_pairs fs) p), sound-fields fs c.1 f.rest (and_r (nullable_pairs s) (field_pairs fs) p))

  sound-sides : (vs : Variants) → EveryVariant Sound vs → T (variants_sound vs) → T (variant_pairs vs) → EveryVariant (Side P) vs
  unfolding nullable_pairs
  sound-sides no_variants c h p = tt
  sound-sides (variant s vs) c h p =
      let v = sound-variant s vs h in
      let q : T (nullable_pairs s) = and_l (nullable_pairs s) (variant_pairs vs) p in
      (record { no_union = v.no_union; sound = v.schema; pairs = q; holds = c.0 v.schema q }, sound-sides vs c.1 v.rest (and_r (nullable_pairs s) (variant_pairs vs) p))

  module _ (steps : Steps) where
    pub induction : (s : Schema) → T (schema_sound s) → T (nullable_pairs s) → P s
    unfolding schema_sound nullable_pairs count_variants
    induction = every Sound (record {
      leaf = λ s l h p. steps.leaf s l;
      array = λ s c h p. steps.array s (c h p);
      map = λ s c h p. steps.map s (c h p);
      fields = λ fs c h p. steps.fields fs h (sound-fields fs c h p);
      union = λ vs ks ns c h p.
          let s = sound-union vs ks ns h in
          let h : T (nullable_pair vs ks) = and_l (nullable_pair vs ks) (variant_pairs vs) p in
          by-pair (λ us. T (nullable_pair us ks) → T (kinds_sound (count_variants us) 0 ks) → EveryVariant (Side P) us → P (Schema.Union us ks ns)) vs ks h
          (λ a b k l e. steps.union a b ks ns e.0 e.1.0 k l) h s.kinds (sound-sides vs c s.variants (and_r (nullable_pair vs ks) (variant_pairs vs) p));
    })
