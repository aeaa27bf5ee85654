-- A union's part that was checked: each variant's part is ready, and the positions of both tables are variants.
use Prim.Native.Nat.{ℕ, zero, suc, ◌-◌, ◌≤◌, ◌<◌}
use mathlib.Core.Path.{◌≡◌, refl, sym, ap, ◌∙◌, subst}
use mathlib.Core.List.{List, [], ◌∷◌}
use mathlib.Core.Option.{Option, none, some}
use mathlib.Core.Bool.{Bool, true, false, ◌&&◌}
use native.Mathlib.Omega.{arith}
use lib.Dec.{T, leb, ltb, eqb, ltb→lt}
use lib.ListN.{length, drop, get_or}
use lib.Ieee.Fits.{and_l, and_r}
use Rattle.base.specs.Base.{when◌then◌else◌}
use Rattle.number.specs.Number.{number_at}
use Rattle.text.specs.Measured.{Reads}
use Rattle.frame.specs.Kind
use Rattle.frame.specs.Tree.{Value, Schema, Variants, schema_kind, schema_to_base_schemakind}
use Rattle.frame.specs.SchemaFrame as frame
use Rattle.frame.specs.SchemaFrame.{read_schema}
use Rattle.frame.specs.Sound.{schema_sound, variants_sound, kinds_sound, positions_sound, count_variants}
use Rattle.frame.proofs.Reading.{reads-some}
use Rattle.frame.proofs.SoundLaws.{sound-union, sound-variant}
use Rattle.avro.specs.Union.{Trial, no_trial, lookup_kind, table_lookup}
use Rattle.avro.specs.Resolve.{resolve, trials}
use Rattle.avro.specs.Defaults.{defaults_short, variant_defaults_short}
use Rattle.avro.proofs.UnionLaws.{none-some}
use Rattle.variants.specs.Ways.{Ready, VariantAt, base_at, base_read, count_of, kind_table, named_table, union_variants, variant_list, variant_nth}
use Rattle.variants.proofs.UnionReading.{Parts, union-parts, parts-variants, parts-kinds, parts-named, parts-count, passed_start, passed_first, passed-item, passed-variants}
use Rattle.turns.specs.Turns.{UnionPart}

-- ---- the variants as a list

list-variants : (vs : List Schema) → variant_list (frame.variants_of vs) ≡ vs
unfolding variant_list frame.variants_of
list-variants [] = refl
list-variants (v ∷ vs) = ap (λ xs. v ∷ xs) (list-variants vs)

-- what comes of trying a value against a schema
abbrev pub trial_of : Schema → Value → Trial
trial_of s w = record { kind = schema_kind s; base = schema_to_base_schemakind s; outcome = resolve s w }

pub trial-nth : (vs : Variants) (w : Value) (i : ℕ) (z : Schema) → i < count_variants vs → get_or (trials vs w) i no_trial ≡ trial_of (get_or (variant_list vs) i z) w
unfolding trials variant_list count_variants
trial-nth Variants.no_variants w i z h = absurd (omega arith)
trial-nth (Variants.variant v vs) w zero z h = refl
trial-nth (Variants.variant v vs) w (suc i) z h = trial-nth vs w i z (omega arith)

pub trials-length : (vs : Variants) (w : Value) → length (trials vs w) ≡ count_variants vs
unfolding trials count_variants
trials-length Variants.no_variants w = refl
trials-length (Variants.variant v vs) w = ap suc (trials-length vs w)

sound-nth : (vs : Variants) (i : ℕ) (z : Schema) → T (variants_sound vs) → i < count_variants vs → T (schema_sound (get_or (variant_list vs) i z))
unfolding variant_list count_variants
sound-nth Variants.no_variants i z t h = absurd (omega arith)
sound-nth (Variants.variant v vs) zero z t h = (sound-variant v vs t).schema
sound-nth (Variants.variant v vs) (suc i) z t h = sound-nth vs i z (sound-variant v vs t).rest (omega arith)

short-nth : (vs : Variants) (i : ℕ) (z : Schema) → T (variant_defaults_short vs) → i < count_variants vs → T (defaults_short (get_or (variant_list vs) i z))
unfolding variant_defaults_short variant_list count_variants
short-nth Variants.no_variants i z t h = absurd (omega arith)
short-nth (Variants.variant v vs) zero z t h = and_l (defaults_short v) (variant_defaults_short vs) t
short-nth (Variants.variant v vs) (suc i) z t h = short-nth vs i z (and_r (defaults_short v) (variant_defaults_short vs) t) (omega arith)

short-union : (vs : Variants) (ks : List (ℕ × ℕ)) (ns : List ℕ) → T (defaults_short (Schema.Union vs ks ns)) → T (variant_defaults_short vs)
unfolding defaults_short
short-union vs ks ns h = h

-- ---- the positions of sound tables

position-below : (n : ℕ) (ns : List ℕ) (j : ℕ) → T (positions_sound n ns) → j < length ns → get_or ns j 0 < n
unfolding positions_sound
position-below n [] j t h = absurd (omega arith)
position-below n (p ∷ ps) zero t h = ltb→lt p n (and_l (ltb p n) (positions_sound n ps) t)
position-below n (p ∷ ps) (suc j) t h = position-below n ps j (and_r (ltb p n) (positions_sound n ps) t) (omega arith)

some_same : (a b : ℕ) → some a ≡ some b → a ≡ b
some_same a b e = cc

lookup-below : (n least : ℕ) (ks : List (ℕ × ℕ)) (k i : ℕ) → T (kinds_sound n least ks) → lookup_kind k ks ≡ some i → i < n
unfolding kinds_sound lookup_kind
lookup-below n least [] k i t e = none-some none i refl e
lookup-below n least (x ∷ ks) k i t e = go (λ u f. lookup-below n (suc x.0) ks k i u f) (eqb x.0 k) refl
  where
    a : Bool
    a = leb least x.0 && leb x.0 Kind.Duration

    go : (T (kinds_sound n (suc x.0) ks) → lookup_kind k ks ≡ some i → i < n) → (b : Bool) → eqb x.0 k ≡ b → i < n
    go rest true g =
        let f : some x.1 ≡ some i = sym (ap (λ b. when b then some x.1 else lookup_kind k ks) g) ∙ e in
        let l : x.1 < n = ltb→lt x.1 n (and_r a (ltb x.1 n) (and_l (a && ltb x.1 n) (kinds_sound n (suc x.0) ks) t)) in
        omega (arith, some_same x.1 i f)
    go rest false g = rest (and_r (a && ltb x.1 n) (kinds_sound n (suc x.0) ks) t) (sym (ap (λ b. when b then some x.1 else lookup_kind k ks) g) ∙ e)

lookup-within : (ks : List (ℕ × ℕ)) (n : ℕ) → T (kinds_sound n 0 ks) → (x : Option ℕ) (i : ℕ) → table_lookup ks x ≡ some i → i < n
unfolding table_lookup
lookup-within ks n h none i e = none-some none i refl e
lookup-within ks n h (some k) i e = lookup-below n 0 ks k i h e

-- ---- a union's part

module _ (d : ℕ) (s : List ℕ) (q : UnionPart d s) where
  parts : Parts d s q.schema.tree
  parts = union-parts d s q.schema.tree q.schema.rest q.schema.reads q.kind

  pub part-long : 3 ≤ length s
  part-long = parts.long

  pub part-deep : 0 < d
  part-deep = parts.deep

  pub part_count : count_of q.schema.tree ≡ number_at s 1 2
  part_count = parts-count d s q.schema.tree parts

  pub part-start : VariantAt d s 0 3
  part-start = passed_start d s q.schema.tree parts

  as-union : (P : Schema → Type 0) → P q.schema.tree → P (Schema.Union (frame.variants_of parts.variants) parts.kinds parts.named)
  as-union P h = subst P parts.is h

  variants-sound : T (variants_sound (union_variants q.schema.tree))
  variants-sound = subst (λ vs. T (variants_sound vs)) (sym (parts-variants d s q.schema.tree parts)) (sound-union _ _ _ (as-union (λ t. T (schema_sound t)) q.schema.sound)).variants

  variants-short : T (variant_defaults_short (union_variants q.schema.tree))
  variants-short = subst (λ vs. T (variant_defaults_short vs)) (sym (parts-variants d s q.schema.tree parts)) (short-union _ _ _ (as-union (λ t. T (defaults_short t)) q.schema.short))

  kinds-sound : T (kinds_sound (count_of q.schema.tree) 0 (kind_table q.schema.tree))
  kinds-sound = rw (parts-variants d s q.schema.tree parts, parts-kinds d s q.schema.tree parts) (sound-union _ _ _ (as-union (λ t. T (schema_sound t)) q.schema.sound)).kinds

  positions-sound : T (positions_sound (count_of q.schema.tree) (named_table q.schema.tree))
  positions-sound = rw (parts-variants d s q.schema.tree parts, parts-named d s q.schema.tree parts) (sound-union _ _ _ (as-union (λ t. T (schema_sound t)) q.schema.sound)).positions

  pub named-below : (j : ℕ) → j < length (named_table q.schema.tree) → get_or (named_table q.schema.tree) j 0 < count_of q.schema.tree
  named-below j h = position-below (count_of q.schema.tree) (named_table q.schema.tree) j positions-sound h

  pub table_below : (k : Option ℕ) (i : ℕ) → table_lookup (kind_table q.schema.tree) k ≡ some i → i < count_of q.schema.tree
  table_below k i e = lookup-within (kind_table q.schema.tree) (count_of q.schema.tree) kinds-sound k i e

  nth-is : (i : ℕ) → variant_nth q.schema.tree i ≡ get_or parts.variants i (Schema.Plain 0)
  nth-is i = ap (λ vs. get_or (variant_list vs) i (Schema.Plain 0)) (parts-variants d s q.schema.tree parts) ∙ ap (λ vs. get_or vs i (Schema.Plain 0)) (list-variants parts.variants)

  module _ (i r : ℕ) (w : VariantAt d s i r) (h : i < count_of q.schema.tree) where
    inside : i < number_at s 1 2
    inside = omega (arith, part_count)

    pub variant-read : (u : List ℕ) × (read_schema (d - 1) (drop r s) ≡ some (variant_nth q.schema.tree i, u))
    variant-read = (
      (passed_first d s i r w inside).behind,
      passed-item d s i r w inside (Schema.Plain 0)
          ∙ ap (λ x. some (x, (passed_first d s i r w inside).behind)) (ap (λ vs. get_or vs i (Schema.Plain 0)) (passed-variants d s q.schema.tree parts i r w) ∙ sym (nth-is i)),
    )

    pub variant-ready : Ready (d - 1) (drop r s)
    variant-ready = record {
      tree = variant_nth q.schema.tree i;
      rest = variant-read.0;
      reads = variant-read.1;
      sound = sound-nth (union_variants q.schema.tree) i (Schema.Plain 0) variants-sound h;
      short = short-nth (union_variants q.schema.tree) i (Schema.Plain 0) variants-short h;
    }

    pub variant-reads : Reads (read_schema (d - 1) (drop r s))
    variant-reads = reads-some _ variant-read.0 variant-read.1

    pub base_there : base_read (read_schema (d - 1) (drop r s)) ≡ base_at q.schema.tree i
    unfolding base_read base_at
    base_there = ap base_read variant-read.1
