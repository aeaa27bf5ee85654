-- What a default becomes in the first variant of its union, and whether that is short, at each way of the code.
use Prim.Native.Nat.{ℕ, ◌+◌, ◌-◌, ◌≤◌, ◌<◌, min}
use mathlib.Core.Path.{◌≡◌, refl, sym, ap, ◌∙◌, subst}
use mathlib.Core.List.{List}
use mathlib.Core.Option.{some}
use mathlib.Core.Bool.{Bool, true, false, ◌&&◌, ◌||◌, not, and-true, and-false}
use native.Mathlib.Omega.{arith}
use lib.Dec.{T, leb, eqb}
use lib.ListN.{length, get_or, drop, length-drop}
use lib.Seq.{drop-drop}
use lib.Ieee.Fits.{and_l, and_r}
use borrow.Author.Tests.{le-leb, lt-leb, leb-true, leb-false, ne_eqb}
use Rattle.std.specs.Prelude.{Some, None, Ok, Err}
use Rattle.std.specs.Bool.{then_some}
use Rattle.base.specs.Base.{ok, stop, after}
use Rattle.base.specs.declared.refusal.Refusal.{Refusal}
use Rattle.number.specs.Number.{bytes_of}
use Rattle.frame.specs.Tree.{Value, Schema, Variants, variant, is, kind_of, peel, schema_kind}
use Rattle.frame.specs.ValueFrame.{contents, read_value, encode_value, write_scalar}
use Rattle.frame.specs.SchemaFrame.{read_field, read_schema}
use Rattle.frame.specs.Sound.{schema_sound, default_allowed, default_kinds, default_scalar, keys_rise}
use Rattle.frame.proofs.Reading.{read-what}
use Rattle.frame.proofs.Measuring.{spans-some, spans-rest}
use Rattle.frame.proofs.SchemaNodes.{schema-there, schema-kind}
use Rattle.types.specs.Types.{Outcome}
use Rattle.types.specs.Contract.{encoded, on_both}
use Rattle.buffer.specs.Built.{Built, Wrote}
use Rattle.schema.specs.Parts.{field_sound}
use Rattle.avro.specs.Resolve.{resolve, start_default}
use Rattle.avro.specs.Defaults.{defaults_short, short_default, short_start}
use Rattle.avro.proofs.WalkSentences.{start_plain, start-tried, start-null}
use Rattle.field.specs.Parts.{FieldParts, DefaultAt}
use Rattle.walk.specs.Contract.{node_bytes}
use Rattle.variants.specs.Ways.{Ready}
use Rattle.defaults.specs.Shortness.{SoundRead, test_read, ShortLen, field_short}
use Rattle.field.specs.declared.FieldAt.{FieldAt}
use Rattle.defaults.proofs.SoundParts.{test-some, len-le, short-ready}
use Rattle.variants.proofs.UnionReading.{ready-reads}
use Rattle.walk.proofs.Pieces.{both_some}
use Rattle.walk.proofs.FieldBytes.{Given, default-given, default_none}
use Rattle.walk.proofs.DefaultBytes.{first_variant, first_kind}

pub ready-there : (d : ℕ) (s : List ℕ) → Ready d s → (0 < d) × (0 < length s)
ready-there d s w = schema-there d s (ready-reads d s w)

-- ---- what a default becomes

-- a default that is allowed is no Union
no_union : (v : Value) → T (default_kinds v) → is 10 v ≡ false
unfolding default_kinds default_scalar kind_of
no_union (Value.Scalar k n) h = ne_eqb k 10 (λ e. subst (λ j. T (default_scalar j n)) e h)
no_union (Value.Octets k b) h = ne_eqb k 10 (λ e. subst (λ j. T (eqb j 7)) e h)
no_union (Value.Enum i b) h = absurd h
no_union (Value.Array vs) h = refl
no_union (Value.Map es) h = refl
no_union (Value.Record es) h = absurd h
no_union (Value.Union i v) h = absurd h

short-alone : (v : Value) → T (default_kinds v) → short_start (ok v) ≡ true
unfolding short_start
short-alone v h = ap (λ b. not b || leb (length (encode_value (peel v))) 4096) (no_union v h)

-- no union: the default stays as it is
start-alone : (t : Schema) (v : Value) → (schema_kind t ≡ 10 → ⊥) → T (default_kinds v) → short_start (start_default t v) ≡ true
start-alone t v u h = ap short_start (start_plain t v u) ∙ short-alone v h

-- Null is short
short-null : (t : Schema) (vs : Variants) (ks : List (ℕ × ℕ)) (ns : List ℕ) (v : Value) → schema_kind t ≡ 0 → short_start (start_default (Schema.Union (variant t vs) ks ns) v) ≡ true
unfolding short_start kind_of peel encode_value write_scalar contents bytes_of
short-null t vs ks ns v e = ap short_start (start-null t vs ks ns v e)

-- a length that is capped far above 4,096
capped : (n m : ℕ) → n ≡ min m 65536 → leb n 4096 ≡ leb m 4096
capped n m e = go (leb m 4096) refl
  where
    go : (b : Bool) → leb m 4096 ≡ b → leb n 4096 ≡ b
    go true q = let h = leb-true m 4096 q in le-leb n 4096 (omega (arith, h, e))
    go false q = let h = leb-false m 4096 q in lt-leb n 4096 (omega (arith, h, e))

outcome-accepted : (x : Outcome) (o : List ℕ) (n : ℕ) → Wrote (encoded x) o (Ok n) → leb n 4096 ≡ short_start (after x (λ r. ok (Value.Union 0 r)))
unfolding Wrote Built encoded short_start after kind_of peel
outcome-accepted (ok v) o n w = capped n (length (encode_value v)) w.0
outcome-accepted (stop k) o n w = absurd w

outcome-refused : (x : Outcome) (o : List ℕ) (k : Refusal) → Wrote (encoded x) o (Err k) → true ≡ short_start (after x (λ r. ok (Value.Union 0 r)))
unfolding Wrote encoded short_start after
outcome-refused (ok v) o k w = absurd w
outcome-refused (stop j) o k w = refl

module _ (d : ℕ) (s v : List ℕ) (w : Ready d s) (g : SoundRead default_kinds (read_value 16 v)) where
  start_is : short_start (on_both start_default (read_schema d s) (read_value 16 v)) ≡ short_start (start_default w.tree g.tree)
  start_is = ap short_start (both_some start_default _ _ w.tree g.tree w.rest g.rest w.reads g.reads)

  pub alone-short : (get_or s 0 0 ≡ 10 → ⊥) → true ≡ short_start (on_both start_default (read_schema d s) (read_value 16 v))
  alone-short u =
      let k = schema-kind d s w.tree w.rest w.reads in
      sym (start_is ∙ start-alone w.tree g.tree (λ e. u (sym k ∙ e)) g.sound)

  module _ (e : get_or s 0 0 ≡ 10) where
    pub null-short : get_or s 3 0 ≡ 0 → true ≡ short_start (on_both start_default (read_schema d s) (read_value 16 v))
    null-short z =
        let f = first_variant d s w e in
        sym (start_is ∙ ap (λ t. short_start (start_default t g.tree)) f.tree_is
        ∙ short-null f.lead f.others f.kinds f.named g.tree (first_kind d s w e ∙ z))

    module _ (z : get_or s 3 0 ≡ 0 → ⊥) (o : List ℕ) where
      tried-is : short_start (on_both start_default (read_schema d s) (read_value 16 v)) ≡ short_start (after (resolve (first_variant d s w e).lead g.tree) (λ r. ok (Value.Union 0 r)))
      tried-is =
          let f = first_variant d s w e in
          start_is ∙ ap (λ t. short_start (start_default t g.tree)) f.tree_is
          ∙ ap short_start (start-tried f.lead f.others f.kinds f.named g.tree (λ q. z (sym (first_kind d s w e) ∙ q)))

      bytes-are : on_both node_bytes (read_schema (d - 1) (drop 3 s)) (read_value 16 v) ≡ encoded (resolve (first_variant d s w e).lead g.tree)
      unfolding node_bytes
      bytes-are = let f = first_variant d s w e in both_some node_bytes _ _ f.lead g.tree f.rest g.rest f.reads g.reads

      pub accepted-short : (n : ℕ) → Wrote (on_both node_bytes (read_schema (d - 1) (drop 3 s)) (read_value 16 v)) o (Ok n)
          → leb n 4096 ≡ short_start (on_both start_default (read_schema d s) (read_value 16 v))
      accepted-short n q = outcome-accepted _ o n (subst (λ x. Wrote x o (Ok n)) bytes-are q) ∙ sym tried-is

      pub refused-short : (k : Refusal) → Wrote (on_both node_bytes (read_schema (d - 1) (drop 3 s)) (read_value 16 v)) o (Err k)
          → true ≡ short_start (on_both start_default (read_schema d s) (read_value 16 v))
      refused-short k q = outcome-refused _ o k (subst (λ x. Wrote x o (Err k)) bytes-are q) ∙ sym tried-is

-- ---- a field

module _ (d : ℕ) (s : List ℕ) (f : FieldAt) (w : SoundRead field_sound (read_field (read_schema d) s)) (g : FieldParts d s f) where
  field-is-sound : T (default_allowed g.default && schema_sound g.tree)
  field-is-sound = subst (λ x. T (field_sound x)) (read-what (sym w.reads ∙ g.reads)) w.sound

  pub inner-sound : SoundRead schema_sound (read_schema d (drop f.schema_at s))
  inner-sound = record { tree = g.tree; rest = g.rest; reads = g.schema_at; sound = and_r (default_allowed g.default) (schema_sound g.tree) field-is-sound }

  field-whole : test_read field_short (read_field (read_schema d) s) ≡ (short_default g.tree g.default && defaults_short g.tree)
  unfolding field_short
  field-whole = test-some field_short _ (g.name, g.default, g.tree) g.rest g.reads

  field-by : test_read field_short (read_field (read_schema d) s) ≡ (short_default g.tree g.default && test_read defaults_short (read_schema d (drop f.schema_at s)))
  field-by = field-whole ∙ ap (λ x. short_default g.tree g.default && x) (sym (test-some defaults_short _ g.tree g.rest g.schema_at))

  pub inner-long : ShortLen defaults_short (read_schema d (drop f.schema_at s)) (drop f.schema_at s) None → ShortLen field_short (read_field (read_schema d) s) s None
  unfolding ShortLen
  inner-long v = field-by ∙ ap (λ x. short_default g.tree g.default && x) v ∙ and-false (short_default g.tree g.default)

  module _ (n : ℕ) (v : ShortLen defaults_short (read_schema d (drop f.schema_at s)) (drop f.schema_at s) (Some n)) where
    pub field-inside : f.schema_at + n ≤ length s
    field-inside = omega (arith, g.inside, len-le defaults_short _ _ n v, length-drop f.schema_at s)

    inner-short : test_read defaults_short (read_schema d (drop f.schema_at s)) ≡ true
    unfolding ShortLen
    inner-short = v.0

    own : test_read field_short (read_field (read_schema d) s) ≡ short_default g.tree g.default
    own = field-by ∙ ap (λ x. short_default g.tree g.default && x) inner-short ∙ and-true (short_default g.tree g.default)

    -- the field ends where its schema does
    field-len : short_default g.tree g.default ≡ true → ShortLen field_short (read_field (read_schema d) s) s (Some (f.schema_at + n))
    unfolding ShortLen
    field-len z =
        let t : g.rest ≡ drop (f.schema_at + n) s = spans-rest _ _ n v.1 g.tree g.rest g.schema_at ∙ drop-drop n f.schema_at s in
        (own ∙ z, spans-some _ s _ (g.name, g.default, g.tree) field-inside (g.reads ∙ ap (λ r. some ((g.name, g.default, g.tree), r)) t))

    pub none-short : f.default ≡ None → ShortLen field_short (read_field (read_schema d) s) s (Some (f.schema_at + n))
    unfolding short_default
    none-short e =
        let z = default_none s g.default (subst (λ x. DefaultAt s x g.default) e g.default_at) in
        field-len (ap (short_default g.tree) z)

    pub inner-ready : Ready d (drop f.schema_at s)
    inner-ready = short-ready d (drop f.schema_at s) inner-sound inner-short

    module _ (p : ℕ) (y : f.default ≡ Some p) where
      given : Given s p g.default
      given = default-given s p g.default (subst (λ x. DefaultAt s x g.default) y g.default_at)

      pub default-inside : p ≤ length s
      default-inside = given.inside

      pub default-sound : SoundRead default_kinds (read_value 16 (drop p s))
      unfolding default_allowed
      default-sound =
          let u = given.value in
          let h : T (default_kinds u && keys_rise u) = subst (λ x. T (default_allowed x)) given.there (and_l (default_allowed g.default) (schema_sound g.tree) field-is-sound) in
          record { tree = u; rest = given.rest; reads = given.reads; sound = and_l (default_kinds u) (keys_rise u) h }

      default-is : (r : Bool) → r ≡ short_start (on_both start_default (read_schema d (drop f.schema_at s)) (read_value 16 (drop p s))) → short_default g.tree g.default ≡ r
      unfolding short_default
      default-is r e =
          ap (short_default g.tree) given.there
          ∙ sym (e ∙ ap short_start (both_some start_default _ _ g.tree given.value g.rest given.rest g.schema_at given.reads))

      pub start-len : (r : Bool) → r ≡ short_start (on_both start_default (read_schema d (drop f.schema_at s)) (read_value 16 (drop p s)))
          → ShortLen field_short (read_field (read_schema d) s) s (then_some r (f.schema_at + n))
      unfolding ShortLen
      start-len true e = field-len (default-is true e)
      start-len false e = own ∙ default-is false e
