-- The depth at which a tree can be held decides nothing but how deep the tree may be: held at d is held at the tree's own depth, and that is at most d.
use Prim.Native.Nat.{ℕ, zero, suc, ◌≤◌}
use mathlib.Core.Bool.{Bool, ◌&&◌}
use native.Mathlib.Nat.{max-le, le-max_left, le-max_right, le_trans, le_of_suc-le-suc}
use native.Mathlib.Omega.{arith}
use lib.Dec.{T, ltb}
use lib.Ieee.Fits.{and_l, and_r, and_i}
use Prim.Native.Nat.{◌^◌, suc-le-suc}
use Rattle.frame.specs.Tree.{Value, Values, Entries, Schema, Fields, Variants, no_items, item, no_entries, entry, no_fields, field, no_variants, variant, depth, items_depth, entries_depth, schema_depth, fields_depth, variants_depth}
use Rattle.frame.specs.ValueFrame.{count_items, count_entries}
use Rattle.frame.proofs.RoundTrip.{held, items_held, entries_held, text_held}
use Rattle.frame.proofs.ReadHeld.{HeldSchema, HeldFields, HeldVariants}

no-depth : (n : ℕ) → suc n ≤ zero → ⊥
no-depth n h = omega arith

-- ---- values

mutual
  unfolding held depth

  -- what is held at d is at most d deep
  pub depth-held : (v : Value) (d : ℕ) → T (held v d) → depth v ≤ d
  depth-held (Value.Scalar k n) zero h = absurd h
  depth-held (Value.Scalar k n) (suc d) h = omega arith
  depth-held (Value.Octets k b) zero h = absurd h
  depth-held (Value.Octets k b) (suc d) h = omega arith
  depth-held (Value.Enum i s) zero h = absurd h
  depth-held (Value.Enum i s) (suc d) h = omega arith
  depth-held (Value.Array vs) zero h = absurd h
  depth-held (Value.Array vs) (suc d) h = suc-le-suc (depth-items vs d (and_r (ltb (count_items vs) 65536) (items_held vs d) h))
  depth-held (Value.Map es) zero h = absurd h
  depth-held (Value.Map es) (suc d) h = suc-le-suc (depth-entries es d (and_r (ltb (count_entries es) 65536) (entries_held es d) h))
  depth-held (Value.Record es) zero h = absurd h
  depth-held (Value.Record es) (suc d) h = suc-le-suc (depth-entries es d (and_r (ltb (count_entries es) 65536) (entries_held es d) h))
  depth-held (Value.Union i v) zero h = absurd h
  depth-held (Value.Union i v) (suc d) h = suc-le-suc (depth-held v d (and_r (ltb i (256 ^ 4)) (held v d) h))

  depth-items : (vs : Values) (d : ℕ) → T (items_held vs d) → items_depth vs ≤ d
  depth-items no_items d h = omega arith
  depth-items (item v vs) d h = max-le (depth-held v d (and_l (held v d) (items_held vs d) h)) (depth-items vs d (and_r (held v d) (items_held vs d) h))

  depth-entries : (es : Entries) (d : ℕ) → T (entries_held es d) → entries_depth es ≤ d
  depth-entries no_entries d h = omega arith
  depth-entries (entry n v es) d h =
      max-le (depth-held v d (and_r (text_held n) (held v d) (and_l (text_held n && held v d) (entries_held es d) h)))
      (depth-entries es d (and_r (text_held n && held v d) (entries_held es d) h))

mutual
  unfolding held depth

  -- what is held somewhere is held wherever it is not too deep
  pub held-depth : (v : Value) (e d : ℕ) → T (held v e) → depth v ≤ d → T (held v d)
  held-depth (Value.Scalar k n) zero d h l = absurd h
  held-depth (Value.Scalar k n) (suc e) zero h l = no-depth 0 l
  held-depth (Value.Scalar k n) (suc e) (suc d) h l = h
  held-depth (Value.Octets k b) zero d h l = absurd h
  held-depth (Value.Octets k b) (suc e) zero h l = no-depth 0 l
  held-depth (Value.Octets k b) (suc e) (suc d) h l = h
  held-depth (Value.Enum i s) zero d h l = absurd h
  held-depth (Value.Enum i s) (suc e) zero h l = no-depth 0 l
  held-depth (Value.Enum i s) (suc e) (suc d) h l = h
  held-depth (Value.Array vs) zero d h l = absurd h
  held-depth (Value.Array vs) (suc e) zero h l = no-depth (items_depth vs) l
  held-depth (Value.Array vs) (suc e) (suc d) h l =
      let c : Bool = ltb (count_items vs) 65536 in
      and_i c (items_held vs d) (and_l c (items_held vs e) h) (items-depth vs e d (and_r c (items_held vs e) h) (le_of_suc-le-suc l))
  held-depth (Value.Map es) zero d h l = absurd h
  held-depth (Value.Map es) (suc e) zero h l = no-depth (entries_depth es) l
  held-depth (Value.Map es) (suc e) (suc d) h l =
      let c : Bool = ltb (count_entries es) 65536 in
      and_i c (entries_held es d) (and_l c (entries_held es e) h) (entries-depth es e d (and_r c (entries_held es e) h) (le_of_suc-le-suc l))
  held-depth (Value.Record es) zero d h l = absurd h
  held-depth (Value.Record es) (suc e) zero h l = no-depth (entries_depth es) l
  held-depth (Value.Record es) (suc e) (suc d) h l =
      let c : Bool = ltb (count_entries es) 65536 in
      and_i c (entries_held es d) (and_l c (entries_held es e) h) (entries-depth es e d (and_r c (entries_held es e) h) (le_of_suc-le-suc l))
  held-depth (Value.Union i v) zero d h l = absurd h
  held-depth (Value.Union i v) (suc e) zero h l = no-depth (depth v) l
  held-depth (Value.Union i v) (suc e) (suc d) h l =
      let c : Bool = ltb i (256 ^ 4) in
      and_i c (held v d) (and_l c (held v e) h) (held-depth v e d (and_r c (held v e) h) (le_of_suc-le-suc l))

  items-depth : (vs : Values) (e d : ℕ) → T (items_held vs e) → items_depth vs ≤ d → T (items_held vs d)
  items-depth no_items e d h l = tt
  items-depth (item v vs) e d h l =
      and_i (held v d) (items_held vs d)
      (held-depth v e d (and_l (held v e) (items_held vs e) h) (le_trans (le-max_left (depth v) (items_depth vs)) l))
      (items-depth vs e d (and_r (held v e) (items_held vs e) h) (le_trans (le-max_right (depth v) (items_depth vs)) l))

  entries-depth : (es : Entries) (e d : ℕ) → T (entries_held es e) → entries_depth es ≤ d → T (entries_held es d)
  entries-depth no_entries e d h l = tt
  entries-depth (entry n v es) e d h l =
      let x : T (text_held n && held v e) = and_l (text_held n && held v e) (entries_held es e) h in
      and_i (text_held n && held v d) (entries_held es d)
      (and_i (text_held n) (held v d) (and_l (text_held n) (held v e) x) (held-depth v e d (and_r (text_held n) (held v e) x) (le_trans (le-max_left (depth v) (entries_depth es)) l)))
      (entries-depth es e d (and_r (text_held n && held v e) (entries_held es e) h) (le_trans (le-max_right (depth v) (entries_depth es)) l))

-- ---- schemas

mutual
  unfolding schema_depth

  pub depth-held-schema : (s : Schema) (d : ℕ) → HeldSchema s d → schema_depth s ≤ d
  depth-held-schema (Schema.Plain k) zero h = absurd h
  depth-held-schema (Schema.Plain k) (suc d) h = omega arith
  depth-held-schema (Schema.Fixed n) zero h = absurd h
  depth-held-schema (Schema.Fixed n) (suc d) h = omega arith
  depth-held-schema (Schema.Decimal p c n) zero h = absurd h
  depth-held-schema (Schema.Decimal p c n) (suc d) h = omega arith
  depth-held-schema (Schema.Uuid f) zero h = absurd h
  depth-held-schema (Schema.Uuid f) (suc d) h = omega arith
  depth-held-schema (Schema.Duration n) zero h = absurd h
  depth-held-schema (Schema.Duration n) (suc d) h = omega arith
  depth-held-schema (Schema.Enum ss t) zero h = absurd h
  depth-held-schema (Schema.Enum ss t) (suc d) h = omega arith
  depth-held-schema (Schema.Array s) zero h = absurd h
  depth-held-schema (Schema.Array s) (suc d) h = suc-le-suc (depth-held-schema s d h)
  depth-held-schema (Schema.Map s) zero h = absurd h
  depth-held-schema (Schema.Map s) (suc d) h = suc-le-suc (depth-held-schema s d h)
  depth-held-schema (Schema.Record fs) zero h = absurd h
  depth-held-schema (Schema.Record fs) (suc d) h = suc-le-suc (depth-fields fs d h.1)
  depth-held-schema (Schema.Union vs ks ns) zero h = absurd h
  depth-held-schema (Schema.Union vs ks ns) (suc d) h = suc-le-suc (depth-variants vs d h.1)

  depth-fields : (fs : Fields) (d : ℕ) → HeldFields fs d → fields_depth fs ≤ d
  depth-fields no_fields d h = omega arith
  depth-fields (field n v s fs) d h = max-le (depth-held-schema s d h.2) (depth-fields fs d h.3)

  depth-variants : (vs : Variants) (d : ℕ) → HeldVariants vs d → variants_depth vs ≤ d
  depth-variants no_variants d h = omega arith
  depth-variants (variant s vs) d h = max-le (depth-held-schema s d h.0) (depth-variants vs d h.1)

mutual
  unfolding schema_depth

  pub held-schema-depth : (s : Schema) (e d : ℕ) → HeldSchema s e → schema_depth s ≤ d → HeldSchema s d
  held-schema-depth (Schema.Plain k) zero d h l = absurd h
  held-schema-depth (Schema.Plain k) (suc e) zero h l = no-depth 0 l
  held-schema-depth (Schema.Plain k) (suc e) (suc d) h l = h
  held-schema-depth (Schema.Fixed n) zero d h l = absurd h
  held-schema-depth (Schema.Fixed n) (suc e) zero h l = no-depth 0 l
  held-schema-depth (Schema.Fixed n) (suc e) (suc d) h l = h
  held-schema-depth (Schema.Decimal p c n) zero d h l = absurd h
  held-schema-depth (Schema.Decimal p c n) (suc e) zero h l = no-depth 0 l
  held-schema-depth (Schema.Decimal p c n) (suc e) (suc d) h l = h
  held-schema-depth (Schema.Uuid f) zero d h l = absurd h
  held-schema-depth (Schema.Uuid f) (suc e) zero h l = no-depth 0 l
  held-schema-depth (Schema.Uuid f) (suc e) (suc d) h l = h
  held-schema-depth (Schema.Duration n) zero d h l = absurd h
  held-schema-depth (Schema.Duration n) (suc e) zero h l = no-depth 0 l
  held-schema-depth (Schema.Duration n) (suc e) (suc d) h l = h
  held-schema-depth (Schema.Enum ss t) zero d h l = absurd h
  held-schema-depth (Schema.Enum ss t) (suc e) zero h l = no-depth 0 l
  held-schema-depth (Schema.Enum ss t) (suc e) (suc d) h l = h
  held-schema-depth (Schema.Array s) zero d h l = absurd h
  held-schema-depth (Schema.Array s) (suc e) zero h l = no-depth (schema_depth s) l
  held-schema-depth (Schema.Array s) (suc e) (suc d) h l = held-schema-depth s e d h (le_of_suc-le-suc l)
  held-schema-depth (Schema.Map s) zero d h l = absurd h
  held-schema-depth (Schema.Map s) (suc e) zero h l = no-depth (schema_depth s) l
  held-schema-depth (Schema.Map s) (suc e) (suc d) h l = held-schema-depth s e d h (le_of_suc-le-suc l)
  held-schema-depth (Schema.Record fs) zero d h l = absurd h
  held-schema-depth (Schema.Record fs) (suc e) zero h l = no-depth (fields_depth fs) l
  held-schema-depth (Schema.Record fs) (suc e) (suc d) h l = (h.0, fields-depth fs e d h.1 (le_of_suc-le-suc l))
  held-schema-depth (Schema.Union vs ks ns) zero d h l = absurd h
  held-schema-depth (Schema.Union vs ks ns) (suc e) zero h l = no-depth (variants_depth vs) l
  held-schema-depth (Schema.Union vs ks ns) (suc e) (suc d) h l = (h.0, variants-depth vs e d h.1 (le_of_suc-le-suc l))

  fields-depth : (fs : Fields) (e d : ℕ) → HeldFields fs e → fields_depth fs ≤ d → HeldFields fs d
  fields-depth no_fields e d h l = tt
  fields-depth (field n v s fs) e d h l =
      (h.0, h.1, held-schema-depth s e d h.2 (le_trans (le-max_left (schema_depth s) (fields_depth fs)) l), fields-depth fs e d h.3 (le_trans (le-max_right (schema_depth s) (fields_depth fs)) l))

  variants-depth : (vs : Variants) (e d : ℕ) → HeldVariants vs e → variants_depth vs ≤ d → HeldVariants vs d
  variants-depth no_variants e d h l = tt
  variants-depth (variant s vs) e d h l =
      (held-schema-depth s e d h.0 (le_trans (le-max_left (schema_depth s) (variants_depth vs)) l), variants-depth vs e d h.1 (le_trans (le-max_right (schema_depth s) (variants_depth vs)) l))
