-- What is a frame, both ways (numbers 2 and 5): the bytes of a tree, at most 65,535 of them, at most 16 deep, with every number, length,
-- count, kind and text of the tree in range. Nothing else is one.
use Prim.Native.Nat.{ℕ, ◌≤◌}
use mathlib.Core.Path.{◌≡◌, subst}
use mathlib.Core.List.{List}
use mathlib.Core.Logic.{◌↔◌}
use mathlib.Core.Option.{some}
use native.Mathlib.Nat.{le_refl}
use lib.Dec.{T, le→leb}
use lib.ListN.{length}
use Rattle.number.specs.Number.{all_bytes}
use Rattle.frame.specs.Tree.{Value, Schema, depth, schema_depth}
use Rattle.frame.specs.ValueFrame.{decode_value, encode_value}
use Rattle.frame.specs.SchemaFrame.{decode_schema, encode_schema}
use Rattle.frame.proofs.RoundTrip.{held, decode-encode}
use Rattle.frame.proofs.ReadHeld.{HeldSchema, decode-held, schema-held}
use Rattle.frame.proofs.ReadBack.{encode-decode, length-frame}
use Rattle.frame.proofs.SchemaRoundTrip.{HeldNumbers, decode-encode-schema}
use Rattle.frame.proofs.SchemaReadBack.{encode-decode-schema, numbers-held}
use Rattle.frame.proofs.DepthHeld.{depth-held, held-depth, depth-held-schema, held-schema-depth}

pub value-frames : (s : List ℕ) (v : Value) → T (all_bytes s)
    → (decode_value s ≡ some v) ↔ ((encode_value v ≡ s) × (length s ≤ 65535) × (depth v ≤ 16) × T (held v (depth v)))
value-frames s v h = (there, back)
  where
    there : decode_value s ≡ some v → (encode_value v ≡ s) × (length s ≤ 65535) × (depth v ≤ 16) × T (held v (depth v))
    there e =
        let g : T (held v 16) = decode-held s v h e in
        (encode-decode s v h e, length-frame s v h e, depth-held v 16 g, held-depth v 16 (depth v) g (le_refl (depth v)))

    back : (encode_value v ≡ s) × (length s ≤ 65535) × (depth v ≤ 16) × T (held v (depth v)) → decode_value s ≡ some v
    back p =
        let l : length (encode_value v) ≤ 65535 = rw p.0 p.1 in
        subst (λ (x : List ℕ). decode_value x ≡ some v) p.0 (decode-encode v (held-depth v (depth v) 16 p.3 p.2) (le→leb (length (encode_value v)) 65535 l))

-- the depth of a default counts for itself: `HeldSchema` holds each one to 16
pub schema-frames : (s : List ℕ) (t : Schema) → T (all_bytes s)
    → (decode_schema s ≡ some t) ↔ ((encode_schema t ≡ s) × (length s ≤ 65535) × (schema_depth t ≤ 16) × HeldSchema t (schema_depth t) × HeldNumbers t)
schema-frames s t h = (there, back)
  where
    there : decode_schema s ≡ some t → (encode_schema t ≡ s) × (length s ≤ 65535) × (schema_depth t ≤ 16) × HeldSchema t (schema_depth t) × HeldNumbers t
    there e =
        let g : HeldSchema t 16 = schema-held s t h e in
        let b = encode-decode-schema s t h e in
        (b.0, b.1, depth-held-schema t 16 g, held-schema-depth t 16 (schema_depth t) g (le_refl (schema_depth t)), numbers-held s t h e)

    back : (encode_schema t ≡ s) × (length s ≤ 65535) × (schema_depth t ≤ 16) × HeldSchema t (schema_depth t) × HeldNumbers t → decode_schema s ≡ some t
    back p =
        let l : length (encode_schema t) ≤ 65535 = rw p.0 p.1 in
        subst (λ (x : List ℕ). decode_schema x ≡ some t) p.0
        (decode-encode-schema t (held-schema-depth t (schema_depth t) 16 p.3 p.2) p.4 (le→leb (length (encode_schema t)) 65535 l))
