-- Which number a refused Map gives (docs/RULES.md, "What stops a record, in checking order"): that of its first failing entry in key order. Nothing here knows
-- in which order the entries stand.
use Rattle.std.specs.Prelude.{ℕ, ◌≡◌, List, ◌↔◌}
use Rattle.std.proofs.Math.Option.{Option, some}
use Rattle.base.specs.Base.{ok, stop}
use Rattle.text.specs.Text.{Text}
use Rattle.text.specs.Order.{Below}
use Rattle.frame.specs.Tree.{Value, Entries, Schema, Fields, Variants, entry, peel}
use Rattle.frame.specs.Faults.{FieldOf, VariantOf}
use Rattle.types.specs.Types.{Outcome}
use Rattle.avro.specs.Resolve.{resolve}

-- the value v stands under the key k
pub data Under (k : Text) (v : Value) : Entries → Type 0 where
  this_entry : {es : Entries} → Under k v (entry k v es)
  later_entry : {n : Text} {w : Value} {es : Entries} → Under k v es → Under k v (entry n w es)

-- an entry is refused with n, and each whose key is below its own is accepted
pub record FirstFailing (f : Value → Outcome) (es : Entries) (n : ℕ) : Type 0 where
  pub at : Text
  pub value : Value
  pub stands : Under at value es
  pub fails : f value ≡ stop n
  pub lower : (k : Text) (v : Value) → Under k v es → Below k at → (r : Value) × (f v ≡ ok r)

-- under any Map schema a Map with these entries, by itself or in one Union, is refused with n exactly where its first failing entry is
unfoldable pub FirstGives : Entries → Type 0
FirstGives es = (s : Schema) (v : Value) → peel v ≡ Value.Map es → (n : ℕ) → (resolve (Schema.Map s) v ≡ stop n) ↔ FirstFailing (λ w. resolve s w) es n

-- d is the default of a field somewhere in the schema
pub data DefaultIn (d : Value) : Schema → Type 0 where
  own : {n : Text} {s : Schema} {fs : Fields} → FieldOf n (some d) s fs → DefaultIn d (Schema.Record fs)
  in_items : {s : Schema} → DefaultIn d s → DefaultIn d (Schema.Array s)
  in_values : {s : Schema} → DefaultIn d s → DefaultIn d (Schema.Map s)
  in_field : {n : Text} {e : Option Value} {s : Schema} {fs : Fields} → FieldOf n e s fs → DefaultIn d s → DefaultIn d (Schema.Record fs)
  in_variant : {s : Schema} {vs : Variants} {ks : List (ℕ × ℕ)} {ns : List ℕ} → VariantOf s vs → DefaultIn d s → DefaultIn d (Schema.Union vs ks ns)
