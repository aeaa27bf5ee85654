-- The entry's answer to a Map under a Map schema is the number of its first failing entry in key order: of the record itself, and of a missing field's default.
use Prim.Native.Nat.{ℕ}
use mathlib.Core.Path.{◌≡◌, refl, sym, ap, ◌∙◌, subst}
use mathlib.Core.List.{List, [], ◌∷◌}
use mathlib.Core.Logic.{◌↔◌}
use mathlib.Core.Option.{some}
use native.Mathlib.Omega.{arith}
use lib.Dec.{T}
use Rattle.base.specs.Base.{ok, stop}
use Rattle.text.specs.Text.{Text}
use Rattle.frame.specs.Kind
use Rattle.frame.specs.Tree.{Value, Entries, Schema, Fields, no_fields, field, peel, schema_kind}
use Rattle.frame.specs.Sound.{keys_rise}
use Rattle.frame.specs.Faults.{itself, first_field}
use Rattle.frame.proofs.Inside.{peel-keys}
use Rattle.types.specs.Types.{Outcome}
use Rattle.avro.specs.Resolve.{resolve_record, resolve, resolve_fields}
use Rattle.avro.specs.FirstFailing.{FirstFailing, FirstGives, own}
use Rattle.avro.proofs.WalkSentences.{FirstRefusal, Absent, field_outcome, field_outcomes, record-refused, record-first, default-taken}
use Rattle.avro.proofs.MapNumbers.{value-maps, default-maps}
use Rattle.hulmbax.specs.Answer.{answer}
use Rattle.hulmbax.proofs.Answered.{SchemaPasses, ValuePasses, resolution-number}

pub map-answer : {schema value : List ℕ} {workspace : ℕ} {s : Schema} {v : Value} {es : Entries}
    → SchemaPasses schema workspace (Schema.Map s) → ValuePasses value v → peel v ≡ Value.Map es
    → (buffer n : ℕ) → (n ≡ 18 → ⊥) → (answer schema value buffer workspace ≡ stop n) ↔ FirstFailing (λ w. resolve s w) es n
unfolding FirstGives
map-answer {s = s} {v = v} {es = es} p w q buffer n h =
    let a = resolution-number p w buffer n h in
    let g = value-maps (Value.Map es) (subst (λ (x : Value). T (keys_rise x)) q (peel-keys v w.keys)) es itself s v q n in
    (λ e. g.0 (a.0 e), λ f. a.1 (g.1 f))

-- ---- the default of a missing field

refused-alone : (x : Outcome) (n : ℕ) → FirstRefusal n (x ∷ []) ↔ (x ≡ stop n)
unfolding FirstRefusal
refused-alone (ok r) n = (λ h. absurd h, λ e. let z : ◌≡◌ {A = ℕ} 0 1 = cc in absurd (omega arith))
refused-alone (stop m) n = (λ h. ap stop h, λ e. cc)

-- the field k, a Map, with a Map as its default
abbrev map_field : Text → Entries → Schema → Fields
map_field k es s = field k (some (Value.Map es)) (Schema.Map s) no_fields

pub default-answer : {schema value : List ℕ} {workspace : ℕ} {k : Text} {s : Schema} {v : Value} {es fs : Entries}
    → SchemaPasses schema workspace (Schema.Record (map_field k es s)) → ValuePasses value v → peel v ≡ Value.Record fs → Absent k fs
    → (buffer n : ℕ) → (n ≡ 18 → ⊥) → (answer schema value buffer workspace ≡ stop n) ↔ FirstFailing (λ w. resolve s w) es n
unfolding FirstGives resolve peel field_outcomes schema_kind
default-answer {k = k} {s = s} {v = v} {es = es} {fs = fs} p w q a buffer n h =
    let r = resolution-number p w buffer n h in
    let t : resolve (Schema.Record (map_field k es s)) v ≡ resolve (Schema.Record (map_field k es s)) (Value.Record fs) = ap (resolve_record (λ gs. resolve_fields (map_field k es s) gs)) q in
    let o = refused-alone (field_outcome k (some (Value.Map es)) (Schema.Map s) fs) n in
    let d : field_outcome k (some (Value.Map es)) (Schema.Map s) fs ≡ resolve (Schema.Map s) (Value.Map es) = default-taken k (Schema.Map s) fs (Value.Map es) a no_union in
    let g = default-maps (Schema.Record (map_field k es s)) p.sound (Value.Map es) (own first_field) es itself s (Value.Map es) refl n in
    (λ e. g.0 (sym d ∙ o.0 (record-first (map_field k es s) fs n (sym t ∙ r.0 e))), λ f. r.1 (t ∙ (record-refused (map_field k es s) fs n (o.1 (d ∙ g.1 f))).0))
  where
    no_union : Kind.Map ≡ Kind.Union → ⊥
    no_union e = omega arith
