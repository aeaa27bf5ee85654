-- What one record gets under a schema that passed, at each way of the code.
use Prim.Native.Nat.{ℕ, ◌≤◌, ◌<◌}
use mathlib.Core.Path.{◌≡◌, refl, sym, ap, ◌∙◌, subst}
use mathlib.Core.List.{List, ◌++◌}
use mathlib.Core.Option.{Option, none, some}
use mathlib.Core.Bool.{Bool, true, false}
use native.Mathlib.Omega.{arith}
use lib.Dec.{T}
use lib.ListN.{length, take, drop}
use lib.Seq.{length-take-le}
use Rattle.std.specs.Prelude.{Ok, Err}
use Rattle.base.specs.Refusal.{number_of}
use Rattle.base.specs.declared.refusal.Refusal.{Refusal}
use Rattle.base.specs.Base.{when◌then◌else◌, Result, ok, stop, after}
use Rattle.text.specs.Measured.{Reads}
use Rattle.frame.specs.Tree.{Value, Schema}
use Rattle.frame.specs.ValueFrame.{read_value, decode_value, encode_value}
use Rattle.frame.specs.SchemaFrame.{read_schema, decode_schema}
use Rattle.buffer.specs.Built.{Built, Wrote}
use Rattle.types.specs.Contract.{encoded, on_both}
use Rattle.avro.specs.Resolve.{resolve}
use Rattle.avro.specs.Defaults.{defaults_short}
use Rattle.walk.specs.Contract.{Node, node_bytes}
use Rattle.frame.specs.Sound.{schema_sound, checked_value}
use Rattle.buffer.specs.After.{buffer_after, checked_result}
use Rattle.hulmbax.specs.Answer.{record_answer, checked_schema}
use Rattle.hulmbax.specs.Entry.{PassedSchema, PassedValue, resolved_of, stop_of}
use Rattle.frame.proofs.Passed.{whole-reads, passed_reads}
use Rattle.buffer.proofs.AfterLaws.{checked_result-over, checked_result-short, checked_result-fits}
use Rattle.hulmbax.proofs.CheckLaws.{number-never-0, stops}

-- ---- what passed

-- the tree of a schema that passed is sound and short
record SoundShort (s : List ℕ) (t : Schema) : Type 0 where
  decoded : decode_schema s ≡ some t
  sound : T (schema_sound t)
  short : T (defaults_short t)

schema-sound-short : (s : List ℕ) (t : Schema) → checked_schema (decode_schema s) ≡ ok t → SoundShort s t
unfolding checked_schema
schema-sound-short s t e = go (decode_schema s) refl e
  where
    test : (u : Schema) (a b : Bool) → schema_sound u ≡ a → defaults_short u ≡ b → decode_schema s ≡ some u → (when a then (when b then ok u else stop 4) else stop 3) ≡ ok t → SoundShort s t
    test u true true p q d e =
        let f : u ≡ t = cc in
        record { decoded = d ∙ ap (λ (x : Schema). some x) f; sound = subst (λ (x : Schema). T (schema_sound x)) f (rw p tt); short = subst (λ (x : Schema). T (defaults_short x)) f (rw q tt) }
    test u true false p q d e = let z : ◌≡◌ {A = ℕ} 0 1 = cc in absurd (omega arith)
    test u false b p q d e = let z : ◌≡◌ {A = ℕ} 0 1 = cc in absurd (omega arith)

    go : (o : Option Schema) → decode_schema s ≡ o → checked_schema o ≡ ok t → SoundShort s t
    go none q e = let z : ◌≡◌ {A = ℕ} 0 1 = cc in absurd (omega arith)
    go (some u) q e = test u (schema_sound u) (defaults_short u) refl refl q e

module _ (s v : List ℕ) (p : PassedSchema s) (q : PassedValue v) where
  schema-reads : (r : List ℕ) × (read_schema 16 s ≡ some (p.tree, r))
  unfolding decode_schema
  schema-reads = whole-reads (read_schema 16) s p.tree (schema-sound-short s p.tree p.passed).decoded

  value-reads : (r : List ℕ) × (read_value 16 v ≡ some (q.tree, r))
  value-reads = passed_reads v q.tree q.passed

  pub passed-ready : Node (record { schema = 16; value = 16 }) s v
  unfolding Reads
  passed-ready =
      let k : SoundShort s p.tree = schema-sound-short s p.tree p.passed in
      record {
        schema = record { tree = p.tree; rest = schema-reads.0; reads = schema-reads.1; sound = k.sound; short = k.short };
        value = (q.tree, (value-reads.0, value-reads.1));
      }

  outcome-is : on_both node_bytes (read_schema 16 s) (read_value 16 v) ≡ encoded (resolve p.tree q.tree)
  unfolding on_both node_bytes
  outcome-is = rw (schema-reads.1, value-reads.1)

-- ---- the answer

-- two facts of each p
pub both : {P : Type 0} {A B : P → Type 0} → ((p : P) → A p × B p) → ((p : P) → A p) × ((p : P) → B p)
both f = (λ p. (f p).0, λ p. (f p).1)

-- a record that its check stops
pub record-stopped : (t : Schema) (v o : List ℕ) (e : Refusal) → number_of e ≡ stop_of (checked_value (decode_value v))
    → (stop (number_of e) ≡ resolved_of (record_answer t v (length o))) × (o ≡ buffer_after (record_answer t v (length o)) o)
unfolding resolved_of buffer_after record_answer after
record-stopped t v o e f = rw (stops (checked_value (decode_value v)) (number_of e) f (number-never-0 e)) (refl, refl)

-- a record that passed, by what resolution wrote and answered, under any tree that its schema passed with
module _ (s v : List ℕ) (q : PassedValue v) (len : ℕ) (p : PassedSchema s) where
  record_answer-is : record_answer p.tree v len ≡ after (resolve p.tree q.tree) (λ x. checked_result len (encode_value x))
  unfolding record_answer after
  record_answer-is = rw q.passed

  pub record-refused : (o : List ℕ) (e : Refusal) → Wrote (on_both node_bytes (read_schema 16 s) (read_value 16 v)) o (Err e) → record_answer p.tree v len ≡ stop (number_of e)
  unfolding Wrote encoded after
  record-refused o e w = record_answer-is ∙ go (resolve p.tree q.tree) (rw (outcome-is s v p q) at w)
    where
      go : (x : Result Value) → Wrote (encoded x) o (Err e) → after x (λ y. checked_result len (encode_value y)) ≡ stop (number_of e)
      go (ok y) w = absurd w
      go (stop k) w = ap (λ (j : ℕ). stop j) (sym w)

  module _ (o : List ℕ) (n : ℕ) (w : Wrote (on_both node_bytes (read_schema 16 s) (read_value 16 v)) o (Ok n)) where
    made : (x : Value) × (record_answer p.tree v len ≡ checked_result len (encode_value x)) × Built (encode_value x) o n
    unfolding Wrote encoded after
    made = go (resolve p.tree q.tree) record_answer-is (rw (outcome-is s v p q) at w)
      where
        go : (x : Result Value) → record_answer p.tree v len ≡ after x (λ y. checked_result len (encode_value y)) → Wrote (encoded x) o (Ok n)
            → (x : Value) × (record_answer p.tree v len ≡ checked_result len (encode_value x)) × Built (encode_value x) o n
        go (ok y) q w = (y, q, w)
        go (stop k) q w = absurd w

    pub record-over : 65535 < n → record_answer p.tree v len ≡ stop 18
    unfolding Built
    record-over h = made.1 ∙ checked_result-over len (encode_value made.0) (omega (arith, made.2.0))

    pub record-short : n ≤ 65535 → len < n → record_answer p.tree v len ≡ stop 18
    unfolding Built
    record-short h k = made.1 ∙ checked_result-short len (encode_value made.0) (omega (arith, made.2.0)) (omega (arith, made.2.0))

    record-fits : n ≤ 65535 → n ≤ len → length o ≡ 65536 → (record_answer p.tree v len ≡ ok (take n o)) × (length (take n o) ≡ n)
    unfolding Built
    record-fits h k l =
        let b = encode_value made.0 in
        let e : length b ≡ n = omega (arith, made.2.0) in
        let t : take n o ≡ b = ap (λ (j : ℕ). take j o) (sym e) ∙ made.2.1 (omega arith) (omega arith) in
        (made.1 ∙ checked_result-fits len b (omega arith) (omega arith) ∙ ap (λ (x : List ℕ). ok x) (sym t), length-take-le n o (omega arith))

-- a refusal, and the result buffer as it was
pub refused-is : (x : Result (List ℕ)) (o : List ℕ) (n : ℕ) → x ≡ stop n → (stop n ≡ resolved_of x) × (o ≡ buffer_after x o)
unfolding resolved_of buffer_after
refused-is x o n e = rw e (refl, refl)

-- an accepted result that fits is copied into the result buffer
pub handed : (s v : List ℕ) (q : PassedValue v) (o o' w : List ℕ) (n : ℕ) → Wrote (on_both node_bytes (read_schema 16 s) (read_value 16 v)) w (Ok n) → n ≤ 65535 → n ≤ length o
    → length w ≡ 65536 → o' ≡ take n w ++ drop (length (take n w)) o → (p : PassedSchema s)
    → (ok n ≡ resolved_of (record_answer p.tree v (length o))) × (o' ≡ buffer_after (record_answer p.tree v (length o)) o)
unfolding resolved_of buffer_after
handed s v q o o' w n a h k l e p =
    let f : (record_answer p.tree v (length o) ≡ ok (take n w)) × (length (take n w) ≡ n) = record-fits s v q (length o) p w n a h k l in
    rw f.0 (ap (λ (j : ℕ). ok j) (sym f.1), e)
