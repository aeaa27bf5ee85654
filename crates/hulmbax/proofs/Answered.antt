-- docs/RULES.md, "What stops a record, in checking order", a sentence for each way: the entry's answer is the one that they give, and no other.
use Prim.Native.Nat.{ℕ, ◌≤◌, ◌<◌}
use mathlib.Core.Path.{◌≡◌, refl, sym, ap, ◌∙◌}
use mathlib.Core.List.{List}
use mathlib.Core.Logic.{◌⊎◌, inl, inr, ◌↔◌}
use mathlib.Core.Option.{Option, none, some}
use mathlib.Core.Bool.{Bool, true, false, ◌||◌, not}
use native.Mathlib.Omega.{arith}
use lib.Dec.{T, ltb, ltb→lt, nltb→le, lt→ltb}
use lib.Arith.{le→nltb}
use lib.ListN.{length}
use lib.Ieee.Bits.{is_true, is_false}
use Rattle.base.specs.Base.{when◌then◌else◌, Result, ok, stop, after}
use Rattle.frame.specs.Tree.{Value, Schema}
use Rattle.frame.specs.ValueFrame.{decode_value, encode_value}
use Rattle.frame.specs.SchemaFrame.{decode_schema}
use Rattle.frame.specs.Sound.{keys_rise, schema_sound}
use Rattle.types.specs.Types.{Outcome}
use Rattle.avro.specs.Resolve.{resolve}
use Rattle.avro.specs.Defaults.{defaults_short}
use Rattle.avro.proofs.LongDefaults.{LongDefault, long-told, long-only}
use Rattle.avro.proofs.Refusals.{refusal-resolve}
use Rattle.frame.specs.Sound.{checked_value}
use Rattle.buffer.specs.After.{checked_result}
use Rattle.hulmbax.specs.Answer.{answer, answer_for, record_answer, checked_schema, workspace_size}

-- ---- the sentences

-- neither 1, 2, 3 nor 4 stops the record
pub record SchemaPasses (schema : List ℕ) (workspace : ℕ) (s : Schema) : Type 0 where
  pub room : 65536 ≤ workspace
  pub frame : decode_schema schema ≡ some s
  pub sound : T (schema_sound s)
  pub short : LongDefault s → ⊥

-- nor does 5
pub record ValuePasses (value : List ℕ) (v : Value) : Type 0 where
  pub frame : decode_value value ≡ some v
  pub keys : T (keys_rise v)

pub data Answered (schema value : List ℕ) (buffer workspace : ℕ) : Result (List ℕ) → Type 0 where
  -- 1: the workspace is shorter than 65,536 bytes
  short-workspace : workspace < 65536 → Answered schema value buffer workspace (stop 1)
  -- 2: the schema is no frame
  no-schema : 65536 ≤ workspace → decode_schema schema ≡ none → Answered schema value buffer workspace (stop 2)
  -- 3: it is a frame, and unsound
  unsound-schema : (s : Schema) → 65536 ≤ workspace → decode_schema schema ≡ some s → T (not (schema_sound s)) → Answered schema value buffer workspace (stop 3)
  -- 4: it is sound, and some default becomes longer than 4,096 bytes
  long-default : (s : Schema) → 65536 ≤ workspace → decode_schema schema ≡ some s → T (schema_sound s) → LongDefault s → Answered schema value buffer workspace (stop 4)
  -- 5: the value is no frame, or its map keys don't rise
  no_value : (s : Schema) → SchemaPasses schema workspace s → decode_value value ≡ none → Answered schema value buffer workspace (stop 5)
  fallen-keys : (s : Schema) → SchemaPasses schema workspace s → (v : Value) → decode_value value ≡ some v → T (not (keys_rise v)) → Answered schema value buffer workspace (stop 5)
  -- 6 to 17, and 28: resolution refuses
  refused : (s : Schema) → SchemaPasses schema workspace s → (v : Value) → ValuePasses value v → (n : ℕ) → resolve s v ≡ stop n → ((6 ≤ n) × (n ≤ 17)) ⊎ (n ≡ 28)
      → Answered schema value buffer workspace (stop n)
  -- 18: the accepted result exceeds 65,535 bytes or the buffer
  too_long : (s : Schema) → SchemaPasses schema workspace s → (v : Value) → ValuePasses value v → (r : Value) → resolve s v ≡ ok r
      → (65535 < length (encode_value r)) ⊎ (buffer < length (encode_value r)) → Answered schema value buffer workspace (stop 18)
  -- nothing stops the record
  accepted : (s : Schema) → SchemaPasses schema workspace s → (v : Value) → ValuePasses value v → (r : Value) → resolve s v ≡ ok r
      → length (encode_value r) ≤ 65535 → length (encode_value r) ≤ buffer → Answered schema value buffer workspace (ok (encode_value r))

-- ---- the entry's answer is one of these

module _ (schema value : List ℕ) (buffer workspace : ℕ) where
  abbrev Way : Result (List ℕ) → Type 0
  Way x = Answered schema value buffer workspace x

  by_size : (s : Schema) → SchemaPasses schema workspace s → (v : Value) → ValuePasses value v → (r : Value) → resolve s v ≡ ok r → Way (checked_result buffer (encode_value r))
  unfolding checked_result
  by_size s p v w r e = go (ltb 65535 (length (encode_value r))) (ltb buffer (length (encode_value r))) refl refl
    where
      go : (a b : Bool) → ltb 65535 (length (encode_value r)) ≡ a → ltb buffer (length (encode_value r)) ≡ b → Way (when a || b then stop 18 else ok (encode_value r))
      go true b h k = too_long s p v w r e (inl (ltb→lt 65535 (length (encode_value r)) (rw h tt)))
      go false true h k = too_long s p v w r e (inr (ltb→lt buffer (length (encode_value r)) (rw k tt)))
      go false false h k = accepted s p v w r e (nltb→le 65535 (length (encode_value r)) (rw h tt)) (nltb→le buffer (length (encode_value r)) (rw k tt))

  by-outcome : (s : Schema) → SchemaPasses schema workspace s → (v : Value) → ValuePasses value v → (o : Outcome) → resolve s v ≡ o
      → Way (after o (λ r. checked_result buffer (encode_value r)))
  unfolding after
  by-outcome s p v w (ok r) e = by_size s p v w r e
  by-outcome s p v w (stop n) e = refused s p v w n e (refusal-resolve s v n e)

  by_value : (s : Schema) → SchemaPasses schema workspace s → (o : Option Value) → decode_value value ≡ o
      → Way (after (checked_value o) (λ v. after (resolve s v) (λ r. checked_result buffer (encode_value r))))
  unfolding checked_value after
  by_value s p none e = no_value s p e
  by_value s p (some v) e = go (keys_rise v) refl
    where
      go : (b : Bool) → keys_rise v ≡ b → Way (after (when b then ok v else stop 5) (λ v. after (resolve s v) (λ r. checked_result buffer (encode_value r))))
      go true h = by-outcome s p v (record { frame = e; keys = rw h tt }) (resolve s v) refl
      go false h = fallen-keys s p v e (rw h tt)

  by-record : (s : Schema) → SchemaPasses schema workspace s → Way (record_answer s value buffer)
  unfolding record_answer
  by-record s p = by_value s p (decode_value value) refl

  by-schema : 65536 ≤ workspace → (o : Option Schema) → decode_schema schema ≡ o
      → Way (after (checked_schema o) (λ s. record_answer s value buffer))
  unfolding checked_schema after
  by-schema room none e = no-schema room e
  by-schema room (some s) e = go (schema_sound s) (defaults_short s) refl refl
    where
      short : defaults_short s ≡ true → LongDefault s → ⊥
      short h l =
          let q : true ≡ false = sym h ∙ long-told l in
          let z : ◌≡◌ {A = ℕ} 0 1 = cc in
          omega arith

      go : (a b : Bool) → schema_sound s ≡ a → defaults_short s ≡ b
          → Way (after (when a then (when b then ok s else stop 4) else stop 3) (λ s. record_answer s value buffer))
      go true true h k = by-record s (record { room = room; frame = e; sound = rw h tt; short = short k })
      go true false h k = long-default s room e (rw h tt) (long-only s (rw h tt) k)
      go false b h k = unsound-schema s room e (rw h tt)

  pub answered : Answered schema value buffer workspace (answer schema value buffer workspace)
  unfolding answer
  answered = go (ltb workspace workspace_size) refl
    where
      go : (b : Bool) → ltb workspace workspace_size ≡ b → Way (when b then stop 1 else answer_for schema value buffer)
      go true h = short-workspace (ltb→lt workspace workspace_size (rw h tt))
      go false h = by-schema (nltb→le workspace workspace_size (rw h tt)) (decode_schema schema) refl

-- ---- and each of these is the entry's answer

short-true : (s : Schema) → T (schema_sound s) → (LongDefault s → ⊥) → defaults_short s ≡ true
short-true s h f = go (defaults_short s) refl
  where
    go : (b : Bool) → defaults_short s ≡ b → b ≡ true
    go true e = refl
    go false e = absurd (f (long-only s h e))

room-false : {workspace : ℕ} → 65536 ≤ workspace → ltb workspace workspace_size ≡ false
room-false {workspace} h = is_false (ltb workspace workspace_size) (le→nltb workspace workspace_size h)

either_true : (a b : Bool) → T a ⊎ T b → (a || b) ≡ true
either_true true b h = refl
either_true false true h = refl
either_true false false (inl h) = absurd h
either_true false false (inr h) = absurd h

exceeds : (buffer n : ℕ) → (65535 < n) ⊎ (buffer < n) → (ltb 65535 n || ltb buffer n) ≡ true
exceeds buffer n (inl h) = either_true (ltb 65535 n) (ltb buffer n) (inl (lt→ltb 65535 n h))
exceeds buffer n (inr h) = either_true (ltb 65535 n) (ltb buffer n) (inr (lt→ltb buffer n h))

passes : {schema : List ℕ} {workspace : ℕ} {s : Schema} → SchemaPasses schema workspace s → checked_schema (decode_schema schema) ≡ ok s
unfolding checked_schema
passes {s = s} p = rw (p.frame, is_true (schema_sound s) p.sound, short-true s p.sound p.short)

value_passes : {value : List ℕ} {v : Value} → ValuePasses value v → checked_value (decode_value value) ≡ ok v
unfolding checked_value
value_passes {v = v} w = rw (w.frame, is_true (keys_rise v) w.keys)

module _ {schema value : List ℕ} {buffer workspace : ℕ} where
  pub answer-only : {x : Result (List ℕ)} → Answered schema value buffer workspace x → answer schema value buffer workspace ≡ x
  unfolding answer record_answer checked_schema checked_value checked_result after
  answer-only (short-workspace h) = rw (is_true (ltb workspace workspace_size) (lt→ltb workspace workspace_size h))
  answer-only (no-schema room e) = rw (room-false room, e)
  answer-only (unsound-schema s room e h) = rw (room-false room, e, is_false (schema_sound s) h)
  answer-only (long-default s room e h l) = rw (room-false room, e, is_true (schema_sound s) h, long-told l)
  answer-only (no_value s p e) = rw (room-false p.room, passes p, e)
  answer-only (fallen-keys s p v e h) = rw (room-false p.room, passes p, e, is_false (keys_rise v) h)
  answer-only (refused s p v w n e h) = rw (room-false p.room, passes p, value_passes w, e)
  answer-only (too_long s p v w r e h) = rw (room-false p.room, passes p, value_passes w, e, exceeds buffer (length (encode_value r)) h)
  answer-only (accepted s p v w r e h k) =
      rw (
        room-false p.room,
        passes p,
        value_passes w,
        e,
        is_false (ltb 65535 (length (encode_value r))) (le→nltb 65535 (length (encode_value r)) h),
        is_false (ltb buffer (length (encode_value r))) (le→nltb buffer (length (encode_value r)) k),
      )

-- ---- a number other than 18 is what resolution gives

resolution-stops : (o : Outcome) (buffer n : ℕ) → (n ≡ 18 → ⊥) → after o (λ r. checked_result buffer (encode_value r)) ≡ stop n → o ≡ stop n
unfolding after checked_result
resolution-stops (stop m) buffer n h e = let i : m ≡ n = cc in ap stop i
resolution-stops (ok r) buffer n h e = go (ltb 65535 (length (encode_value r)) || ltb buffer (length (encode_value r))) e
  where
    go : (b : Bool) → (when b then stop 18 else ok (encode_value r)) ≡ stop n → ok r ≡ stop n
    go true q = let z : n ≡ 18 = cc in absurd (h z)
    go false q = let z : ◌≡◌ {A = ℕ} 0 1 = cc in absurd (omega arith)

module _ {schema value : List ℕ} {workspace : ℕ} {s : Schema} {v : Value} (p : SchemaPasses schema workspace s) (w : ValuePasses value v) (buffer : ℕ) where
  record_is : answer schema value buffer workspace ≡ after (resolve s v) (λ r. checked_result buffer (encode_value r))
  unfolding answer record_answer after
  record_is = rw (room-false p.room, passes p, value_passes w)

  pub resolution-number : (n : ℕ) → (n ≡ 18 → ⊥) → (answer schema value buffer workspace ≡ stop n) ↔ (resolve s v ≡ stop n)
  unfolding after
  resolution-number n h = (λ e. resolution-stops (resolve s v) buffer n h (sym record_is ∙ e), λ e. record_is ∙ ap (λ o. after o (λ r. checked_result buffer (encode_value r))) e)
