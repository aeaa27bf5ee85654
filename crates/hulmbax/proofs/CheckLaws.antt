-- The checks of both frames: the numbers at each way of the code, and what is known of frames that passed.
use Prim.Native.Nat.{ℕ}
use mathlib.Core.Path.{◌≡◌, refl, sym, ap, ◌∙◌}
use mathlib.Core.List.{List}
use mathlib.Core.Option.{Option, none, some}
use mathlib.Core.Bool.{Bool, true, false}
use native.Mathlib.Omega.{arith}
use lib.Dec.{T}
use lib.Ieee.Bits.{is_true}
use Rattle.base.specs.Base.{when◌then◌else◌, Result, ok, stop}
use Rattle.frame.specs.Tree.{Value, Schema}
use Rattle.frame.specs.ValueFrame.{decode_value}
use Rattle.frame.specs.SchemaFrame.{read_schema, decode_schema}
use Rattle.frame.specs.Checks.{verdict, value_verdict, schema_verdict}
use Rattle.frame.specs.declared.Verdict.TheVariants.{NoFrame, Unsound, Sound}
use Rattle.avro.specs.Defaults.{defaults_short}
use Rattle.defaults.specs.Shortness.{SoundRead, test_read}
use Rattle.frame.specs.Sound.{keys_rise, schema_sound, checked_value}
use Rattle.frame.proofs.Passed.{whole-reads}
use Rattle.hulmbax.specs.Answer.{checked_schema}
use Rattle.base.specs.Refusal.{number_of}
use Rattle.base.specs.declared.refusal.Refusal.{Refusal}
use Rattle.base.proofs.Refusals.{number-positive}
use Rattle.hulmbax.specs.Entry.{PassedSchema, PassedValue, stop_of}

-- ---- the checks

-- the schema's checks by its verdict
pub stop-no-schema : (s : List ℕ) → NoFrame ≡ schema_verdict s → 2 ≡ stop_of (checked_schema (decode_schema s))
unfolding schema_verdict verdict checked_schema stop_of
stop-no-schema s e = go (decode_schema s) e
  where
    test : (b : Bool) → NoFrame ≡ (when b then Sound else Unsound) → ⊥
    test true e = let z : ◌≡◌ {A = ℕ} 0 1 = cc in omega arith
    test false e = let z : ◌≡◌ {A = ℕ} 0 1 = cc in omega arith

    go : (o : Option Schema) → NoFrame ≡ verdict schema_sound o → 2 ≡ stop_of (checked_schema o)
    go none e = refl
    go (some t) e = absurd (test (schema_sound t) e)

pub stop-unsound : (s : List ℕ) → Unsound ≡ schema_verdict s → 3 ≡ stop_of (checked_schema (decode_schema s))
unfolding schema_verdict verdict checked_schema stop_of
stop-unsound s e = go (decode_schema s) e
  where
    test : (t : Schema) (b : Bool) → Unsound ≡ (when b then Sound else Unsound) → 3 ≡ stop_of (when b then (when defaults_short t then ok t else stop 4) else stop 3)
    test t true e = let z : ◌≡◌ {A = ℕ} 0 1 = cc in absurd (omega arith)
    test t false e = refl

    go : (o : Option Schema) → Unsound ≡ verdict schema_sound o → 3 ≡ stop_of (checked_schema o)
    go none e = let z : ◌≡◌ {A = ℕ} 0 1 = cc in absurd (omega arith)
    go (some t) e = test t (schema_sound t) e

-- a sound schema frame, as a tree
pub record SoundFrame (s : List ℕ) : Type 0 where
  pub tree : Schema
  pub decoded : decode_schema s ≡ some tree
  pub sound : T (schema_sound tree)

pub sound-frame : (s : List ℕ) → Sound ≡ schema_verdict s → SoundFrame s
unfolding schema_verdict verdict
sound-frame s e = go (decode_schema s) refl e
  where
    test : (t : Schema) (b : Bool) → schema_sound t ≡ b → decode_schema s ≡ some t → Sound ≡ (when b then Sound else Unsound) → SoundFrame s
    test t true q d e = record { tree = t; decoded = d; sound = rw q tt }
    test t false q d e = let z : ◌≡◌ {A = ℕ} 0 1 = cc in absurd (omega arith)

    go : (o : Option Schema) → decode_schema s ≡ o → Sound ≡ verdict schema_sound o → SoundFrame s
    go none q e = let z : ◌≡◌ {A = ℕ} 0 1 = cc in absurd (omega arith)
    go (some t) q e = test t (schema_sound t) refl q e

pub sound-reads : (s : List ℕ) → SoundFrame s → SoundRead schema_sound (read_schema 16 s)
unfolding decode_schema
sound-reads s f =
    let r : (r : List ℕ) × (read_schema 16 s ≡ some (f.tree, r)) = whole-reads (read_schema 16) s f.tree f.decoded in
    record { tree = f.tree; rest = r.0; reads = r.1; sound = f.sound }

-- and the number by its defaults
pub stop-by-defaults : (s : List ℕ) (b : Bool) → SoundFrame s → b ≡ test_read defaults_short (read_schema 16 s) → stop_of (checked_schema (decode_schema s)) ≡ (when b then 0 else 4)
unfolding decode_schema test_read checked_schema stop_of
stop-by-defaults s b f e =
    let r : (r : List ℕ) × (read_schema 16 s ≡ some (f.tree, r)) = whole-reads (read_schema 16) s f.tree f.decoded in
    let d : b ≡ defaults_short f.tree = e ∙ ap (test_read defaults_short) r.1 in
    ap (λ (o : Option Schema). stop_of (checked_schema o)) f.decoded ∙ rw (is_true (schema_sound f.tree) f.sound) (go (defaults_short f.tree) d)
  where
    go : (c : Bool) → b ≡ c → stop_of (when c then ok f.tree else stop 4) ≡ (when b then 0 else 4)
    go true q = rw q refl
    go false q = rw q refl

-- the record's check by its verdict
pub stop-value : (v : List ℕ) → value_verdict v ≡ Sound → 0 ≡ stop_of (checked_value (decode_value v))
unfolding value_verdict verdict checked_value stop_of
stop-value v e = go (decode_value v) e
  where
    test : (w : Value) (b : Bool) → (when b then Sound else Unsound) ≡ Sound → 0 ≡ stop_of (when b then ok w else stop 5)
    test w true e = refl
    test w false e = let z : ◌≡◌ {A = ℕ} 0 1 = cc in absurd (omega arith)

    go : (o : Option Value) → verdict keys_rise o ≡ Sound → 0 ≡ stop_of (checked_value o)
    go none e = let z : ◌≡◌ {A = ℕ} 0 1 = cc in absurd (omega arith)
    go (some w) e = test w (keys_rise w) e

pub stop-unsound-value : (v : List ℕ) → value_verdict v ≡ Unsound → 5 ≡ stop_of (checked_value (decode_value v))
unfolding value_verdict verdict checked_value stop_of
stop-unsound-value v e = go (decode_value v) e
  where
    test : (w : Value) (b : Bool) → (when b then Sound else Unsound) ≡ Unsound → 5 ≡ stop_of (when b then ok w else stop 5)
    test w true e = let z : ◌≡◌ {A = ℕ} 0 1 = cc in absurd (omega arith)
    test w false e = refl

    go : (o : Option Value) → verdict keys_rise o ≡ Unsound → 5 ≡ stop_of (checked_value o)
    go none e = let z : ◌≡◌ {A = ℕ} 0 1 = cc in absurd (omega arith)
    go (some w) e = test w (keys_rise w) e

pub stop-no-value : (v : List ℕ) → value_verdict v ≡ NoFrame → 5 ≡ stop_of (checked_value (decode_value v))
unfolding value_verdict verdict checked_value stop_of
stop-no-value v e = go (decode_value v) e
  where
    test : (w : Value) (b : Bool) → (when b then Sound else Unsound) ≡ NoFrame → 5 ≡ stop_of (when b then ok w else stop 5)
    test w true e = let z : ◌≡◌ {A = ℕ} 0 1 = cc in absurd (omega arith)
    test w false e = refl

    go : (o : Option Value) → verdict keys_rise o ≡ NoFrame → 5 ≡ stop_of (checked_value o)
    go none e = refl
    go (some w) e = test w (keys_rise w) e

-- ---- what their numbers say

-- a refusal's number is not 0
pub number-never-0 : (e : Refusal) → number_of e ≡ 0 → ⊥
number-never-0 e z = omega (arith, number-positive e)

-- a check that stops with n
pub stops : {A : Type 0} (x : Result A) (n : ℕ) → n ≡ stop_of x → (n ≡ 0 → ⊥) → x ≡ stop n
unfolding stop_of
stops (ok a) n e f = absurd (f e)
stops (stop k) n e f = ap (λ (j : ℕ). stop j) (sym e)

-- no check refuses with 0
schema-never-0 : (o : Option Schema) → 0 ≡ stop_of (checked_schema o) → (t : Schema) × (checked_schema o ≡ ok t)
unfolding checked_schema stop_of
schema-never-0 none e = let z : ◌≡◌ {A = ℕ} 0 1 = cc in absurd (omega arith)
schema-never-0 (some t) e = go (schema_sound t) (defaults_short t) e
  where
    go : (a b : Bool) → 0 ≡ stop_of (when a then (when b then ok t else stop 4) else stop 3) → (u : Schema) × ((when a then (when b then ok t else stop 4) else stop 3) ≡ ok u)
    go true true e = (t, refl)
    go true false e = absurd (omega arith)
    go false b e = absurd (omega arith)

value-never-0 : (o : Option Value) → 0 ≡ stop_of (checked_value o) → (w : Value) × (checked_value o ≡ ok w)
unfolding checked_value stop_of
value-never-0 none e = absurd (omega arith)
value-never-0 (some w) e = go (keys_rise w) e
  where
    go : (a : Bool) → 0 ≡ stop_of (when a then ok w else stop 5) → (u : Value) × ((when a then ok w else stop 5) ≡ ok u)
    go true e = (w, refl)
    go false e = absurd (omega arith)

pub passed-schema : (s : List ℕ) (n : ℕ) → n ≡ stop_of (checked_schema (decode_schema s)) → n ≡ 0 → PassedSchema s
passed-schema s n e z =
    let t : (t : Schema) × (checked_schema (decode_schema s) ≡ ok t) = schema-never-0 (decode_schema s) (sym z ∙ e) in
    record { tree = t.0; passed = t.1 }

pub passed-value : (v : List ℕ) (n : ℕ) → n ≡ stop_of (checked_value (decode_value v)) → n ≡ 0 → PassedValue v
passed-value v n e z =
    let w : (w : Value) × (checked_value (decode_value v) ≡ ok w) = value-never-0 (decode_value v) (sym z ∙ e) in
    record { tree = w.0; passed = w.1 }
