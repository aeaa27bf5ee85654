-- The bounds of every answer: a result has 1 to 65,535 bytes, and a refusal is one of the rules' numbers, 1 to 18 or 28.
use Prim.Native.Nat.{ℕ, ◌≤◌}
use mathlib.Core.Path.{◌≡◌, refl, subst}
use mathlib.Core.List.{List}
use mathlib.Core.Logic.{◌⊎◌, inl, inr}
use mathlib.Core.Option.{Option, none, some}
use mathlib.Core.Bool.{Bool, true, false, ◌||◌}
use native.Mathlib.Omega.{arith}
use borrow.Author.Tests.{ltb-false}
use lib.Dec.{ltb}
use lib.ListN.{length}
use Rattle.base.specs.Base.{when◌then◌else◌, Result, ok, stop, after}
use Rattle.frame.specs.Tree.{Value, Schema}
use Rattle.frame.specs.ValueFrame.{decode_value, encode_value}
use Rattle.frame.specs.SchemaFrame.{decode_schema}
use Rattle.frame.specs.Sound.{keys_rise, schema_sound}
use Rattle.avro.specs.Resolve.{resolve}
use Rattle.avro.specs.Defaults.{defaults_short}
use Rattle.avro.proofs.Refusals.{refusal-resolve}
use Rattle.frame.specs.Sound.{checked_value}
use Rattle.buffer.specs.After.{checked_result}
use Rattle.hulmbax.specs.Answer.{answer, answer_for, record_answer, checked_schema, workspace_size}

-- refusals from a number on, to 18, and 28
abbrev From : ℕ → {A : Type 0} → Result A → Type 0
From low (ok a) = Unit
From low (stop n) = (low ≤ n) × ((n ≤ 18) ⊎ (n ≡ 28))

-- and a result of 1 to 65,535 bytes
abbrev SmallFrom : ℕ → Result (List ℕ) → Type 0
SmallFrom low (ok r) = (1 ≤ length r) × (length r ≤ 65535)
SmallFrom low (stop n) = (low ≤ n) × ((n ≤ 18) ⊎ (n ≡ 28))

abbrev pub Small : Result (List ℕ) → Type 0
Small x = SmallFrom 1 x

small-after : {A : Type 0} (low : ℕ) (x : Result A) (f : A → Result (List ℕ)) → From low x → ((a : A) → SmallFrom low (f a)) → SmallFrom low (after x f)
unfolding after
small-after low (ok a) f p q = q a
small-after low (stop n) f p q = p

small-down : (low low' : ℕ) (x : Result (List ℕ)) → low ≤ low' → SmallFrom low' x → SmallFrom low x
small-down low low' (ok r) h p = p
small-down low low' (stop n) h p = (omega (arith, p.0), p.1)

-- ---- what one record gets: 5 to 18, and 28

value-from : (o : Option Value) → From 5 (checked_value o)
unfolding checked_value
value-from none = (omega arith, inl (omega arith))
value-from (some w) = go (keys_rise w)
  where
    go : (a : Bool) → From 5 (when a then ok w else stop 5)
    go true = tt
    go false = (omega arith, inl (omega arith))

resolve-from : (t : Schema) (w : Value) → From 5 (resolve t w)
resolve-from t w = go (resolve t w) (λ n e. refusal-resolve t w n e)
  where
    bounds : (n : ℕ) → ((6 ≤ n) × (n ≤ 17)) ⊎ (n ≡ 28) → (5 ≤ n) × ((n ≤ 18) ⊎ (n ≡ 28))
    bounds n (inl h) = (omega (arith, h.0), inl (omega (arith, h.1)))
    bounds n (inr h) = (omega (arith, h), inr h)

    go : (x : Result Value) → ((n : ℕ) → x ≡ stop n → ((6 ≤ n) × (n ≤ 17)) ⊎ (n ≡ 28)) → From 5 x
    go (ok y) f = tt
    go (stop n) f = bounds n (f n refl)

-- a node has a kind byte
kind-byte : (v : Value) → 1 ≤ length (encode_value v)
unfolding encode_value
kind-byte (Value.Scalar k n) = omega arith
kind-byte (Value.Octets k s) = omega arith
kind-byte (Value.Enum i s) = omega arith
kind-byte (Value.Array vs) = omega arith
kind-byte (Value.Map es) = omega arith
kind-byte (Value.Record es) = omega arith
kind-byte (Value.Union i v) = omega arith

checked_result-small : (len : ℕ) (b : List ℕ) → 1 ≤ length b → SmallFrom 5 (checked_result len b)
unfolding checked_result
checked_result-small len b h = go (ltb 65535 (length b)) (ltb len (length b)) refl
  where
    go : (x y : Bool) → ltb 65535 (length b) ≡ x → SmallFrom 5 (when x || y then stop 18 else ok b)
    go true y e = (omega arith, inl (omega arith))
    go false true e = (omega arith, inl (omega arith))
    go false false e = (h, ltb-false 65535 (length b) e)

record-small : (t : Schema) (v : List ℕ) (len : ℕ) → SmallFrom 5 (record_answer t v len)
unfolding record_answer
record-small t v len =
    small-after 5 (checked_value (decode_value v)) _ (value-from (decode_value v))
    λ w. small-after 5 (resolve t w) _ (resolve-from t w) λ x. checked_result-small len (encode_value x) (kind-byte x)

-- ---- with a schema that is checked first: 2 to 18, and 28

schema-from : (o : Option Schema) → From 2 (checked_schema o)
unfolding checked_schema
schema-from none = (omega arith, inl (omega arith))
schema-from (some t) = go (schema_sound t) (defaults_short t)
  where
    go : (a b : Bool) → From 2 (when a then (when b then ok t else stop 4) else stop 3)
    go true true = tt
    go true false = (omega arith, inl (omega arith))
    go false b = (omega arith, inl (omega arith))

answer_for-small : (s v : List ℕ) (len : ℕ) → SmallFrom 2 (answer_for s v len)
answer_for-small s v len = small-after 2 (checked_schema (decode_schema s)) _ (schema-from (decode_schema s)) λ t. small-down 2 5 (record_answer t v len) (omega arith) (record-small t v len)

-- so nothing but the workspace's length gives 1
pub answer_for-not-1 : (s v : List ℕ) (len : ℕ) → answer_for s v len ≡ stop 1 → ⊥
answer_for-not-1 s v len e = omega (arith, (subst (λ (x : Result (List ℕ)). SmallFrom 2 x) e (answer_for-small s v len)).0)

-- ---- the entry's answer: 1 to 18, and 28

pub answer-small : (s v : List ℕ) (len work : ℕ) → Small (answer s v len work)
unfolding answer
answer-small s v len work = go (ltb work workspace_size)
  where
    go : (b : Bool) → Small (when b then stop 1 else answer_for s v len)
    go true = (omega arith, inl (omega arith))
    go false = small-down 1 2 (answer_for s v len) (omega arith) (answer_for-small s v len)

pub answer-refusal-small : (s v : List ℕ) (len work n : ℕ) → answer s v len work ≡ stop n → (1 ≤ n) × ((n ≤ 18) ⊎ (n ≡ 28))
answer-refusal-small s v len work n e = subst (λ (x : Result (List ℕ)). Small x) e (answer-small s v len work)

pub answer-accepted-small : (s v : List ℕ) (len work : ℕ) (r : List ℕ) → answer s v len work ≡ ok r → (1 ≤ length r) × (length r ≤ 65535)
answer-accepted-small s v len work r e = subst (λ (x : Result (List ℕ)). Small x) e (answer-small s v len work)
