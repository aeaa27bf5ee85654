-- A String against a Fixed and a Decimal gives exactly what Q-6 says, as a value and as a default.
use Prim.Native.Nat.{ℕ, ◌≤◌}
use mathlib.Core.Path.{◌≡◌, refl, sym, ap, ◌∙◌, subst}
use mathlib.Core.List.{List}
use mathlib.Core.Option.{Option, none, some, get_or}
use mathlib.Core.Bool.{Bool, true, false}
use native.Mathlib.Omega.{arith}
use borrow.Author.Tests.{eq-eqb}
use lib.Dec.{ltb, eqb, ltb→lt, nltb→le, eqb→eq}
use lib.ListN.{length}
use Rattle.base.specs.Base.{ok, stop}
use Rattle.text.specs.Text.{Text, ascii}
use Rattle.utf8.specs.Utf8.{Start, is_utf8, points_from, code_points, all_latin1}
use Rattle.utf8.proofs.ByteSized.{all_latin1→each, each→all_latin1, above→not_latin1, not_latin1→above}
use Rattle.decimal.specs.Decimal.{too_short_for}
use Rattle.frame.specs.Kind
use Rattle.frame.specs.Tree.{Value, Entries, Schema, no_entries, peel, schema_kind}
use Rattle.types.specs.Types.{Outcome, fixed_too_short}
use Rattle.types.proofs.Strings.{string-into-fixed, string-of-another-size, string-into-decimal, string-of-too-few, string-above}
use Rattle.avro.specs.Resolve.{resolve}
use Rattle.avro.specs.Strings.{Passes, StringGives, stated_size, another_size, scale_exceeds, size_too_small, above_a_byte, too_few, enough}
use Rattle.avro.proofs.Leaves.{scale-first, size-second}
use Rattle.avro.proofs.WalkSentences.{Absent, field_outcome, default-taken}

-- ---- what is said comes out

passes : (p c : ℕ) (n : Option ℕ) → Passes p c n → fixed_too_short p n ≡ false
unfolding fixed_too_short
passes p c none h = refl
passes p c (some n) h = h.size_enough n refl

-- by itself, or in one Union
pub string-gives : {t : Text} {s : Schema} {o : Outcome} → StringGives t s o → (v : Value) → peel v ≡ Value.Octets Kind.String t → resolve s v ≡ o
unfolding resolve
string-gives {t} (stated_size {n} h) v e = rw e (string-into-fixed n t h)
string-gives {t} (another_size {n} h) v e = rw e (string-of-another-size n t h)
string-gives {t} (scale_exceeds {p} {c} {n} h) v e = scale-first p c h n v
string-gives {t} (size_too_small {p} {c} {n} h q) v e = size-second p c h n q v
string-gives {t} (above_a_byte {p} {c} {n} {ps} {q} h d m a) v e = rw e (string-above p c n h.scale_within (passes p c n h) t ps d (above→not_latin1 ps q m a))
string-gives {t} (too_few {p} {c} {n} {ps} h d b q) v e = rw e (string-of-too-few p c n h.scale_within (passes p c n h) t ps d (each→all_latin1 ps b) q)
string-gives {t} (enough {p} {c} {n} {ps} h d b q) v e = rw e (string-into-decimal p c n h.scale_within (passes p c n h) t ps d (each→all_latin1 ps b) q)

text-gives : {t : Text} {s : Schema} {o : Outcome} → StringGives t s o → resolve s (Value.Octets Kind.String t) ≡ o
unfolding peel
text-gives {t} g = string-gives g (Value.Octets Kind.String t) refl

-- a missing field's default is no exception
not-union : {t : Text} {s : Schema} {o : Outcome} → StringGives t s o → schema_kind s ≡ Kind.Union → ⊥
unfolding schema_kind
not-union (stated_size h) e = omega (arith, e)
not-union (another_size h) e = omega (arith, e)
not-union (scale_exceeds h) e = omega (arith, e)
not-union (size_too_small h q) e = omega (arith, e)
not-union (above_a_byte h c m a) e = omega (arith, e)
not-union (too_few h c b q) e = omega (arith, e)
not-union (enough h c b q) e = omega (arith, e)

pub default-gives : {t : Text} {s : Schema} {o : Outcome} (n : Text) (es : Entries) → Absent n es → StringGives t s o → field_outcome n (some (Value.Octets Kind.String t)) s es ≡ o
default-gives {t} {s} n es h g = default-taken n s es (Value.Octets Kind.String t) h (not-union g) ∙ text-gives g

-- say, `ab` as the default of a Fixed of 4, and of 2
pub short-default : field_outcome (ascii "a") (some (Value.Octets Kind.String (ascii "ab"))) (Schema.Fixed 4) no_entries ≡ stop 10
unfolding Absent ascii
short-default = default-gives (ascii "a") no_entries tt (another_size (λ e. omega (arith, e)))

pub right-default : field_outcome (ascii "a") (some (Value.Octets Kind.String (ascii "ab"))) (Schema.Fixed 2) no_entries ≡ ok (Value.Octets Kind.Fixed (ascii "ab"))
unfolding Absent ascii
right-default = default-gives (ascii "a") no_entries tt (stated_size refl)

-- ---- what comes out is said

given : {t : Text} {s : Schema} {o : Outcome} → StringGives t s o → StringGives t s (resolve s (Value.Octets Kind.String t))
given {t} {s} g = subst (StringGives t s) (sym (text-gives g)) g

pub fixed-given : (t : Text) (n : ℕ) → StringGives t (Schema.Fixed n) (resolve (Schema.Fixed n) (Value.Octets Kind.String t))
fixed-given t n = go (eqb (length t) n) refl
  where
    go : (b : Bool) → eqb (length t) n ≡ b → StringGives t (Schema.Fixed n) (resolve (Schema.Fixed n) (Value.Octets Kind.String t))
    go true e = given (stated_size (eqb→eq (length t) n (rw e tt)))
    go false e = given (another_size (λ q. let z : true ≡ false = sym (eq-eqb (length t) n q) ∙ e in let y : ◌≡◌ {A = ℕ} 0 1 = cc in omega arith))

-- where neither 12 nor 13 stops the schema
passed-given : (t ps : List ℕ) → code_points t ≡ some ps → (p c : ℕ) (n : Option ℕ) → Passes p c n
    → StringGives t (Schema.Decimal p c n) (resolve (Schema.Decimal p c n) (Value.Octets Kind.String t))
passed-given t ps e p c n h = go (all_latin1 ps) refl (too_short_for p (length ps)) refl
  where
    go : (a : Bool) → all_latin1 ps ≡ a → (b : Bool) → too_short_for p (length ps) ≡ b
        → StringGives t (Schema.Decimal p c n) (resolve (Schema.Decimal p c n) (Value.Octets Kind.String t))
    go false l b q = let r = not_latin1→above ps l in given (above_a_byte h e r.1 r.2)
    go true l true q = given (too_few h e (all_latin1→each ps (rw l tt)) q)
    go true l false q = given (enough h e (all_latin1→each ps (rw l tt)) q)

sized-given : (t ps : List ℕ) → code_points t ≡ some ps → (p c : ℕ) → c ≤ p → (n : Option ℕ)
    → StringGives t (Schema.Decimal p c n) (resolve (Schema.Decimal p c n) (Value.Octets Kind.String t))
sized-given t ps e p c l none = passed-given t ps e p c none (record { scale_within = l; size_enough = λ n q. let z : ◌≡◌ {A = ℕ} 0 1 = cc in absurd (omega arith) })
sized-given t ps e p c l (some k) = go (too_short_for p k) refl
  where
    go : (b : Bool) → too_short_for p k ≡ b → StringGives t (Schema.Decimal p c (some k)) (resolve (Schema.Decimal p c (some k)) (Value.Octets Kind.String t))
    go true q = given (size_too_small l q)
    go false q = passed-given t ps e p c (some k) (record { scale_within = l; size_enough = λ n i. subst (λ (m : ℕ). too_short_for p m ≡ false) (ap (λ o. get_or o 0) i) q })

pub decimal-given : (t : Text) → is_utf8 t ≡ true → (p c : ℕ) (n : Option ℕ)
    → StringGives t (Schema.Decimal p c n) (resolve (Schema.Decimal p c n) (Value.Octets Kind.String t))
unfolding code_points
decimal-given t u p c n = go (ltb p c) refl
  where
    go : (b : Bool) → ltb p c ≡ b → StringGives t (Schema.Decimal p c n) (resolve (Schema.Decimal p c n) (Value.Octets Kind.String t))
    go true e = given (scale_exceeds (ltb→lt p c (rw e tt)))
    go false e = sized-given t (points_from Start 0 t) (rw u) p c (nltb→le p c (rw e tt)) n
