-- The entry's answer as one signed number: it tells which answer it stands for, and a refusal's number can be negated.
use Prim.Native.Nat.{ℕ, zero, suc, ◌<◌, max}
use mathlib.Core.Bool.{Bool, true, false}
use lib.Dec.{ltb}
use borrow.Author.Tests.{ltb-true, ltb-false}
use mathlib.Core.Path.{◌≡◌, refl, sym, ap, ◌∙◌, subst}
use mathlib.Core.List.{List}
use native.Mathlib.Omega.{arith}
use lib.IntN.{ℤ, pos, negsuc, neg_ℤ, ◌-ℤ◌, +ℤ_idl}
use mir.Syntax.{w32}
use mir.Val.{SFits, to_z, of_z}
use mir.ValLaws.{to_z-of_z, to_z_pos}
use Rattle.base.specs.Base.{when◌then◌else◌, Result, ok, stop}
use Rattle.hulmbax.specs.Answer.{answer}
use Rattle.hulmbax.specs.Entry.{Bounded, Coded, code_of, read_code, resolved_of}
use Rattle.hulmbax.proofs.Bounds.{Small, answer-small}

-- ---- every answer is a length from 1 or a number from 1

pub answer-bounded : (s v : List ℕ) (len work : ℕ) → Bounded (resolved_of (answer s v len work))
unfolding Bounded resolved_of
answer-bounded s v len work = go (answer s v len work) (answer-small s v len work)
  where
    go : (x : Result (List ℕ)) → Small x → Bounded (resolved_of x)
    go (ok r) h = h
    go (stop n) h = h

-- so it has a code
pub bounded-coded : (r : Result ℕ) → Bounded r → Coded r
unfolding Bounded Coded
bounded-coded (ok n) h = h.1
bounded-coded (stop e) h = h.0

-- ---- which one, the number tells: a record's length is positive, a refusal negative

pub code-accepted : (n : ℕ) → Bounded (ok n) → (k : ℕ) × (code_of (ok n) ≡ pos (suc k))
unfolding Bounded code_of
code-accepted zero h = absurd (omega (arith, h.0))
code-accepted (suc k) h = (k, refl)

pub code-refused : (e : ℕ) → Coded (stop e) → (k : ℕ) × (code_of (stop e) ≡ negsuc k)
unfolding Coded code_of
code-refused zero h = absurd (omega (arith, h))
code-refused (suc k) h = (k, refl)

pub read-code : (r : Result ℕ) → Coded r → read_code (code_of r) ≡ r
unfolding Coded code_of read_code
read-code (ok n) h = refl
read-code (stop zero) h = absurd (omega (arith, h))
read-code (stop (suc k)) h = refl

-- so two answers with one number are the same
pub code-injective : (r q : Result ℕ) → Coded r → Coded q → code_of r ≡ code_of q → r ≡ q
code-injective r q h k e = sym (read-code r h) ∙ ap read_code e ∙ read-code q k

-- ---- how much is cleared without a look

pub at-least : (n : ℕ) → max n 4096 ≡ (when ltb n 4096 then 4096 else n)
at-least n = go (ltb n 4096) refl
  where
    go : (b : Bool) → ltb n 4096 ≡ b → max n 4096 ≡ (when b then 4096 else n)
    go true e = let h = ltb-true n 4096 e in omega arith
    go false e = let h = ltb-false n 4096 e in omega arith

-- ---- a refusal's number negated

minus : (n : ℕ) → n < 256 → pos 0 -ℤ to_z w32 n ≡ neg_ℤ (pos n)
minus n h = +ℤ_idl (neg_ℤ (to_z w32 n)) ∙ ap neg_ℤ (to_z_pos w32 n (omega arith))

negated_fits : (n : ℕ) → n < 256 → SFits w32 (neg_ℤ (pos n))
negated_fits zero h = record { sfits = omega arith }
negated_fits (suc n) h = record { sfits = omega arith }

pub minus-fits : (n : ℕ) → n < 256 → SFits w32 (pos 0 -ℤ to_z w32 n)
minus-fits n h = subst (λ (z : ℤ). SFits w32 z) (sym (minus n h)) (negated_fits n h)

pub minus_is : (n : ℕ) → n < 256 → to_z w32 (of_z w32 (pos 0 -ℤ to_z w32 n)) ≡ neg_ℤ (pos n)
minus_is n h = ap (λ (z : ℤ). to_z w32 (of_z w32 z)) (minus n h) ∙ to_z-of_z w32 (neg_ℤ (pos n)) (negated_fits n h)
