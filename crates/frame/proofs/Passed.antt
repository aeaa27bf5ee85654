-- What is known of frames that passed their checks: their trees were read; and number 5 by the verdict on a value frame.
use Prim.Native.Nat.{ℕ}
use mathlib.Core.Path.{◌≡◌, refl, ap, ◌∙◌}
use mathlib.Core.List.{List}
use mathlib.Core.Option.{Option, none, some}
use mathlib.Core.Bool.{Bool, true, false}
use native.Mathlib.Omega.{arith}
use lib.Dec.{ltb, eqb}
use lib.ListN.{length}
use Rattle.base.specs.Base.{when◌then◌else◌, Result, ok, stop, accepted}
use Rattle.text.specs.Read.{Read, ◌>>=◌}
use Rattle.text.specs.Measured.{Reads}
use Rattle.frame.specs.Tree.{Value}
use Rattle.frame.specs.Readers.{whole}
use Rattle.frame.specs.ValueFrame.{read_value, decode_value}
use Rattle.frame.specs.Sound.{keys_rise, checked_value}
use Rattle.frame.specs.Checks.{verdict, value_verdict}
use Rattle.frame.specs.declared.Verdict.{Verdict}
use Rattle.frame.specs.declared.Verdict.TheVariants.{NoFrame, Unsound, Sound}

-- a tree that was decoded was read
pub whole-reads : {A : Type 0} (p : List ℕ → Read A) (s : List ℕ) (a : A) → whole p s ≡ some a → (r : List ℕ) × (p s ≡ some (a, r))
unfolding whole ◌>>=◌
whole-reads {A} p s a e = long (ltb 65535 (length s)) e
  where
    ended : (b : Bool) (x : A × List ℕ) → p s ≡ some x → (when b then some x.0 else none) ≡ some a → (r : List ℕ) × (p s ≡ some (a, r))
    ended true x q e = let f : x.0 ≡ a = cc in (x.1, q ∙ ap (λ (y : A). some (y, x.1)) f)
    ended false x q e = let z : ◌≡◌ {A = ℕ} 0 1 = cc in absurd (omega arith)

    next : (o : Read A) → p s ≡ o → ◌>>=◌ {B = A} o (λ x. when eqb (length x.1) 0 then some x.0 else none) ≡ some a → (r : List ℕ) × (p s ≡ some (a, r))
    next none q e = let z : ◌≡◌ {A = ℕ} 0 1 = cc in absurd (omega arith)
    next (some x) q e = ended (eqb (length x.1) 0) x q e

    long : (b : Bool) → (when b then none else ◌>>=◌ {B = A} (p s) (λ x. when eqb (length x.1) 0 then some x.0 else none)) ≡ some a → (r : List ℕ) × (p s ≡ some (a, r))
    long true e = let z : ◌≡◌ {A = ℕ} 0 1 = cc in absurd (omega arith)
    long false e = next (p s) refl e

-- and so was that of a value frame that number 5 passes
pub value-decoded : (v : List ℕ) (w : Value) → checked_value (decode_value v) ≡ ok w → decode_value v ≡ some w
unfolding checked_value
value-decoded v w e = go (decode_value v) refl e
  where
    test : (u : Value) (b : Bool) → decode_value v ≡ some u → (when b then ok u else stop 5) ≡ ok w → decode_value v ≡ some w
    test u true d e = let f : u ≡ w = cc in d ∙ ap (λ (x : Value). some x) f
    test u false d e = let z : ◌≡◌ {A = ℕ} 0 1 = cc in absurd (omega arith)

    go : (o : Option Value) → decode_value v ≡ o → checked_value o ≡ ok w → decode_value v ≡ some w
    go none q e = let z : ◌≡◌ {A = ℕ} 0 1 = cc in absurd (omega arith)
    go (some u) q e = test u (keys_rise u) q e

pub passed_reads : (v : List ℕ) (w : Value) → checked_value (decode_value v) ≡ ok w → (r : List ℕ) × (read_value 16 v ≡ some (w, r))
unfolding decode_value
passed_reads v w e = whole-reads (read_value 16) v w (value-decoded v w e)

-- number 5 by the verdict
abbrev pub is_sound : Verdict → Bool
is_sound NoFrame = false
is_sound Unsound = false
is_sound Sound = true

pub accepted-verdict : (v : List ℕ) → accepted (checked_value (decode_value v)) ≡ is_sound (value_verdict v)
unfolding value_verdict verdict checked_value accepted
accepted-verdict v = go (decode_value v)
  where
    test : (w : Value) (b : Bool) → accepted (when b then ok w else stop 5) ≡ is_sound (when b then Sound else Unsound)
    test w true = refl
    test w false = refl

    go : (o : Option Value) → accepted (checked_value o) ≡ is_sound (verdict keys_rise o)
    go none = refl
    go (some w) = test w (keys_rise w)

-- ---- frames that number 5 passes, and those that it stops

abbrev pub Passes : List ℕ → Bool
Passes v = accepted (checked_value (decode_value v))

is_ok : (r : Result Value) → accepted r ≡ true → (w : Value) × (r ≡ ok w)
unfolding accepted
is_ok (ok w) e = (w, refl)
is_ok (stop n) e = let z : ◌≡◌ {A = ℕ} 0 1 = cc in absurd (omega arith)

pub passed : (v : List ℕ) → Passes v ≡ true → (w : Value) × (checked_value (decode_value v) ≡ ok w)
passed v e = is_ok (checked_value (decode_value v)) e

pub stopped : (v : List ℕ) → Passes v ≡ false → checked_value (decode_value v) ≡ stop 5
unfolding checked_value accepted
stopped v e = go (decode_value v) e
  where
    test : (w : Value) (b : Bool) → accepted (when b then ok w else stop 5) ≡ false → (when b then ok w else stop 5) ≡ stop 5
    test w true e = let z : ◌≡◌ {A = ℕ} 0 1 = cc in absurd (omega arith)
    test w false e = refl

    go : (o : Option Value) → accepted (checked_value o) ≡ false → checked_value o ≡ stop 5
    go none e = refl
    go (some w) e = test w (keys_rise w) e

pub passes-reads : (v : List ℕ) → Passes v ≡ true → Reads (read_value 16 v)
unfolding Reads
passes-reads v e =
    let p : (w : Value) × (checked_value (decode_value v) ≡ ok w) = passed v e in
    let r : (r : List ℕ) × (read_value 16 v ≡ some (p.0, r)) = passed_reads v p.0 p.1 in
    (p.0, (r.0, r.1))
