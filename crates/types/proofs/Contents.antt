-- What a node of each kind holds: the table of contents, kind by kind.
use Prim.Native.Nat.{ℕ, zero, suc, ◌+◌, ◌-◌, ◌≤◌, ◌<◌}
use mathlib.Core.Path.{◌≡◌, refl, sym, ◌∙◌, subst}
use native.Mathlib.Omega.{arith}
use lib.ListN.{get_or, drop}
use lib.Seq.{get_or-drop}
use Rattle.frame.specs.Kind
use Rattle.frame.specs.ValueFrame.{wide, flag, counted, text, plain, array, symbol, unknown, contents, kind_content}

pub null-content : kind_content Kind.Null ≡ wide 0
unfolding contents
null-content = refl

pub boolean-content : kind_content Kind.Boolean ≡ flag
unfolding contents
boolean-content = refl

pub int-content : kind_content Kind.Int ≡ wide 4
unfolding contents
int-content = refl

pub long-content : kind_content Kind.Long ≡ wide 8
unfolding contents
long-content = refl

pub float-content : kind_content Kind.Float ≡ wide 4
unfolding contents
float-content = refl

pub double-content : kind_content Kind.Double ≡ wide 8
unfolding contents
double-content = refl

pub bytes-content : kind_content Kind.Bytes ≡ counted
unfolding contents
bytes-content = refl

pub string-content : kind_content Kind.String ≡ text
unfolding contents
string-content = refl

pub array-content : kind_content Kind.Array ≡ array
unfolding contents
array-content = refl

pub enum-content : kind_content Kind.Enum ≡ symbol
unfolding contents
enum-content = refl

pub fixed-content : kind_content Kind.Fixed ≡ counted
unfolding contents
fixed-content = refl

pub decimal-content : kind_content Kind.Decimal ≡ counted
unfolding contents
decimal-content = refl

pub uuid-content : kind_content Kind.Uuid ≡ plain 16
unfolding contents
uuid-content = refl

pub duration-content : kind_content Kind.Duration ≡ plain 12
unfolding contents
duration-content = refl

-- Date and TimeMillis
pub short-time-content : (k : ℕ) → 0x10 ≤ k → k ≤ 0x11 → kind_content k ≡ wide 4
unfolding contents
short-time-content k h l =
    let e : 16 + (k - 16) ≡ k = omega arith in
    subst (λ (i : ℕ). kind_content i ≡ wide 4) e (sym (get_or-drop 16 contents (k - 16) unknown) ∙ go (k - 16) (omega arith))
  where
    go : (j : ℕ) → j < 2 → get_or (drop 16 contents) j unknown ≡ wide 4
    go zero m = refl
    go (suc zero) m = refl
    go (suc (suc j)) m = absurd (omega arith)

-- TimeMicros to LocalTimestampNanos
pub long-time-content : (k : ℕ) → 0x12 ≤ k → k ≤ 0x18 → kind_content k ≡ wide 8
unfolding contents
long-time-content k h l =
    let e : 18 + (k - 18) ≡ k = omega arith in
    subst (λ (i : ℕ). kind_content i ≡ wide 8) e (sym (get_or-drop 18 contents (k - 18) unknown) ∙ go (k - 18) (omega arith))
  where
    go : (j : ℕ) → j < 7 → get_or (drop 18 contents) j unknown ≡ wide 8
    go zero m = refl
    go (suc zero) m = refl
    go (suc (suc zero)) m = refl
    go (suc (suc (suc zero))) m = refl
    go (suc (suc (suc (suc zero)))) m = refl
    go (suc (suc (suc (suc (suc zero))))) m = refl
    go (suc (suc (suc (suc (suc (suc zero)))))) m = refl
    go (suc (suc (suc (suc (suc (suc (suc j))))))) m = absurd (omega arith)
