-- What a String gives against a Fixed and a Decimal (Q-6), in the request's words: a constructor for each sentence.
use Rattle.std.specs.Prelude.{ℕ, ◌≤◌, ◌<◌, ◌≡◌, true, false, length}
use mathlib.Core.List.{List, Memᴰ}
use Rattle.std.proofs.Math.Option.{Option, some}
use Rattle.base.specs.Base.{ok, stop}
use Rattle.text.specs.Text.{Text}
use Rattle.utf8.specs.Utf8.{code_points}
use Rattle.decimal.specs.Decimal.{too_short_for}
use Rattle.frame.specs.Kind
use Rattle.frame.specs.Tree.{Value, Schema}
use Rattle.types.specs.Types.{Outcome}

-- a Decimal that neither 12 nor 13 stops
pub record Passes (precision scale : ℕ) (size : Option ℕ) : Type 0 where
  pub scale_within : scale ≤ precision
  pub size_enough : (n : ℕ) → size ≡ some n → too_short_for precision n ≡ false

pub data StringGives (t : Text) : Schema → Outcome → Type 0 where
  -- "String against Fixed must have the stated size in bytes, or 10 is given."
  stated_size : {n : ℕ} → length t ≡ n → StringGives t (Schema.Fixed n) (ok (Value.Octets Kind.Fixed t))
  another_size : {n : ℕ} → (length t ≡ n → ⊥) → StringGives t (Schema.Fixed n) (stop 10)
  -- 12, then 13, whatever the text is
  scale_exceeds : {p c : ℕ} {n : Option ℕ} → p < c → StringGives t (Schema.Decimal p c n) (stop 12)
  size_too_small : {p c n : ℕ} → c ≤ p → too_short_for p n ≡ true → StringGives t (Schema.Decimal p c (some n)) (stop 13)
  -- "String against Decimal must have enough bytes, one for each code point, for the precision, or 14 is given, after 6."
  above_a_byte : {p c : ℕ} {n : Option ℕ} {ps : List ℕ} {q : ℕ} → Passes p c n → code_points t ≡ some ps → Memᴰ q ps → 255 < q → StringGives t (Schema.Decimal p c n) (stop 6)
  too_few : {p c : ℕ} {n : Option ℕ} {ps : List ℕ} → Passes p c n → code_points t ≡ some ps → ((q : ℕ) → Memᴰ q ps → q ≤ 255) → too_short_for p (length ps) ≡ true
      → StringGives t (Schema.Decimal p c n) (stop 14)
  enough : {p c : ℕ} {n : Option ℕ} {ps : List ℕ} → Passes p c n → code_points t ≡ some ps → ((q : ℕ) → Memᴰ q ps → q ≤ 255) → too_short_for p (length ps) ≡ false
      → StringGives t (Schema.Decimal p c n) (ok (Value.Octets Kind.Decimal ps))
